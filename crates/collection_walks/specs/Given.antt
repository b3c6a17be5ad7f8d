-- What the plain model's commands on walks give, by what the calls answer.
use Rattle.std.specs.Prelude.{◌≡◌, ℕ, Option, Result, Ok, Err}
use Rattle.plain_model.specs.declared.plain.Elem.{Elem}
use Rattle.plain_model.specs.declared.history.Refusal.{Refusal}
use Rattle.plain_model.specs.declared.report.Answer.{Answer}
use Rattle.plain_model.specs.declared.report.Answer.TheVariants as answers
use Rattle.plain_model.specs.Names.{Name}
use Rattle.plain_model.specs.Places.{Rest, take_place, current_of}
use Rattle.plain_model.specs.Locals.{Locals, Given, gives, bind, walk, walk_at, Handle, handle_of_nobody, rest_of, version_now, unchanged_rest, next_answer, next_given, current_given, reset_given, dispose_given}
use Rattle.enumerators.specs.declared.walk.Walk.{Walk}
use Rattle.collection_walks.specs.Calls.{Called, handle, start_called, next_called, current_called, reset_called, dispose_called}

abbrev pub answer_of : {A : Type 0} → (A → Answer) → Result A Refusal → Answer
answer_of f (Ok x) = f x
answer_of f (Err refusal) = answers.Refused refusal

-- a command that is answered as a call is, and leaves the walks that the call leaves
abbrev pub given : {A : Type 0} → (A → Answer) → Called A → Locals → Given
given f c s = gives (answer_of f c.answer) (record s { walks = c.walks })

-- ---- `walk`

-- the handle of what has started, or nobody's
abbrev pub handle_or_nobody : Option Name → Result Walk Refusal → Handle
handle_or_nobody over (Ok w) = handle w over
handle_or_nobody over (Err refusal) = handle_of_nobody

-- a name is bound to it
abbrev pub walk_started : Name → Option Name → Called Walk → Locals → Given
walk_started x over c s =
    gives (answer_of (λ w. answers.Done) c.answer)
    (bind x (walk (handle_or_nobody over c.answer)) (record s { walks = c.walks }))

-- ---- the commands are the calls, where `now` is the version now of what is walked

abbrev pub WalkIsCall : Type 0
WalkIsCall = (x : Name) (over : Option Name) (made : ℕ) (rest : Rest Elem) (s : Locals) →
    walk_at x over made (take_place rest s.walks) s
    ≡ walk_started x over (start_called rest made s.walks) s

abbrev pub NextIsCall : Type 0
NextIsCall = (w : Walk) (over : Option Name) (s : Locals) (now : ℕ) → version_now s (handle w over) ≡ now →
    next_given (handle w over) (unchanged_rest s (handle w over)) s
    ≡ given next_answer (next_called w now s.walks) s

abbrev pub CurrentIsCall : Type 0
CurrentIsCall = (w : Walk) (over : Option Name) (s : Locals) →
    current_given (current_of (rest_of s (handle w over))) s
    ≡ given answers.Element (current_called w s.walks) s

abbrev pub ResetIsCall : Type 0
ResetIsCall = (w : Walk) (over : Option Name) (s : Locals) (now : ℕ) → version_now s (handle w over) ≡ now →
    reset_given (handle w over) (unchanged_rest s (handle w over)) s
    ≡ given (λ _. answers.Done) (reset_called w now s.walks) s

abbrev pub DisposeIsCall : Type 0
DisposeIsCall = (w : Walk) (over : Option Name) (s : Locals) →
    dispose_given (handle w over) (rest_of s (handle w over)) s
    ≡ given (λ _. answers.Done) (dispose_called w s.walks) s
