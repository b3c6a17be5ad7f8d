-- The plain model's commands on walks give what the calls answer.
use Rattle.std.proofs.Common.{◌≡◌, ◌∙◌, ℕ, refl, ap, Option, Some, None, Result, Ok, Err}
use Rattle.plain_model.specs.declared.plain.Elem.{Elem}
use Rattle.plain_model.specs.declared.report.Answer.TheVariants as answers
use Rattle.plain_model.specs.Names.{Name}
use Rattle.plain_model.specs.Places.{Rest, Taking, take_place, WalkWhy, rest_if_unchanged, current_of}
use Rattle.plain_model.specs.Locals.{Locals, walk_at, rest_of, version_now, unchanged_rest, next_answer, next_given, current_given, reset_given, dispose_given}
use Rattle.enumerators.specs.declared.walk.Walk.{Walk}
use Rattle.collection_walks.specs.Calls.{handle, own_rest, started, start_called, moved_on, next_called, shown, current_called, moved_back, reset_called, dispose_called}
use Rattle.collection_walks.specs.Calls as calls
use Rattle.collection_walks.specs.Given.{given, walk_started}

-- `walk`
taken : (x : Name) (over : Option Name) (made : ℕ) (t : Option (Taking (Rest Elem))) (s : Locals) → walk_at x over made t s ≡ walk_started x over (started made t s.walks) s
taken x over made None s = refl
taken x over made (Some t) s = refl

pub walk_given_is : (x : Name) (over : Option Name) (made : ℕ) (rest : Rest Elem) (s : Locals)
    → walk_at x over made (take_place rest s.walks) s ≡ walk_started x over (start_called rest made s.walks) s
walk_given_is x over made rest s = taken x over made (take_place rest s.walks) s

module _ (w : Walk) (over : Option Name) (s : Locals) where
  moved : (r : Result (Rest Elem) WalkWhy) → next_given (handle w over) r s ≡ given next_answer (moved_on w r s.walks) s
  moved (Ok rest) = refl
  moved (Err why) = refl

  -- `next`, where this is the version now of what is walked
  pub next_given_is : (now : ℕ) → version_now s (handle w over) ≡ now
      → next_given (handle w over) (unchanged_rest s (handle w over)) s ≡ given next_answer (next_called w now s.walks) s
  next_given_is now is =
      ap (λ n. next_given (handle w over) (rest_if_unchanged w.made n (own_rest w s.walks)) s) is ∙ moved (calls.unchanged_rest w now s.walks)

  seen : (r : Result Elem WalkWhy) → current_given r s ≡ given answers.Element (shown r s.walks) s
  seen (Ok element) = refl
  seen (Err why) = refl

  -- `current`
  pub current_given_is : current_given (current_of (rest_of s (handle w over))) s ≡ given answers.Element (current_called w s.walks) s
  current_given_is = seen (current_of (own_rest w s.walks))

  back : (r : Result (Rest Elem) WalkWhy) → reset_given (handle w over) r s ≡ given (λ _. answers.Done) (moved_back w r s.walks) s
  back (Ok rest) = refl
  back (Err why) = refl

  -- `reset`
  pub reset_given_is : (now : ℕ) → version_now s (handle w over) ≡ now
      → reset_given (handle w over) (unchanged_rest s (handle w over)) s ≡ given (λ _. answers.Done) (reset_called w now s.walks) s
  reset_given_is now is =
      ap (λ n. reset_given (handle w over) (rest_if_unchanged w.made n (own_rest w s.walks)) s) is ∙ back (calls.unchanged_rest w now s.walks)

  gone : (r : Option (Rest Elem)) → dispose_given (handle w over) r s ≡ given (λ _. answers.Done) (calls.disposed w r s.walks) s
  gone (Some rest) = refl
  gone None = refl

  -- `dispose`
  pub dispose_given_is : dispose_given (handle w over) (rest_of s (handle w over)) s ≡ given (λ _. answers.Done) (dispose_called w s.walks) s
  dispose_given_is = gone (own_rest w s.walks)
