-- What the local commands come to, by what becomes of their collections.
use Rattle.std.specs.Prelude.{Option, Some, None, Result, Ok, Err}
use Rattle.imm_base.specs.declared.val.Edit.TheVariants.{Same, New}
use Rattle.plain_model.specs.declared.plain.Kind.{Kind}
use Rattle.imm_base.specs.declared.comparers.ValEq.{ValEq}
use Rattle.plain_model.specs.declared.commands.Query.{Query}
use Rattle.plain_model.specs.declared.plain.Values.{Values}
use Rattle.plain_model.specs.declared.plain.Plain.{Plain}
use Rattle.plain_model.specs.declared.history.Refusal.{Refusal}
use Rattle.plain_model.specs.declared.report.Answer.{Answer}
use Rattle.plain_model.specs.declared.report.Answer.TheVariants as answers
use Rattle.plain_model.specs.Names.{Name}
use Rattle.plain_model.specs.Plain.{Changed, nothing, elements, pairs}
use Rattle.plain_model.specs.Frozen.{frozen_elements, frozen_pairs}
use Rattle.plain_model.specs.Locals.{◌>>=◌, Locals, Given, Frozen, frozen_set, frozen_map, frozen_contents, count_answer, change_answer, edited, ask_given}
use Rattle.plain_model.specs.Locals as model
use Rattle.locals.specs.declared.bound.Bound.{Bound}
use Rattle.locals.specs.declared.bound.Bound.TheVariants as bounds
use Rattle.locals.specs.declared.results.LocalResult.{LocalResult}

abbrev pub answer_and_bind : Answer → Name → Bound → LocalResult
answer_and_bind a x b = record { answer = a; binds = Some (x, b) }

abbrev pub new_result : Name → Kind → Result Plain Refusal → LocalResult
new_result x kind (Ok p) = answer_and_bind (count_answer p) x (bounds.Collection p)
new_result x kind (Err r) = answer_and_bind (answers.Refused r) x (bounds.Collection (nothing kind))

abbrev pub let_result : Name → Plain → Changed → LocalResult
let_result y p c = answer_and_bind (change_answer c) y (bounds.Collection (edited p c))

abbrev pub rekey_result : Name → Plain → Kind → Changed → LocalResult
rekey_result y p kind (Err r) = answer_and_bind (answers.Refused r) y (bounds.Collection (nothing kind))
rekey_result y p kind c = let_result y p c

-- the frozen set and the frozen map of these values
abbrev pub set_of : ValEq → Values → Frozen
set_of eq vs = frozen_set eq (frozen_elements eq (elements vs))

abbrev pub map_of : ValEq → Values → Frozen
map_of eq vs = frozen_map eq (frozen_pairs eq (pairs vs))

abbrev pub frozen_result : Name → Frozen → LocalResult
frozen_result x f = answer_and_bind (count_answer (frozen_contents f)) x (bounds.Frozen f)

-- what a name that is bound so is answered, where the values of the question are there
abbrev pub asked : Option Query → model.Bound → Locals → Option Given
asked query b s = query >>= λ q. ask_given q b s
