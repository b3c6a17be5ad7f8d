-- What local commands answer and bind.
use Rattle.std.specs.Prelude.{◌≡◌, Bool, true, false, ◌&&◌, Option, Some, None}
use Rattle.plain_model.specs.declared.commands.Command.{Command}
use Rattle.plain_model.specs.declared.commands.Command.TheVariants as commands
use Rattle.plain_model.specs.declared.report.Answer.{Answer}
use Rattle.plain_model.specs.Sources.{is_within, are_within, op_values, query_values}
use Rattle.plain_model.specs.Names.{Name}
use Rattle.plain_model.specs.Locals.{Locals, Given, gives, bind, bound}
use Rattle.locals.specs.declared.bound.Bound.{Bound}
use Rattle.locals.specs.declared.results.LocalResult.{LocalResult}
use Rattle.locals.specs.Bound.{bound_of, can_answer}

-- the local commands that are built, with sequences that stay within 64 bits, and a question that is answered
abbrev pub can_run : Command → Locals → Bool
can_run (commands.New x kind src from) s = is_within src
can_run (commands.Let y x op from) s = are_within (op_values op)
can_run (commands.Rekey y x comparer) s = true
can_run (commands.Ask x query from) s = are_within (query_values query) && can_answer query (bound s x)
can_run (commands.Show x) s = true
can_run (commands.FrozenSet x eq src from) s = is_within src
can_run (commands.FrozenMap x eq src from) s = is_within src
can_run _ s = false

-- the names with one more, if there is one
abbrev pub bind_some : Option (Name × Bound) → Locals → Locals
bind_some None s = s
bind_some (Some b) s = bind b.0 (bound_of b.1) s

abbrev pub given_of : LocalResult → Locals → Given
given_of r s = gives r.answer (bind_some r.binds s)

-- what the model gives by a command, with the names before and after it: this answer, or nothing
abbrev pub IsGiven : Option Given → Option Answer → Locals → Locals → Type 0
IsGiven g None before after = (g ≡ None) × (after ≡ before)
IsGiven g (Some a) before after = g ≡ Some (gives a after)
