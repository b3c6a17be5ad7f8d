-- Examples: a part of a script, and the lines that its worker has to write.
use Rattle.std.specs.Prelude.{◌≡◌, ℕ, List, [], ◌∷◌, map, Option, Some, option_map}
use Rattle.imm_base.specs.declared.val.Val.TheVariants.{Text}
use Rattle.plain_model.specs.declared.commands.Command.{Command}
use Rattle.plain_model.specs.declared.plain.Values.{Values}
use Rattle.plain_model.specs.declared.plain.Values.TheVariants as values
use Rattle.plain_model.specs.Text.{spaced, local_words}
use Rattle.plain_model.specs.Work.{work_from, local_lines}

pub record Example : Type 0 where
  pub commands : List Command
  pub lines : List (List ℕ)

-- the lines of the worker 1 with one part of these commands
abbrev pub lines_of : List Command → Option (List (List ℕ))
lines_of commands = option_map (λ ds. map (λ l. spaced (local_words 1 l)) (local_lines ds)) (work_from [] 1 1 (commands ∷ []))

abbrev pub Holds : Example → Type 0
Holds e = lines_of e.commands ≡ Some e.lines

abbrev pub texts : List (List ℕ) → Values
texts ts = values.List (map Text ts)
