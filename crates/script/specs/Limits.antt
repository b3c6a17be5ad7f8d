-- How many there may be.
use Rattle.std.specs.Prelude.{ℕ, List, Bool, true, false, count_by, nat_lt, nat_le, Option, Some, None, Result, Ok, Err}
use Rattle.imm_base.specs.declared.TheConstants.{LIMIT}
use Rattle.plain_model.specs.declared.limits.TheConstants.{SEQ_LIMIT, PUBLISHES_LIMIT}
use Rattle.plain_model.specs.declared.plain.Values.{Values}
use Rattle.plain_model.specs.declared.plain.Values.TheVariants as values
use Rattle.plain_model.specs.declared.plain.Plain.{Plain}
use Rattle.plain_model.specs.declared.commands.Command.{Command}
use Rattle.plain_model.specs.declared.commands.Command.TheVariants as commands
use Rattle.plain_model.specs.declared.history.Refusal.{Refusal}
use Rattle.plain_model.specs.declared.report.CellDecl.{CellDecl}
use Rattle.plain_model.specs.declared.report.Version.{Version}
use Rattle.plain_model.specs.declared.report.Version.TheVariants as versions
use Rattle.plain_model.specs.Plain.{count, made}
use Rattle.script_line.specs.Lines.{command_values}

-- the most numbers of a `seq`, and the most elements of a cell's first contents
abbrev pub seq_limit : Version → ℕ
seq_limit versions.One = SEQ_LIMIT
seq_limit versions.Two = LIMIT

-- a `seq` of at most so many numbers
abbrev pub is_short : ℕ → Values → Bool
is_short most (values.Seq first n) = nat_le n most
is_short most _ = true

abbrev pub are_short : ℕ → Option Values → Bool
are_short most None = true
are_short most (Some vs) = is_short most vs

-- each `seq` of a command is short
unfoldable pub command_is_short : ℕ → Command → Bool
command_is_short most c = are_short most (command_values c)

-- a collection that could be made, of at most so many elements
abbrev pub few_enough : ℕ → Result Plain Refusal → Bool
few_enough most (Ok p) = nat_le (count p.values) most
few_enough most (Err r) = false

-- what a cell is declared with makes no more elements than it may have
abbrev pub contents_fit : ℕ → CellDecl → Bool
contents_fit most cell = few_enough most (made cell.kind cell.values)

unfoldable pub is_publish : Command → Bool
is_publish (commands.Publish cell x) = true
is_publish _ = false

-- at most so many times `publish` in a part with these commands
unfoldable pub may_publish : List Command → Command → Bool
may_publish cs (commands.Publish cell x) = nat_lt (count_by is_publish cs) PUBLISHES_LIMIT
may_publish cs _ = true
