use Rattle.std.proofs.Common.{◌≡◌, drop}
use Rattle.script_line.specs.Table.{entry, rows_of}
use Rattle.script_line.proofs.table.entry.Given as goal

abbrev pub invariant-loop-name : goal.invariant-loop-name
invariant-loop-name g l = entry (rows_of (drop l.name-index l.rows)) l.word ≡ entry (rows_of l.rows) l.word
