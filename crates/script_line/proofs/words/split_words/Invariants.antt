use Rattle.script_line.specs.Words.{bytes_of}
use Rattle.script_line.proofs.Cut.{Cuts}
use Rattle.script_line.proofs.words.split_words.Given as goal

abbrev pub invariant-loop-i : goal.invariant-loop-i
invariant-loop-i l = Cuts l.line (bytes_of l.words.items) l.start l.i l.is_quoted
