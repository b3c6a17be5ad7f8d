use Rattle.std.proofs.Common.{sym, ◌∙◌, arith}
use Rattle.script_line.specs.Words.{bytes_of}
use Rattle.script_line.proofs.Cut.{Cuts-split, Cuts-other, Cuts-end}
use Rattle.script_line.proofs.words.split_words.Goals as goal
use Rattle.script_line.proofs.words.split_words.Goals.{then-is_split+in_ok-push_word, else-is_split}

pub loop-i-preserved : goal.loop-i-preserved
loop-i-preserved c =
    elim c.if-is_split.branch [
      | then-is_split+in_ok-push_word w ↦ rw (w.words-is, w.start-is, w.in_ok-push_word.ensures, c.quoted_after-is_quoted.ensures) (Cuts-split c.args.line.now (bytes_of c.loop-i.words.items) c.loop-i.start c.loop-i.i c.loop-i.is_quoted c.loop-i-test.true (sym c.is_split.ensures ∙ w.if-is_split.true) c.loop-i.invariant)
      | else-is_split w ↦ rw (w.words-is, w.start-is, c.quoted_after-is_quoted.ensures) (Cuts-other c.args.line.now (bytes_of c.loop-i.words.items) c.loop-i.start c.loop-i.i c.loop-i.is_quoted c.loop-i-test.true (sym c.is_split.ensures ∙ w.if-is_split.false) c.loop-i.invariant)
    ]

pub returns : goal.returns
returns c = rw c.in_ok-push_word-2.ensures (Cuts-end c.args.line.now (bytes_of c.loop-i.words.items) c.loop-i.start c.loop-i.i c.loop-i.is_quoted (omega arith) c.loop-i.invariant)
