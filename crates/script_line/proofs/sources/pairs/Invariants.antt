use Rattle.std.proofs.Common.{◌≡◌, drop}
use Rattle.script_line.specs.Words.{bytes_of}
use Rattle.script_line.specs.Sources.{each}
use Rattle.script_line.specs.Values.{pair}
use Rattle.script_line.proofs.Listing.{with_front}
use Rattle.script_line.proofs.sources.pairs.Given as goal

abbrev pub invariant-loop-word : goal.invariant-loop-word
invariant-loop-word l = with_front l.found (each pair (bytes_of (drop l.word-index l.words))) ≡ each pair (bytes_of l.words)
