use Rattle.std.proofs.Common.{◌≡◌, drop}
use Rattle.script_line.specs.Words.{bytes_of}
use Rattle.script_line.specs.Sources.{each}
use Rattle.script_line.specs.Values.{value}
use Rattle.script_line.proofs.Listing.{with_front}
use Rattle.script_line.proofs.sources.elements.Given as goal

abbrev pub invariant-loop-word : goal.invariant-loop-word
invariant-loop-word l = with_front l.found (each value (bytes_of (drop l.word-index l.words))) ≡ each value (bytes_of l.words)
