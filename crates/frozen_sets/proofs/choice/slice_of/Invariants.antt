use Rattle.std.proofs.Common.{◌≡◌, map}
use Rattle.std.specs.Prelude.{find}
use Rattle.plain_model.specs.Frozen.{slice_of, tells_apart, text_bytes}
use Rattle.frozen_sets.proofs.Slices.{rows_from}
use Rattle.frozen_sets.proofs.choice.slice_of.Given as goal

abbrev pub invariant-loop-len : goal.invariant-loop-len
invariant-loop-len l = find (tells_apart (map text_bytes l.keys)) (rows_from (tells_apart (map text_bytes l.keys)) l.least l.len) ≡ slice_of (map text_bytes l.keys)
