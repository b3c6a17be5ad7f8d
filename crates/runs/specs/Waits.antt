-- A worker may leave out ordinals.
use Rattle.std.specs.Prelude.{ℕ, ◌+◌, List, [], ◌∷◌, slice_index_or}
use Rattle.std.specs.List.{AllByRecursion}
use Rattle.std.proofs.Common.{arith}
use Rattle.plain_model.specs.declared.history.Line.{Line}
use Rattle.runs.specs.declared.cell_run.CellRun.{CellRun}
use Rattle.runs.specs.declared.one_thread.OneThread.{OneThread}
use Rattle.runs.specs.OneThread.{IsEarlier, IsSoFar, AreSoFar}

pub earlier_later : (o : ℕ) (h : List Line) → AllByRecursion (IsEarlier o) h → AllByRecursion (IsEarlier (o + 1)) h
earlier_later o [] all = tt
earlier_later o (l ∷ h) all = (record { caller = all.0.caller; ordinal = let e = all.0.ordinal in omega arith }, earlier_later o h all.1)

-- the next ordinal may be left out
pub so_far_later : (o : ℕ) (c : CellRun) → IsSoFar o c → IsSoFar (o + 1) c
so_far_later o c s = record {
  first = s.first;
  kind = s.kind;
  fits = s.fits;
  value = s.value;
  position = s.position;
  order = s.order;
  probes = s.probes;
  earlier = earlier_later o c.lines s.earlier;
  low = let e = s.low in omega arith;
}

pub cells_wait : (cells : OneThread) (o : ℕ) → AreSoFar cells o → AreSoFar cells (o + 1)
cells_wait cells o h = record { each = λ k c lt. so_far_later o (slice_index_or cells.cells.items k c) (h.each k c lt) }
