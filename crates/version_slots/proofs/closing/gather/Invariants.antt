use Rattle.std.proofs.Common.{◌≡◌, List, ◌++◌, map, vec_len}
use Rattle.std.specs.Prelude.{All}
use Rattle.version_slots.specs.declared.tokens.Pass.{Pass}
use Rattle.version_slots.specs.Cells.{IsIdle, AreIn, olds_of}
use Rattle.version_slots.proofs.closing.gather.Given as goal

abbrev pub invariant-loop-pass : goal.invariant-loop-pass
invariant-loop-pass g l = record {
  table : l.seat.table_id ≡ l.top.table_id;
  idle : IsIdle l.seat.me.0;
  tables : All (λ p. p.place.table_id ≡ l.top.table_id) l.passes.items;
  others_idle : All (λ p. IsIdle p.place.me.0) l.passes.items;
  all : (done : List (Pass g.row.P.Denot g.row.P-Plain.Denot g.P.Payload)) × (l.fn.passes.items ≡ l.passes.items ++ done) × AreIn (map (λ p. p.place.me.0) done) (olds_of l.seat.me.0);
}

abbrev pub decreases-loop-pass : goal.decreases-loop-pass
decreases-loop-pass g l = vec_len l.passes
