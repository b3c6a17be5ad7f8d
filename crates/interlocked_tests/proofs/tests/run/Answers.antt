use Rattle.std.proofs.Common.{◌≡◌, ℕ, List, [], ◌++◌, All, length, map, sym, ◌∙◌, subst}
use Rattle.std.proofs.lemmas.List.{take_at}
use Rattle.version_slots.specs.Cells.{AreAll}
use Rattle.interlocked.specs.declared.entry.Kept.{Kept}
use Rattle.interlocked.specs.Known.{Known}
use Rattle.interlocked.proofs.Passed.{all_new, all_of_cell, are_all}
use Rattle.interlocked_tests.proofs.tests.run.Goals as goal

pub work_all-requires-after_bounds : goal.work_all-requires-after_bounds
work_all-requires-after_bounds g c κs within k d near =
    let first : Kept = record { value = g.C.Share.plain c.args.first; entries = [] } in
    let new = all_new c.in-Ok.cell.table c.args.threads first c.as_mut_slice.result.now (c.as_mut_slice.ensures.value ∙ c.in-Ok.ensures.passes) k d near in (new.0, new.1)

pub close-requires-clause-table : goal.close-requires-clause-table
close-requires-clause-table g c =
    let first : Kept = record { value = g.C.Share.plain c.args.first; entries = [] } in let xs : List Known = c.as_mut_slice.result.now in let ys : List Known = c.work_all.new.passes in
    let whole = take_at ys (lib.ListN.drop (length ys) c.in-Ok.passes.items) c.in-Ok.passes.len (c.work_all.auto.passes ∙ c.as_mut_slice.ensures.len) in
    subst (λ (l : List Known). All (λ (p : Known). p.table ≡ c.in-Ok.cell.table) l) (sym whole) (all_of_cell c.in-Ok.cell.table c.args.threads first xs (c.as_mut_slice.ensures.value ∙ c.in-Ok.ensures.passes) ys c.work_all.auto.passes c.work_all.ensures)

pub close-requires-clause-all : goal.close-requires-clause-all
close-requires-clause-all g c =
    let first : Kept = record { value = g.C.Share.plain c.args.first; entries = [] } in let xs : List Known = c.as_mut_slice.result.now in let ys : List Known = c.work_all.new.passes in
    let whole = take_at ys (lib.ListN.drop (length ys) c.in-Ok.passes.items) c.in-Ok.passes.len (c.work_all.auto.passes ∙ c.as_mut_slice.ensures.len) in
    let all = are_all c.in-Ok.cell.table c.args.threads first xs (c.as_mut_slice.ensures.value ∙ c.in-Ok.ensures.passes) ys c.work_all.auto.passes c.work_all.ensures in
    subst (λ (n : ℕ). AreAll n (map (λ (p : Known). p.view) (lib.ListN.take c.in-Ok.passes.len (ys ++ lib.ListN.drop (length ys) c.in-Ok.passes.items)))) (sym c.in-Ok.ensures.cell.0) (subst (λ (l : List Known). AreAll c.args.threads (map (λ (p : Known). p.view) l)) (sym whole) all)
