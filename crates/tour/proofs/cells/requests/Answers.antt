use Rattle.std.proofs.Common.{ℕ, sym, ap, ◌∙◌, refl, subst, map}
use Rattle.version_slots.specs.Cells.{AreAll}
use Rattle.interlocked.specs.Known.{Known}
use Rattle.interlocked.proofs.Passed.{are_all}
use Rattle.tour.proofs.Passes.{all_after, in_any_case}
use Rattle.tour.proofs.cells.requests.Goals as goal

pub close-requires-clause-all : goal.close-requires-clause-all
close-requires-clause-all g c =
    let view = (λ (p : Known). p.view) in
    let new = are_all _ _ _ c.in_ok-cell.passes.items c.in_ok-cell.ensures.passes c.in_ok-cell.passes.items refl (λ k d near. (refl, refl)) in
    let all = subst (λ (n : ℕ). AreAll n (map view c.in_ok-cell.passes.items)) (sym c.in_ok-cell.ensures.cell.0) new in
    let one = all_after view _ _ 0 _ _ (c.count_request-first.ensures.number ∙ ap (λ (p : Known). p.view.number) c.index_mut.ensures.value) all in
    let two = all_after view _ _ 1 _ _ (c.count_request-second.ensures.number ∙ ap (λ (p : Known). p.view.number) c.index_mut-2.ensures.value) one in
    let number = in_any_case c.read-read.result c.read-read.ensures.read c.read-read.ensures.memory (λ t is. is.still.later.number) (λ e is. is.still.later.number) in
    all_after view _ _ 0 _ _ (number ∙ ap (λ (p : Known). p.view.number) c.index_mut-3.ensures.value) two
