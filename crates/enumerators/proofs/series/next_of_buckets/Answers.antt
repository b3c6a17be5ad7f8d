use Rattle.std.proofs.Common.{◌≡◌, ◌∙◌, ap, sym, Some, slice_get}
use Rattle.std.specs.Option.{option_copied}
use Rattle.enumerators.proofs.Steps.{first_item}
use Rattle.enumerators.proofs.series.next_of_buckets.Goals as goal

pub returns-clause-first : goal.returns-clause-first
returns-clause-first g c =
    let bs = c.args.buckets.now.items in let p = c.args.place.now in let b = c.in_ok-at.field-0.now in
    let at : slice_get bs p.node ≡ Some b = sym c.at.ensures ∙ ap (λ o. option_copied o) c.in_ok-at.was in
    sym (first_item bs p.node p.item b at (c.requires.inside b at) ∙ ap (λ xs. slice_get xs p.item) (sym c.items-items.ensures) ∙ c.item_at-item.ensures)
