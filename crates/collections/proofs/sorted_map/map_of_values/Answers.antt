use Rattle.std.proofs.Common.{◌≡◌, [], ap, sym, subst, refl, ◌∙◌}
use Rattle.std.specs.Ordering.{eq_by_cmp}
use Rattle.imm_base.specs.declared.val.Val.{Val}
use Rattle.imm_base.specs.declared.comparers.ValOrder.{ValOrder}
use Rattle.imm_base.specs.Order.{val_eq, order_cmp}
use Rattle.imm_base.specs.Edits.{Gives}
use Rattle.imm_base.specs.Maps.{Entries, map_set_all}
use Rattle.sorted_maps.specs.Ordered.{Ordered}
use Rattle.sorted_maps.specs.Answers.{Answers}
use Rattle.plain_model.specs.declared.plain.Kind.TheVariants as kinds
use Rattle.plain_model.specs.Plain.{pairs}
use Rattle.collections.specs.Changes.{made_map}
use Rattle.collections.specs.Kinds.{kind_of_pairs, sorted_map_of}
use Rattle.collections.proofs.Maps.{map_judged, new_map}
use Rattle.collections.proofs.sorted_map.map_of_values.Goals as goal

pub returns : goal.returns
returns c =
    let order = c.args.order in
    let ps = pairs c.args.values.now in
    let F : ValOrder → Entries Val Val → Entries Val Val → Gives Val (Entries Val Val) = λ o ps m. map_set_all (order_cmp o) (eq_by_cmp (order_cmp o)) val_eq ps m in
    let e : F c.new-empty.result.order c.as_slice.result.now c.new-empty.result.pairs ≡ F order ps [] =
    ap (λ (o : ValOrder). F o c.as_slice.result.now c.new-empty.result.pairs) c.new-empty.ensures.order
    ∙ ap (λ (qs : Entries Val Val). F order qs c.new-empty.result.pairs) (c.as_slice.ensures.value ∙ c.in_ok-pairs.ensures)
    ∙ ap (λ (m : Entries Val Val). F order ps m) c.new-empty.ensures.pairs in
    let P : Gives Val (Entries Val Val) → Type 0 = λ gives. Answers c.new-empty.result.order c.set_items.result gives in
    let Q : ValOrder → Type 0 = λ o. Answers o c.set_items.result (F order ps []) in
    let called : Answers order c.set_items.result (F order ps []) = subst Q c.new-empty.ensures.order (subst P e c.set_items.ensures) in
    let none : kind_of_pairs (kinds.SMap c.new-empty.result.order) c.new-empty.result.pairs ≡ kind_of_pairs (kinds.SMap order) [] =
    ap (λ (o : ValOrder). kind_of_pairs (kinds.SMap o) c.new-empty.result.pairs) c.new-empty.ensures.order ∙ ap (λ (m : Entries Val Val). kind_of_pairs (kinds.SMap order) m) c.new-empty.ensures.pairs in
    let set = map_judged {S = Ordered Val Val ValOrder} (λ m. m.pairs) (λ m. m.order) kinds.SMap order [] c.set_items.result (F order ps []) called in
    ap (λ m. made_map sorted_map_of m) c.or_unchanged.ensures
    ∙ new_map {S = Ordered Val Val ValOrder} (λ m. m.pairs) (λ m. m.order) kinds.SMap order (order_cmp order) (eq_by_cmp (order_cmp order)) c.args.values.now refl c.new-empty.result c.in_ok-set.set none (rw (sym c.in_ok-set.ensures) at set)
