use Rattle.std.proofs.Common.{◌≡◌, List, [], ap, sym, subst, refl, ◌∙◌}
use Rattle.std.specs.Ordering.{eq_by_cmp}
use Rattle.imm_base.specs.declared.val.Val.{Val}
use Rattle.imm_base.specs.declared.comparers.ValOrder.{ValOrder}
use Rattle.imm_base.specs.Order.{val_eq, order_cmp}
use Rattle.imm_base.specs.Edits.{Gives}
use Rattle.imm_base.specs.Sets.{union, set_union}
use Rattle.sorted_sets.specs.Ordered.{Ordered}
use Rattle.sorted_sets.specs.Answers.{Answers}
use Rattle.plain_model.specs.declared.plain.Kind.TheVariants as kinds
use Rattle.plain_model.specs.Plain.{elements}
use Rattle.collections.specs.Changes.{made_map}
use Rattle.collections.specs.Kinds.{kind_of, sorted_set_of}
use Rattle.collections.proofs.Sets.{set_judged, new_set}
use Rattle.collections.proofs.sorted_set.set_of_values.Goals as goal

pub returns : goal.returns
returns c =
    let order = c.args.order in
    let ys = elements c.args.values.now in
    let F : ValOrder → List Val → List Val → Gives Val (List Val) = λ o ys xs. set_union val_eq (order_cmp o) (eq_by_cmp (order_cmp o)) ys xs in
    let e : F c.new-empty.result.order c.as_slice.result.now c.new-empty.result.items ≡ F order ys [] =
    ap (λ (o : ValOrder). F o c.as_slice.result.now c.new-empty.result.items) c.new-empty.ensures.order
    ∙ ap (λ (zs : List Val). F order zs c.new-empty.result.items) (c.as_slice.ensures.value ∙ c.in_ok-values.ensures)
    ∙ ap (λ (xs : List Val). F order ys xs) c.new-empty.ensures.items in
    let P : Gives Val (List Val) → Type 0 = λ gives. Answers c.new-empty.result.order c.union_with.result gives in
    let Q : ValOrder → Type 0 = λ o. Answers o c.union_with.result (F order ys []) in
    let called : Answers order c.union_with.result (F order ys []) = subst Q c.new-empty.ensures.order (subst P e c.union_with.ensures) in
    let none : kind_of (kinds.SSet c.new-empty.result.order) c.new-empty.result.items ≡ kind_of (kinds.SSet order) [] =
    ap (λ (o : ValOrder). kind_of (kinds.SSet o) c.new-empty.result.items) c.new-empty.ensures.order ∙ ap (λ (xs : List Val). kind_of (kinds.SSet order) xs) c.new-empty.ensures.items in
    let judged = set_judged {S = Ordered Val ValOrder} (λ s. s.items) (λ s. s.order) kinds.SSet order [] c.union_with.result (F order ys []) called in
    ap (λ m. made_map sorted_set_of m) c.or_unchanged.ensures
    ∙ new_set {S = Ordered Val ValOrder} (λ s. s.items) (λ s. s.order) kinds.SSet order c.args.values.now (union (order_cmp order) (eq_by_cmp (order_cmp order)) [] ys) refl c.new-empty.result c.in_ok-union.union none (rw (sym c.in_ok-union.ensures) at judged)
