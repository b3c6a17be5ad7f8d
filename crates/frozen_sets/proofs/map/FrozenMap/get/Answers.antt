use Rattle.std.proofs.Common.{◌≡◌, ◌∙◌, List, map, slice_get, sym}
use Rattle.std.specs.List.{position}
use Rattle.imm_base.specs.declared.val.Val.{Val}
use Rattle.imm_base.specs.Order.{eq_same}
use Rattle.frozen_sets.proofs.Found.{got, value_found, value_not_found}
use Rattle.frozen_sets.proofs.map.FrozenMap.get.Goals as goal

pub returns-in-Some : goal.returns-in-Some
returns-in-Some g c =
    let same = eq_same c.args.self.now.eq c.args.key.now in
    let keys : List Val = map (λ e. e.0) c.args.self.now.pairs in
    let at : position same keys ≡ position (eq_same c.key_set.result.now.eq c.args.key.now) c.key_set.result.now.items = λ i. position (eq_same (sym c.key_set.ensures.eq i) c.args.key.now) (sym c.key_set.ensures.keys i) in
    got c.all_values.result.now c.in-Some.place c.get.result c.get.ensures.lookup.0 c.get.ensures.lookup.1 ∙ (λ i. slice_get (c.all_values.ensures i) c.in-Some.place)
    ∙ value_found same c.args.self.now.pairs c.in-Some.place (at ∙ sym c.in-Some.ensures)

pub returns-in-None : goal.returns-in-None
returns-in-None g c =
    let same = eq_same c.args.self.now.eq c.args.key.now in
    let keys : List Val = map (λ e. e.0) c.args.self.now.pairs in
    let at : position same keys ≡ position (eq_same c.key_set.result.now.eq c.args.key.now) c.key_set.result.now.items = λ i. position (eq_same (sym c.key_set.ensures.eq i) c.args.key.now) (sym c.key_set.ensures.keys i) in
    value_not_found same c.args.self.now.pairs (at ∙ sym c.in-None.ensures)
