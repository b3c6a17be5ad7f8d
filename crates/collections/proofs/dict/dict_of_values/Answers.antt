use Rattle.std.proofs.Common.{◌≡◌, [], ap, sym, subst, refl, ◌∙◌}
use Rattle.imm_base.specs.declared.val.Val.{Val}
use Rattle.imm_base.specs.declared.comparers.ValEq.{ValEq}
use Rattle.imm_base.specs.Order.{val_eq, val_cmp, eq_same}
use Rattle.imm_base.specs.Edits.{Gives}
use Rattle.imm_base.specs.Maps.{Entries, map_set_all}
use Rattle.imm_dictionary.specs.Mapped.{Mapped}
use Rattle.imm_dictionary.specs.Answers.{MapAnswers}
use Rattle.plain_model.specs.declared.plain.Kind.TheVariants as kinds
use Rattle.plain_model.specs.Plain.{pairs}
use Rattle.collections.specs.Changes.{made_map}
use Rattle.collections.specs.Kinds.{kind_of_pairs, dict_of}
use Rattle.collections.proofs.Maps.{map_judged, new_map}
use Rattle.collections.proofs.dict.dict_of_values.Goals as goal

pub returns : goal.returns
returns c =
    let eq = c.args.eq in
    let ps = pairs c.args.values.now in
    let F : ValEq → Entries Val Val → Entries Val Val → Gives Val (Entries Val Val) = λ o ps m. map_set_all val_cmp (eq_same o) val_eq ps m in
    let e : F c.new-empty.result.eq c.as_slice.result.now c.new-empty.result.pairs ≡ F eq ps [] =
    ap (λ (o : ValEq). F o c.as_slice.result.now c.new-empty.result.pairs) c.new-empty.ensures.eq
    ∙ ap (λ (qs : Entries Val Val). F eq qs c.new-empty.result.pairs) (c.as_slice.ensures.value ∙ c.in_ok-pairs.ensures)
    ∙ ap (λ (m : Entries Val Val). F eq ps m) c.new-empty.ensures.pairs in
    let P : Gives Val (Entries Val Val) → Type 0 = λ gives. MapAnswers c.new-empty.result.eq c.set_items.result gives in
    let Q : ValEq → Type 0 = λ o. MapAnswers o c.set_items.result (F eq ps []) in
    let called : MapAnswers eq c.set_items.result (F eq ps []) = subst Q c.new-empty.ensures.eq (subst P e c.set_items.ensures) in
    let none : kind_of_pairs (kinds.Dict c.new-empty.result.eq) c.new-empty.result.pairs ≡ kind_of_pairs (kinds.Dict eq) [] =
    ap (λ (o : ValEq). kind_of_pairs (kinds.Dict o) c.new-empty.result.pairs) c.new-empty.ensures.eq ∙ ap (λ (m : Entries Val Val). kind_of_pairs (kinds.Dict eq) m) c.new-empty.ensures.pairs in
    let set = map_judged {S = Mapped Val Val ValEq} (λ m. m.pairs) (λ m. m.eq) kinds.Dict eq [] c.set_items.result (F eq ps []) called in
    ap (λ m. made_map dict_of m) c.or_unchanged.ensures
    ∙ new_map {S = Mapped Val Val ValEq} (λ m. m.pairs) (λ m. m.eq) kinds.Dict eq val_cmp (eq_same eq) c.args.values.now refl c.new-empty.result c.in_ok-set.set none (rw (sym c.in_ok-set.ensures) at set)
