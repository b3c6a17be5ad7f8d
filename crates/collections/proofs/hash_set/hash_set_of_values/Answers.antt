use Rattle.std.proofs.Common.{◌≡◌, List, [], ap, sym, subst, refl, ◌∙◌}
use Rattle.imm_base.specs.declared.val.Val.{Val}
use Rattle.imm_base.specs.declared.comparers.ValEq.{ValEq}
use Rattle.imm_base.specs.Order.{val_eq, val_cmp, eq_same}
use Rattle.imm_base.specs.Edits.{Gives}
use Rattle.imm_base.specs.Sets.{union, set_union}
use Rattle.hash_bucket.specs.Hashed.{Hashed}
use Rattle.imm_dictionary.specs.Answers.{SetAnswers}
use Rattle.plain_model.specs.declared.plain.Kind.TheVariants as kinds
use Rattle.plain_model.specs.Plain.{elements}
use Rattle.collections.specs.Changes.{made_map}
use Rattle.collections.specs.Kinds.{kind_of, hash_set_of}
use Rattle.collections.proofs.Sets.{set_judged, new_set}
use Rattle.collections.proofs.hash_set.hash_set_of_values.Goals as goal

pub returns : goal.returns
returns c =
    let eq = c.args.eq in
    let ys = elements c.args.values.now in
    let F : ValEq → List Val → List Val → Gives Val (List Val) = λ o ys xs. set_union val_eq val_cmp (eq_same o) ys xs in
    let e : F c.new-empty.result.eq c.as_slice.result.now c.new-empty.result.items ≡ F eq ys [] =
    ap (λ (o : ValEq). F o c.as_slice.result.now c.new-empty.result.items) c.new-empty.ensures.eq
    ∙ ap (λ (zs : List Val). F eq zs c.new-empty.result.items) (c.as_slice.ensures.value ∙ c.in_ok-values.ensures)
    ∙ ap (λ (xs : List Val). F eq ys xs) c.new-empty.ensures.items in
    let P : Gives Val (List Val) → Type 0 = λ gives. SetAnswers c.new-empty.result.eq c.union_with.result gives in
    let Q : ValEq → Type 0 = λ o. SetAnswers o c.union_with.result (F eq ys []) in
    let called : SetAnswers eq c.union_with.result (F eq ys []) = subst Q c.new-empty.ensures.eq (subst P e c.union_with.ensures) in
    let none : kind_of (kinds.HSet c.new-empty.result.eq) c.new-empty.result.items ≡ kind_of (kinds.HSet eq) [] =
    ap (λ (o : ValEq). kind_of (kinds.HSet o) c.new-empty.result.items) c.new-empty.ensures.eq ∙ ap (λ (xs : List Val). kind_of (kinds.HSet eq) xs) c.new-empty.ensures.items in
    let judged = set_judged {S = Hashed Val ValEq} (λ s. s.items) (λ s. s.eq) kinds.HSet eq [] c.union_with.result (F eq ys []) called in
    ap (λ m. made_map hash_set_of m) c.or_unchanged.ensures
    ∙ new_set {S = Hashed Val ValEq} (λ s. s.items) (λ s. s.eq) kinds.HSet eq c.args.values.now (union val_cmp (eq_same eq) [] ys) refl c.new-empty.result c.in_ok-union.union none (rw (sym c.in_ok-union.ensures) at judged)
