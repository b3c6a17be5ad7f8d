-- Keys that are same have the same code.
use Rattle.std.proofs.Common.{◌≡◌, ◌⊎◌, ℕ, true, false, List, length, ap, sym, ◌∙◌, refl, subst, inl, inr, bit_and}
use Rattle.std.specs.Prelude.{nat_le}
use Rattle.std.specs.List.{list_any}
use Rattle.std.specs.Int.{w32, cast_unsigned}
use Rattle.imm_base.specs.declared.val.Val.{Val}
use Rattle.imm_base.specs.declared.comparers.ValEq.{ValEq}
use Rattle.imm_base.specs.declared.comparers.ValEq.TheVariants as equalities
use Rattle.imm_base.specs.Order.{eq_same}
use Rattle.imm_base.specs.OrderLaws.{val_eq_exact, eq_alike}
use Rattle.plain_model.specs.declared.plain.Strategy.{Strategy}
use Rattle.plain_model.specs.declared.plain.Strategy.TheVariants.{Linear, Hash}
use Rattle.plain_model.specs.Frozen.{is_integer, strategy_of}
use Rattle.frozen_sets.specs.declared.buckets.Buckets.{Buckets}
use Rattle.frozen_sets.specs.Codes.{code_of, bucket_of}
use Rattle.frozen_sets.specs.Keys.{AreKept}

-- where letters count alike, no slice is tried
in_any_case : (keys : List Val) → (strategy_of equalities.NoCase keys ≡ Linear) ⊎ (strategy_of equalities.NoCase keys ≡ Hash)
in_any_case keys = elim (nat_le (length keys) 4) as (λ t. nat_le (length keys) 4 ≡ t → (strategy_of equalities.NoCase keys ≡ Linear) ⊎ (strategy_of equalities.NoCase keys ≡ Hash)) [
  | true ↦ λ few. inl (rw few refl)
  | false ↦ λ many. inr (elim (list_any is_integer keys) as (λ t. list_any is_integer keys ≡ t → strategy_of equalities.NoCase keys ≡ Hash) [
    | true ↦ λ e. rw (many, e) refl
    | false ↦ λ e. rw (many, e) refl
  ] refl)
] refl

code_alike : (eq : ValEq) (strategy : Strategy) (keys : List Val) → strategy ≡ strategy_of eq keys → (v x : Val) → eq_same eq v x ≡ true → code_of strategy eq x ≡ code_of strategy eq v
code_alike equalities.Ordinal strategy keys chosen v x e = ap (code_of strategy equalities.Ordinal) (sym (val_eq_exact v x e))
code_alike equalities.One strategy keys chosen v x e = ap (code_of strategy equalities.One) (sym (val_eq_exact v x e))
code_alike equalities.NoCase strategy keys chosen v x e = elim (in_any_case keys) [
  | inl is ↦ subst (λ (s : Strategy). code_of s equalities.NoCase x ≡ code_of s equalities.NoCase v) (sym (chosen ∙ is)) refl
  | inr is ↦ subst (λ (s : Strategy). code_of s equalities.NoCase x ≡ code_of s equalities.NoCase v) (sym (chosen ∙ is)) (ap (cast_unsigned w32) (sym (eq_alike equalities.NoCase v x e)))
]

pub alike : (buckets : Buckets) (keys : List Val) (firsts nexts : List ℕ) → AreKept buckets keys firsts nexts → (v x : Val) → eq_same buckets.eq v x ≡ true → bucket_of buckets x ≡ bucket_of buckets v
alike buckets keys firsts nexts kept v x e =
    ap (λ (n : ℕ). bit_and n buckets.mask) (code_alike buckets.eq buckets.strategy keys kept.chosen v x e)
