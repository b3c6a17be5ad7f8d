-- The latter of pairs with same keys are the first ones from the end.
use Rattle.std.proofs.Common.{◌≡◌, Bool, true, false, not, cond, [], ◌∷◌, reverse, ap, sym, ◌∙◌, refl}
use Rattle.std.specs.Prelude.{fold}
use Rattle.std.specs.Cmp.{IsTotalOrder, IsEquivalence, Equal-is, on_total}
use Rattle.std.specs.Ordering.{is_eq, on}
use Rattle.std.specs.declared.cmp.Ordering.{Ordering}
use Rattle.std.proofs.lemmas.List.{reverse-append, reverse-reverse}
use Rattle.std.proofs.lemmas.List.Sums.{fold-append}
use Rattle.std.proofs.lemmas.Map.Views.{any-filter_same}
use Rattle.imm_base.specs.Maps.{Entries, with_pair, without_key}
use Rattle.imm_base.specs.Sets.{has, with_element, union}
use Rattle.imm_base.specs.Kept.{AreTiesSame}
use Rattle.imm_base.proofs.Inserted.{put, insert_sorted_is_put, list_any-put, filter-put_left_out}
use Rattle.imm_base.proofs.Reordered.{Ascends, ascends_put, filter-put_kept}
use Rattle.frozen_sets.proofs.Firsts.{put_apart}

module _ {K V : Type 0} (cmp : K → K → Ordering) (same : K → K → Bool) (total : IsTotalOrder cmp) (equal : IsEquivalence same) (ties : AreTiesSame cmp same) where
  abbrev by_key : K × V → K × V → Ordering
  by_key = on (λ e. e.0) cmp

  abbrev same_key : K × V → K × V → Bool
  same_key = on (λ e. e.0) same

  by_key_total : IsTotalOrder by_key
  by_key_total = on_total (λ e. e.0) total

  -- the pair put in, in place of the pair with a same key
  abbrev pair : K × V → Entries K V → Entries K V
  pair p m = put by_key p (without_key same p.0 m)

  abbrev first : K × V → Entries K V → Entries K V
  first p m = cond (has same_key p m) m (put by_key p m)

  pair_is : (p : K × V) (m : Entries K V) → with_pair cmp same p.0 p.1 m ≡ pair p m
  pair_is p m = insert_sorted_is_put by_key p (without_key same p.0 m)

  first_is : (p : K × V) (m : Entries K V) → with_element by_key same_key p m ≡ first p m
  first_is p m = ap (λ t. cond (has same_key p m) m t) (insert_sorted_is_put by_key p m)

  ascends_first : (p : K × V) (m : Entries K V) → Ascends by_key m → Ascends by_key (first p m)
  ascends_first p m up = elim (has same_key p m) as (λ t. Ascends by_key (cond t m (put by_key p m))) [
    | true ↦ up
    | false ↦ ascends_put by_key by_key_total p m up
  ]

  differ : (q p : K × V) → same q.0 p.0 ≡ false → is_eq (by_key q p) ≡ false
  differ q p e = elim (is_eq (by_key q p)) as (λ t. is_eq (by_key q p) ≡ t → t ≡ false) [
    | true ↦ λ f. absurd (let g = sym e ∙ ties q.0 p.0 ((Equal-is (by_key q p)).0 f) in cc)
    | false ↦ λ _. refl
  ] refl

  -- q after p, or before it where it is not to count
  first_pair : (q p : K × V) (m : Entries K V) → Ascends by_key m → first q (pair p m) ≡ pair p (first q m)
  first_pair q p m up = elim (same q.0 p.0) as (λ t. same q.0 p.0 ≡ t → first q (pair p m) ≡ pair p (first q m)) [
    | true ↦ λ e. (
        let out : not (same p.0 q.0) ≡ false = ap not (equal.symm p.0 q.0 ∙ e) in
        rw (list_any-put by_key (same_key q) p (without_key same p.0 m), e) (elim (has same_key q m) as (λ t. pair p m ≡ pair p (cond t m (put by_key q m))) [
          | true ↦ refl
          | false ↦ ap (put by_key p) (sym (filter-put_left_out by_key (λ e. not (same p.0 e.0)) q m out))
        ])
        )
    | false ↦ λ e. (
        let stays : not (same p.0 q.0) ≡ true = ap not (equal.symm p.0 q.0 ∙ e) in
        let rest : has same_key q (without_key same p.0 m) ≡ has same_key q m = any-filter_same (same_key q) (λ d. not (same p.0 d.0)) true (λ d f. ap not (equal.symm p.0 d.0 ∙ sym (equal.congr q.0 d.0 p.0 f) ∙ e)) m in
        let apart : is_eq (by_key q p) ≡ false = differ q p e in
        rw (list_any-put by_key (same_key q) p (without_key same p.0 m), e, rest) (elim (has same_key q m) as (λ t. cond t (pair p m) (put by_key q (pair p m)) ≡ pair p (cond t m (put by_key q m))) [
          | true ↦ refl
          | false ↦ put_apart by_key by_key_total q p (without_key same p.0 m) apart ∙ ap (put by_key p) (sym (filter-put_kept by_key by_key_total (λ d. not (same p.0 d.0)) q m up stays))
        ])
        )
  ] refl

  -- ---- the list from its end

  firsts_pair : (p : K × V) (qs m : Entries K V) → Ascends by_key m → union by_key same_key (pair p m) qs ≡ pair p (union by_key same_key m qs)
  firsts_pair p [] m up = refl
  firsts_pair p (q ∷ qs) m up =
      ap (λ t. union by_key same_key t qs) (first_is q (pair p m) ∙ first_pair q p m up)
      ∙ firsts_pair p qs (first q m) (ascends_first q m up) ∙ ap (λ t. pair p (union by_key same_key t qs)) (sym (first_is q m))

  abbrev latter : Entries K V → Entries K V
  latter ps = fold (λ m p. with_pair cmp same p.0 p.1 m) [] ps

  from_end : (qs : Entries K V) → latter (reverse qs) ≡ union by_key same_key [] qs
  from_end [] = refl
  from_end (q ∷ qs) =
      ap latter (reverse-append (q ∷ []) qs) ∙ fold-append (λ m p. with_pair cmp same p.0 p.1 m) [] (reverse qs) (q ∷ [])
      ∙ pair_is q (latter (reverse qs)) ∙ ap (pair q) (from_end qs) ∙ sym (firsts_pair q qs [] tt)
      ∙ ap (λ t. union by_key same_key t qs) (sym (first_is q []))

  pub latter_is : (ps : Entries K V) → latter ps ≡ union by_key same_key [] (reverse ps)
  latter_is ps = ap latter (sym (reverse-reverse ps)) ∙ from_end (reverse ps)
