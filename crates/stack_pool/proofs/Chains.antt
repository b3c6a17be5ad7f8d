-- Two turns of a seat on one place.
use Rattle.std.proofs.Common.{◌≡◌, ◌≢◌, ℕ, suc, ◌+◌, ◌*◌, ◌<◌, ◌==◌, cond, Bool, List, [], ◌∷◌, ◌++◌, length, set, sym, refl, ap, ◌∙◌, append_assoc, get_or-set_same, set-set, Some, None, eq-eqb, ne_eqb, arith, zero, ◌≤◌, ◌-◌, length-set, ⊎_elim, append-nil}
use Rattle.std.specs.Prelude.{All}
use Rattle.std.proofs.lemmas.List.Elements.{All-append}
use Rattle.stack_pool.specs.declared.view.Found.{Found}
use Rattle.stack_pool.specs.declared.view.Keep.{Keep}
use Rattle.stack_pool.specs.declared.view.Keep.TheVariants.{Nothing, Out, Lent}
use Rattle.stack_pool.specs.declared.view.View.{View}
use Rattle.stack_pool.specs.Views.{number_of, kept_at, number_at, kept_count, IsOut, IsLent}
use Rattle.stack_pool.specs.Steps.{found}
use Rattle.stack_pool.specs.declared.view.Kind.{Kind}
use Rattle.stack_pool.specs.declared.view.Kind.TheVariants.{Probe, Take, Hold, Back}
use Rattle.stack_pool.specs.Calls.{owner_in, kept_as, taken_as, found_more, probe_steps, HasOwner, take_steps, Refused, Counts}
use Rattle.stack_pool.specs.declared.fault.Owner.{Owner}
use Rattle.stack_pool.specs.declared.fault.PoolFault.{PoolFault}
use Rattle.stack_pool.specs.declared.fault.PoolFault.TheVariants.{PoolFull, Disposed, Busy, NoNumber}

module _ {S : Type 0} where
  pub found_then : (v : View S) (p : ℕ) (k : Keep S) (fs gs : List Found) → kept_as (found_more v fs) p k gs ≡ kept_as v p k (fs ++ gs)
  found_then v p k fs gs i = record v { kept = set v.kept p k; found = append_assoc v.found fs gs i }

  pub kept_then : (v : View S) (p : ℕ) (x k : Keep S) (fs gs : List Found) → kept_as (kept_as v p x fs) p k gs ≡ kept_as v p k (fs ++ gs)
  kept_then v p x k fs gs i = record v { kept = set-set v.kept p x k i; found = append_assoc v.found fs gs i }

  pub here : (v : View S) (p : ℕ) (k : Keep S) (fs : List Found) → p < length v.kept → kept_at (kept_as v p k fs).kept p ≡ k
  here v p k fs room = get_or-set_same v.kept p k Nothing room

  pub out_as : (k : Keep S) (n : ℕ) → n ≢ 0 → k ≡ Out n → IsOut k
  out_as k n ne is = (is ∙ ap (λ (m : ℕ). Out m) (sym (ap number_of is)), λ z. ne (sym (ap number_of is) ∙ z))

  pub lent_as : (k : Keep S) (n : ℕ) → n ≢ 0 → k ≡ Lent n → IsLent k
  lent_as k n ne is = (is ∙ ap (λ (m : ℕ). Lent m) (sym (ap number_of is)), λ z. ne (sym (ap number_of is) ∙ z))

  -- a probe, a hold and a third step on the place
  pub held_then : (v0 v1 v2 v3 : View S) (p n word : ℕ) (k : ℕ → Keep S) (kind : Kind) → p < length v0.kept → v1 ≡ found_more v0 (found Probe p word ∷ []) → word ≡ n * 2
      → v2 ≡ kept_as v1 p (Out n) (found Hold p (n * 2) ∷ []) → v3 ≡ kept_as v2 p (k (number_at v2 p)) (found kind p (number_at v2 p * 2 + 1) ∷ [])
      → v3 ≡ kept_as v0 p (k n) (found Probe p (n * 2) ∷ found Hold p (n * 2) ∷ found kind p (n * 2 + 1) ∷ [])
  held_then v0 v1 v2 v3 p n word k kind room a w b c = let V : Type 0 = View S in
      let same : v1.kept ≡ v0.kept = ap (λ (u : V). u.kept) a in
      let number : number_at v2 p ≡ n = ap (λ (u : V). number_at u p) (b ∙ ap (λ (u : V). kept_as u p (Out n) (found Hold p (n * 2) ∷ [])) a)
      ∙ ap number_of (here (found_more v0 (found Probe p word ∷ [])) p (Out n) (found Hold p (n * 2) ∷ []) room) in
      let last = found kind p (n * 2 + 1) ∷ [] in let both = found Hold p (n * 2) ∷ last in
      c ∙ (ap (λ (m : ℕ). kept_as v2 p (k m) (found kind p (m * 2 + 1) ∷ [])) number ∙ (ap (λ (u : V). kept_as u p (k n) last) b
      ∙ (kept_then v1 p (Out n) (k n) (found Hold p (n * 2) ∷ []) last ∙ (ap (λ (u : V). kept_as u p (k n) both) a
      ∙ (found_then v0 p (k n) (found Probe p word ∷ []) both ∙ ap (λ (m : ℕ). kept_as v0 p (k n) (found Probe p m ∷ both)) w)))))

  -- a fetch and a way home
  pub fetched_then : (v0 v1 v2 : View S) (p n : ℕ) (k : Keep S) → number_at v0 p ≡ n → v1 ≡ kept_as v0 p (Out (number_at v0 p)) (found Probe p (number_at v0 p * 2 + 1) ∷ [])
      → v2 ≡ kept_as v1 p k (found Back p (n * 2 + 1) ∷ []) → v2 ≡ kept_as v0 p k (found Probe p (n * 2 + 1) ∷ found Back p (n * 2 + 1) ∷ [])
  fetched_then v0 v1 v2 p n k number a b = let V : Type 0 = View S in let last = found Back p (n * 2 + 1) ∷ [] in
      b ∙ (ap (λ (u : V). kept_as u p k last) (a ∙ ap (λ (m : ℕ). kept_as v0 p (Out m) (found Probe p (m * 2 + 1) ∷ [])) number)
      ∙ kept_then v0 p (Out n) k (found Probe p (n * 2 + 1) ∷ []) last)

  -- a taking and a way home
  pub took_then : (v0 v1 v2 : View S) (p n : ℕ) (k : Keep S) → v1 ≡ taken_as v0 p (Out n) (found Take p 0 ∷ []) → v2 ≡ kept_as v1 p k (found Back p (n * 2 + 1) ∷ []) → v2 ≡ taken_as v0 p k (take_steps p n)
  took_then v0 v1 v2 p n k a b = let V : Type 0 = View S in let last = found Back p (n * 2 + 1) ∷ [] in
      b ∙ (ap (λ (u : V). kept_as u p k last) a ∙ λ i. record v0 { kept = set-set v0.kept p (Out n) k i; takings = v0.takings + 1; found = append_assoc v0.found (found Take p 0 ∷ []) last i })

  pub more_found : (v : View S) (fs gs : List Found) → found_more (found_more v fs) gs ≡ found_more v (fs ++ gs)
  more_found v fs gs i = record v { found = append_assoc v.found fs gs i }

pub probes_more : (place word : ℕ) (words : List ℕ) → probe_steps place (words ++ word ∷ []) ≡ probe_steps place words ++ found Probe (place + length words) word ∷ []
probes_more place word [] = ap (λ (p : ℕ). found Probe p word ∷ []) (omega arith)
probes_more place word (x ∷ xs) = ap (λ (fs : List Found). found Probe place x ∷ fs) (probes_more (suc place) word xs
    ∙ ap (λ (p : ℕ). probe_steps (suc place) xs ++ found Probe p word ∷ []) (omega arith))

pub all_more : (words : List ℕ) (word : ℕ) → All HasOwner words → word ≢ 0 → All HasOwner (words ++ word ∷ [])
all_more words word all ne = All-append HasOwner words (word ∷ []) all single
  where
    single : All HasOwner (word ∷ [])
    single zero d l = ne
    single (suc k) d l = absurd (omega arith)

-- 1 where the place is kept
abbrev pub one_kept : {S : Type 0} → Keep S → ℕ
one_kept k = cond (number_of k == 0) 0 1

module _ {S : Type 0} where
  pub count_set : (l : List (Keep S)) (p : ℕ) (k : Keep S) → p < length l → kept_count (set l p k) + one_kept (kept_at l p) ≡ kept_count l + one_kept k
  count_set [] p k near = absurd (omega arith)
  count_set (x ∷ xs) zero k near = omega arith
  count_set (x ∷ xs) (suc p) k near = let a = count_set xs p k (omega arith) in omega arith

  -- a place that is kept exists
  pub kept_near : (l : List (Keep S)) (p : ℕ) → number_of (kept_at l p) ≢ 0 → p < length l
  kept_near [] p ne = absurd (ne refl)
  kept_near (x ∷ xs) zero ne = omega arith
  kept_near (x ∷ xs) (suc p) ne = let a = kept_near xs p ne in omega arith

  pub one_kept_is : (k : Keep S) → number_of k ≢ 0 → one_kept k ≡ 1
  one_kept_is k ne = ap (λ (b : Bool). cond b 0 1) (ne_eqb (number_of k) 0 ne)

  pub none_kept_is : (k : Keep S) → number_of k ≡ 0 → one_kept k ≡ 0
  none_kept_is k z = ap (λ (b : Bool). cond b 0 1) (eq-eqb (number_of k) 0 z)

  counts_kept : (v w : View S) (p : ℕ) (k : Keep S) → p < length v.kept → (b : ℕ) → one_kept (kept_at v.kept p) ≡ b → one_kept k ≡ 1 → w.kept ≡ set v.kept p k → kept_count w.kept + b ≡ kept_count v.kept + 1
  counts_kept v w p k near b was is e = let a = count_set v.kept p k near in let c = ap kept_count e in omega arith

  pub same_counts : (v w : View S) (p : ℕ) (k : Keep S) (fs : List Found) → number_of (kept_at v.kept p) ≢ 0 → number_of k ≢ 0 → w ≡ kept_as v p k fs → Counts v w v.takings (kept_count v.kept)
  same_counts v w p k fs had has e = let V : Type 0 = View S in let a = counts_kept v w p k (kept_near v.kept p had) 1 (one_kept_is (kept_at v.kept p) had) (one_kept_is k has) (ap (λ (u : V). u.kept) e) in record {
    wide = ap (λ (u : V). length u.kept) e ∙ length-set v.kept p k;
    number = ap (λ (u : V). u.number) e;
    takings_are = ap (λ (u : V). u.takings) e;
    owned_are = omega arith;
  }

  pub one_less : (v w : View S) (p : ℕ) (fs : List Found) → number_of (kept_at v.kept p) ≢ 0 → w ≡ kept_as v p Nothing fs → Counts v w v.takings (kept_count v.kept - 1) × (0 < kept_count v.kept)
  one_less v w p fs had e = let V : Type 0 = View S in let a = count_set v.kept p Nothing (kept_near v.kept p had) in let b = one_kept_is (kept_at v.kept p) had in
      let c : kept_count w.kept ≡ kept_count (set v.kept p Nothing) = ap (λ (u : V). kept_count u.kept) e in (
        record {
          wide = ap (λ (u : V). length u.kept) e ∙ length-set v.kept p Nothing;
          number = ap (λ (u : V). u.number) e;
          takings_are = ap (λ (u : V). u.takings) e;
          owned_are = omega arith;
        },
        omega arith,
      )

  pub one_more : (v w : View S) (p : ℕ) (k : Keep S) (fs gs : List Found) → p < length v.kept → number_of (kept_at v.kept p) ≡ 0 → number_of k ≢ 0 → w ≡ taken_as (found_more v gs) p k fs → Counts v w (v.takings + 1) (kept_count v.kept + 1)
  one_more v w p k fs gs near had has e = let V : Type 0 = View S in let a = counts_kept v w p k near 0 (none_kept_is (kept_at v.kept p) had) (one_kept_is k has) (ap (λ (u : V). u.kept) e) in record {
    wide = ap (λ (u : V). length u.kept) e ∙ length-set v.kept p k;
    number = ap (λ (u : V). u.number) e;
    takings_are = ap (λ (u : V). u.takings) e;
    owned_are = omega arith;
  }

  pub found_counts : (v w : View S) (fs : List Found) → w ≡ found_more v fs → Counts v w v.takings (kept_count v.kept)
  found_counts v w fs e = let V : Type 0 = View S in record {
    wide = ap (λ (u : V). length u.kept) e;
    number = ap (λ (u : V). u.number) e;
    takings_are = ap (λ (u : V). u.takings) e;
    owned_are = ap (λ (u : V). kept_count u.kept) e;
  }

  pub refused_counts : (places : ℕ) (v w : View S) (owner : Owner) (fault : PoolFault) → Refused places v w owner fault → Counts v w v.takings (kept_count v.kept)
  refused_counts places v w owner PoolFull r = absurd r
  refused_counts places v w owner NoNumber r = absurd r
  refused_counts places v w owner (Disposed holder) r = ⊎_elim
      (λ (a : (holder ≡ None) × (places ≤ owner.place) × (w ≡ v)). found_counts v w [] (a.2 ∙ λ i. record v { found = sym (append-nil v.found) i }))
      (λ (a : (owner.place < places) × (holder ≢ Some owner.number) × ((word : ℕ) × (holder ≡ owner_in word) × (w ≡ found_more v (found Probe owner.place word ∷ [])))). found_counts v w (found Probe owner.place a.2.0 ∷ []) a.2.2) r.1
  refused_counts places v w owner (Busy number) r = found_counts v w (found Probe owner.place r.4.0 ∷ []) r.4.2
