-- That no caller has a content of the seat, after a call.
use Rattle.std.proofs.Common.{◌≡◌, ◌≢◌, ◌⊎◌, ℕ, ◌*◌, ◌<◌, ◌≤◌, List, ◌∷◌, [], length, set, sym, refl, ap, ◌∙◌, subst, ⊎_elim, arith, Some, None, get_or-set_same, get_or-set_other, set-set}
use mathlib.Core.Logic.{dite}
use native.Mathlib.Decide.{ℕ_discrete}
use Rattle.stack_pool.specs.declared.view.Keep.{Keep}
use Rattle.stack_pool.specs.declared.view.Keep.TheVariants.{Nothing, Home}
use Rattle.stack_pool.specs.declared.view.View.{View}
use Rattle.stack_pool.specs.declared.view.Kind.TheVariants.{Probe}
use Rattle.stack_pool.specs.declared.fault.Owner.{Owner}
use Rattle.stack_pool.specs.declared.fault.PoolFault.{PoolFault}
use Rattle.stack_pool.specs.declared.fault.PoolFault.TheVariants.{PoolFull, Disposed, Busy, NoNumber}
use Rattle.stack_pool.specs.declared.TheConstants.{PLACES}
use Rattle.stack_pool.specs.Views.{number_of, number_at, new_view, kept_at, IsHome}
use Rattle.stack_pool.specs.Steps.{found}
use Rattle.stack_pool.specs.Calls.{owner_in, found_more, NotLent, NoneLent, FoundOwned, IsTaken, IsHeld, IsReleased, IsGivenBack, Refused}
use Rattle.stack_pool.proofs.Chains.{kept_near}
use Rattle.stack_pool.proofs.Joins.{replicate_at}

module _ {S : Type 0} where
  -- where the seat keeps one place otherwise: not at all, or with its content at home
  set_none_lent : (v w : View S) (p : ℕ) (k : Keep S) → NoneLent v → p < length v.kept → w.kept ≡ set v.kept p k → (number_of k ≢ 0 → IsHome k) → NoneLent w
  set_none_lent v w p k none near e home q ne = dite (ℕ_discrete q p)
      (λ is. let here : kept_at w.kept q ≡ k = ap (λ (n : ℕ). kept_at w.kept n) is ∙ (ap (λ (l : List (Keep S)). kept_at l p) e ∙ get_or-set_same v.kept p k Nothing near) in
      subst (λ (x : Keep S). IsHome x) (sym here) (home (λ z. ne (ap number_of here ∙ z))))
      (λ other. let off : kept_at w.kept q ≡ kept_at v.kept q = ap (λ (l : List (Keep S)). kept_at l q) e ∙ get_or-set_other v.kept p q k Nothing other in
      subst (λ (x : Keep S). IsHome x) (sym off) (none q (λ z. ne (ap number_of off ∙ z))))

  pub taken_none_lent : (v w : View S) (owner : Owner) (content : S) → owner.place < length v.kept → IsTaken v w owner content → NoneLent v → NoneLent w
  taken_none_lent v w owner content near taken none = let V : Type 0 = View S in let number = taken.4 in
      set_none_lent v w owner.place (Home owner.number content) none near (ap (λ (u : V). u.kept) taken.6) (λ ne. ((content, refl), ne))

  pub given_none_lent : (v w : View S) (owner : Owner) (content : S) → owner.number ≢ 0 → IsGivenBack v w owner content → NoneLent v → NoneLent w
  given_none_lent v w owner content some_number given none = let V : Type 0 = View S in
      set_none_lent v w owner.place Nothing none (kept_near v.kept owner.place (λ z. some_number (sym (ap number_of given.0) ∙ z))) (ap (λ (u : V). u.kept) given.1) (λ ne. absurd (ne refl))

  -- a content that was lent, and came back
  pub lent_and_back : (v w u : View S) (owner : Owner) (lent back : S) → owner.number ≢ 0 → IsHeld v w owner lent → IsReleased w u owner back → NoneLent v → NoneLent u
  lent_and_back v w u owner lent back some_number held released none = let V : Type 0 = View S in let p : ℕ = owner.place in let k : Keep S = Home owner.number back in
      set_none_lent v u p k none (kept_near v.kept p (λ z. some_number (sym (ap number_of held.0) ∙ z)))
      (ap (λ (x : V). x.kept) released ∙ (ap (λ (x : V). set x.kept p k) held.1 ∙ set-set v.kept p _ k)) (λ ne. ((back, refl), ne))

  pub new_none_lent : (v : View S) (seats k : ℕ) → v ≡ new_view seats k → NoneLent v
  new_none_lent v seats k e q ne = absurd (ne (ap (λ (u : View S). number_at u q) e ∙ replicate_at S (seats * PLACES) q))

  pub not_lent : (v : View S) (owner : Owner) → NoneLent v → NotLent v owner
  not_lent v owner none some_number e = none owner.place (λ z. some_number (sym e ∙ z))

  pub probed_none_lent : (places : ℕ) (v w : View S) → FoundOwned places v w → NoneLent v → NoneLent w
  probed_none_lent places v w probed none = subst (λ (x : View S). NoneLent x) (sym probed.3) none

  pub refused_none_lent : (places : ℕ) (v w : View S) (owner : Owner) (fault : PoolFault) → Refused places v w owner fault → NoneLent v → NoneLent w
  refused_none_lent places v w owner PoolFull r none = absurd r
  refused_none_lent places v w owner NoNumber r none = absurd r
  refused_none_lent places v w owner (Disposed holder) r none = ⊎_elim
      (λ (a : (holder ≡ None) × (places ≤ owner.place) × (w ≡ v)). subst (λ (x : View S). NoneLent x) (sym a.2) none)
      (λ (a : (owner.place < places) × (holder ≢ Some owner.number) × ((word : ℕ) × (holder ≡ owner_in word) × (w ≡ found_more v (found Probe owner.place word ∷ [])))).
      subst (λ (x : View S). NoneLent x) (sym a.2.2) none)
      r.1
  refused_none_lent places v w owner (Busy number) r none = subst (λ (x : View S). NoneLent x) (sym r.4.2) none

pub ruleset at_home = (not_lent, new_none_lent, lent_and_back)
