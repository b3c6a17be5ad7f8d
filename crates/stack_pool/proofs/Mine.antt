-- That a seat does not keep a place with a handle's number, by what a step found there.
use Rattle.std.proofs.Common.{◌≡◌, ◌≢◌, ℕ, ◌/◌, ◌%◌, ◌≤◌, ◌==◌, cond, Bool, length, sym, refl, ap, ◌∙◌, arith, Some, None, ne_eqb}
use Rattle.stack_pool.specs.declared.view.Keep.{Keep}
use Rattle.stack_pool.specs.declared.view.Keep.TheVariants.{Nothing, Home, Out, Lent}
use Rattle.stack_pool.specs.declared.view.View.{View}
use Rattle.stack_pool.specs.declared.fault.Owner.{Owner}
use Rattle.stack_pool.specs.declared.TheConstants.{STRIDE}
use Rattle.stack_pool.specs.Views.{number_of, word_of, kept_at, number_at}
use Rattle.stack_pool.specs.Steps.{Shows}
use Rattle.stack_pool.specs.Calls.{owner_in, NotMine}
use Rattle.stack_pool.proofs.Chains.{kept_near}

owner_some : (word n : ℕ) → word / 2 ≡ n → n ≢ 0 → owner_in word ≡ Some n
owner_some word n e ne = ap (λ (m : ℕ). cond (m == 0) None (Some m)) e ∙ ap (λ (b : Bool). cond b None (Some n)) (ne_eqb n 0 ne)

module _ {S : Type 0} where
  half : (k : Keep S) → word_of k / 2 ≡ number_of k
  half Nothing = refl
  half (Home n x) = omega arith
  half (Out n) = omega arith
  half (Lent n) = omega arith

  -- the word of a place that the seat keeps with the number n
  kept_word : (v : View S) (p word n : ℕ) → Shows v p word → n ≢ 0 → number_at v p ≡ n → word / 2 ≡ n
  kept_word v p word n shows ne e = ap (λ (m : ℕ). m / 2) (shows.0 (λ z. ne (sym e ∙ z))).0 ∙ (half (kept_at v.kept p) ∙ e)

  -- there is no such place
  pub not_mine_far : (v : View S) (owner : Owner) → length v.kept ≤ owner.place → NotMine v owner
  not_mine_far v owner far ne e = let near = kept_near v.kept owner.place (λ z. ne (sym e ∙ z)) in absurd (omega arith)

  -- a step found another owner there
  pub not_mine_found : (v : View S) (owner : Owner) (word : ℕ) → Shows v owner.place word → owner_in word ≢ Some owner.number → NotMine v owner
  not_mine_found v owner word shows other ne e = other (owner_some word owner.number (kept_word v owner.place word owner.number shows ne e) ne)

  -- the number is another seat's
  pub not_mine_busy : (v : View S) (owner : Owner) (word : ℕ) → Shows v owner.place word → owner.number % STRIDE ≢ v.number → NotMine v owner
  not_mine_busy v owner word shows other ne e = other (ap (λ (m : ℕ). m % STRIDE) (sym (kept_word v owner.place word owner.number shows ne e)) ∙ (shows.0 (λ z. ne (sym e ∙ z))).1)

pub ruleset mine = (not_mine_far, not_mine_found, not_mine_busy)
