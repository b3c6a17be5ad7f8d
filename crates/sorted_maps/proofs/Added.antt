-- Pairs that are added one after another, of which one is refused.
use Rattle.std.proofs.Common.{◌≡◌, ℕ, ◌+◌, ◌<◌, Bool, length, take, get_or, ◌∙◌}
use Rattle.std.specs.Prelude.{Ok, Err}
use Rattle.std.specs.declared.cmp.Ordering.{Ordering}
use Rattle.imm_base.specs.declared.faults.MapFault.{MapFault}
use Rattle.imm_base.specs.declared.faults.MapFault.TheVariants.{KeyExists, TooLarge, Memory}
use Rattle.imm_base.specs.Maps.{Entries, value_of, add_over, add_all}
use Rattle.imm_base.proofs.Ranges.{add_more, add_refused}
use Rattle.sorted_maps.specs.Answers.{AnswersAdded}

module _ {K V : Type 0} (c : K → K → Ordering) (same : K → K → Bool) (eq : V → V → Bool) where
  -- the refusal of one pair is that of all
  pub added_stops : {O : Type 0} (order : O) (i : ℕ) (ps m n : Entries K V) (p : K × V) → i < length ps → p ≡ get_or ps i p → add_all c same eq (take i ps) m ≡ Ok n → (fault : MapFault V) → AnswersAdded {K = K} {V = V} order (Err fault) (add_over c same eq p.0 p.1 n (value_of same p.0 n)) → AnswersAdded {K = K} {V = V} order (Err fault) (add_all c same eq ps m)
  added_stops order i ps m n p below at is (KeyExists u) refused = add_refused c same eq (i + 1) ps m u (add_more c same eq i ps m n p below at is ∙ refused)
  added_stops order i ps m n p below at is (TooLarge k) refused = absurd refused
  added_stops order i ps m n p below at is Memory refused = tt
