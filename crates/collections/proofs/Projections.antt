-- The first keys and the first values of pairs.
use Rattle.std.proofs.Common.{◌≡◌, List, [], ◌∷◌, take, length, refl, ap}
use Rattle.std.specs.List.{zip}
use Rattle.std.specs.Prelude.{map}
use Rattle.std.proofs.lemmas.List.{take-map, length-map}
use Rattle.imm_base.specs.declared.val.Val.{Val}
use Rattle.imm_base.specs.declared.pair.Pair.{Pair}
use Rattle.imm_base.specs.Maps.{Entries}
use Rattle.sorted_maps.specs.Ordered.{entry, entries}

pub first_entries : (ps : List (Pair Val Val)) → take 16 (entries ps) ≡ map entry (take 16 ps)
first_entries ps = take-map entry 16 ps

pub first_keys : (m : Entries Val Val) → take 16 (map (λ e. e.0) m) ≡ map (λ e. e.0) (take 16 m)
first_keys m = take-map (λ e. e.0) 16 m

pub first_values : (m : Entries Val Val) → take 16 (map (λ e. e.1) m) ≡ map (λ e. e.1) (take 16 m)
first_values m = take-map (λ e. e.1) 16 m

pub count_keys : (m : Entries Val Val) → length (map (λ e. e.0) m) ≡ length m
count_keys m = length-map m (λ e. e.0)

pub count_values : (m : Entries Val Val) → length (map (λ e. e.1) m) ≡ length m
count_values m = length-map m (λ e. e.1)

-- the keys and the values of pairs, side by side again
pub zipped_again : (m : Entries Val Val) → zip (map (λ e. e.0) m) (map (λ e. e.1) m) ≡ m
zipped_again [] = refl
zipped_again (e ∷ m) = ap (λ es. e ∷ es) (zipped_again m)

pub ruleset projections = (first_entries, first_keys, first_values, count_keys, count_values)
