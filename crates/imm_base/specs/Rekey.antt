-- A set or a map under another order or equality: `ordinal` is the order of the elements
-- themselves, `cmp` and `same` are those of the new one.
use Rattle.std.specs.Prelude.{List, [], Bool, Result, Ok, Err, if◌then◌else◌}
use Rattle.std.specs.Ordering.{on}
use Rattle.std.specs.declared.cmp.Ordering.{Ordering}
use Rattle.imm_base.specs.declared.val.Edit.TheVariants.{Same, New}
use Rattle.imm_base.specs.Edits.{key_exists, Gives}
use Rattle.imm_base.specs.Lists.{sorted}
use Rattle.imm_base.specs.Sets.{union}
use Rattle.imm_base.specs.Maps.{Entries, add_all}

module _ {T : Type 0} (ordinal cmp : T → T → Ordering) (same : T → T → Bool) where
  -- the elements in ordinal order, added one by one to the empty set
  abbrev pub elements_under : List T → List T
  elements_under xs = union cmp same [] (sorted ordinal xs)

  -- the same set exactly where the order or equality is its own
  abbrev pub set_rekey : Bool → List T → Gives T (List T)
  set_rekey is_own xs =
      if is_own then Ok Same
      else Ok (New (elements_under xs))

-- the other map, or the value that is present at the first pair that can't be added
abbrev pub new_or_present : {V M : Type 0} → Result M V → Gives V M
new_or_present (Ok m) = Ok (New m)
new_or_present (Err u) = Err (key_exists u)

module _ {K V : Type 0} (ordinal cmp : K → K → Ordering) (same : K → K → Bool)
    (eq : V → V → Bool) where
  -- the pairs in the ordinal order of their keys, added one by one to the empty map, or the value
  -- that is present at the first one that can't be added
  abbrev pub pairs_under : Entries K V → Result (Entries K V) V
  pairs_under m = add_all cmp same eq (sorted (on (λ e. e.0) ordinal) m) []

  -- the same map exactly where the order or equality is its own
  abbrev pub map_rekey : Bool → Entries K V → Gives V (Entries K V)
  map_rekey is_own m =
      if is_own then Ok Same
      else new_or_present (pairs_under m)
