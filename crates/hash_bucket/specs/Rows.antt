-- An element put in place of the one that is same to it.
use Rattle.std.specs.Prelude.{◌+◌, List, length, filter, Bool, not, ◌&&◌, Ok, Err, if◌then◌else◌}
use Rattle.std.specs.declared.cmp.Ordering.{Ordering}
use Rattle.imm_base.specs.declared.val.Edit.TheVariants.{New}
use Rattle.imm_base.specs.Edits.{too_large, Gives, is_over}
use Rattle.imm_base.specs.Lists.{insert_sorted}
use Rattle.imm_base.specs.Sets.{has}

-- the elements that do not pass the test
abbrev pub others : {T : Type 0} → (T → Bool) → List T → List T
others test xs = filter (λ x. not (test x)) xs

module _ {T : Type 0} (cmp : T → T → Ordering) (same : T → T → Bool) where
  -- x in its place, and in place of the element that is same
  abbrev pub with_same : T → List T → List T
  with_same x xs = insert_sorted cmp x (others (same x) xs)

  -- the same, where there is room for it
  abbrev pub set_same : T → List T → Gives T (List T)
  set_same x xs =
      if not (has same x xs) && is_over (length xs + 1) then Err (too_large (length xs))
      else Ok (New (with_same x xs))
