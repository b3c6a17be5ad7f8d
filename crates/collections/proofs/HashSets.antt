-- Hash sets as the plain model sees them.
use Rattle.std.proofs.Common.{◌≡◌, List, Some, refl}
use denote.Enum.Bare.{sameb}
use Rattle.imm_base.specs.contracts.comparers.ValEq.{the_type}
use Rattle.imm_base.specs.declared.val.Val.{Val}
use Rattle.imm_base.specs.declared.comparers.ValEq.{ValEq}
use Rattle.imm_base.specs.declared.comparers.ValEq.TheVariants as equalities
use Rattle.imm_base.specs.Order.{val_cmp, eq_same}
use Rattle.imm_base.specs.Rekey.{set_rekey}
use Rattle.plain_model.specs.declared.plain.Comparer.{Comparer}
use Rattle.plain_model.specs.declared.plain.Kind.{Kind}
use Rattle.plain_model.specs.declared.plain.Kind.TheVariants as kinds
use Rattle.plain_model.specs.Comparers.{equality_named, name_of_equality, with_comparer}
use Rattle.plain_model.specs.Plain.{Changed, of_list}
use Rattle.collections.specs.Changes.{rekeyed_by}
use Rattle.collections.specs.Kinds.{kind_of}
use Rattle.collections.proofs.Comparers.{equality_is_named, rekeyed_as}

kind_is : (old eq : ValEq) → with_comparer (kinds.HSet old) (name_of_equality eq) ≡ Some (kinds.HSet eq)
kind_is old equalities.Ordinal = refl
kind_is old equalities.One = refl
kind_is old equalities.NoCase = refl

abbrev set_in : ValEq → ValEq → List Val → Changed
set_in old eq xs =
    of_list (kind_of (kinds.HSet eq) xs) (set_rekey val_cmp val_cmp (eq_same eq) (sameb the_type eq old) xs)

set_named : (old eq : ValEq) (xs : List Val) → set_in old eq xs ≡ rekeyed_by (name_of_equality eq) (kinds.HSet eq) (kind_of (kinds.HSet old) xs)
set_named equalities.Ordinal equalities.Ordinal xs = refl
set_named equalities.Ordinal equalities.One xs = refl
set_named equalities.Ordinal equalities.NoCase xs = refl
set_named equalities.One equalities.Ordinal xs = refl
set_named equalities.One equalities.One xs = refl
set_named equalities.One equalities.NoCase xs = refl
set_named equalities.NoCase equalities.Ordinal xs = refl
set_named equalities.NoCase equalities.One xs = refl
set_named equalities.NoCase equalities.NoCase xs = refl

-- a set under the equality of a comparer is the set under it
pub set_rekeyed : (old eq : ValEq) (comparer : Comparer) (kind : Kind) (xs : List Val)
    → equality_named comparer ≡ Some eq → with_comparer (kinds.HSet old) comparer ≡ Some kind
    → set_in old eq xs ≡ rekeyed_by comparer kind (kind_of (kinds.HSet old) xs)
set_rekeyed old eq comparer kind xs e f =
    rekeyed_as (kind_of (kinds.HSet old) xs) (name_of_equality eq) comparer (kinds.HSet eq) kind (set_in old eq xs)
    (kind_is old eq) (equality_is_named comparer eq e) f (set_named old eq xs)
