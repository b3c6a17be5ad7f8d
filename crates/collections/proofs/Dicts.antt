-- Dictionaries as the plain model sees them.
use Rattle.std.proofs.Common.{◌≡◌, Some, refl}
use Rattle.std.specs.Prelude.{Result}
use denote.Enum.Bare.{sameb}
use Rattle.imm_base.specs.contracts.comparers.ValEq.{the_type}
use Rattle.imm_base.specs.declared.val.Val.{Val}
use Rattle.imm_base.specs.declared.comparers.ValEq.{ValEq}
use Rattle.imm_base.specs.declared.comparers.ValEq.TheVariants as equalities
use Rattle.imm_base.specs.Order.{val_cmp, val_eq, eq_same}
use Rattle.imm_base.specs.Maps.{Entries}
use Rattle.imm_base.specs.Rekey.{pairs_under, map_rekey}
use Rattle.plain_model.specs.declared.plain.Comparer.{Comparer}
use Rattle.plain_model.specs.declared.plain.Kind.{Kind}
use Rattle.plain_model.specs.declared.plain.Kind.TheVariants as kinds
use Rattle.plain_model.specs.Comparers.{equality_named, name_of_equality, with_comparer}
use Rattle.plain_model.specs.Plain.{Changed, of_pairs}
use Rattle.collections.specs.Changes.{rekeyed_by}
use Rattle.collections.specs.Kinds.{kind_of_pairs}
use Rattle.collections.proofs.Maps.{added}
use Rattle.collections.proofs.Comparers.{equality_is_named, rekeyed_as}

kind_is : (old eq : ValEq) → with_comparer (kinds.Dict old) (name_of_equality eq) ≡ Some (kinds.Dict eq)
kind_is old equalities.Ordinal = refl
kind_is old equalities.One = refl
kind_is old equalities.NoCase = refl

-- the pairs under this equality, or the value of the first key that can't be added
abbrev under : ValEq → Entries Val Val → Result (Entries Val Val) Val
under eq ps = pairs_under val_cmp val_cmp (eq_same eq) val_eq ps

abbrev map_in : ValEq → ValEq → Entries Val Val → Changed
map_in old eq ps =
    of_pairs (kind_of_pairs (kinds.Dict eq) ps) (map_rekey val_cmp val_cmp (eq_same eq) val_eq (sameb the_type eq old) ps)

map_named : (old eq : ValEq) (ps : Entries Val Val) → map_in old eq ps ≡ rekeyed_by (name_of_equality eq) (kinds.Dict eq) (kind_of_pairs (kinds.Dict old) ps)
map_named equalities.Ordinal equalities.Ordinal ps = refl
map_named equalities.Ordinal equalities.One ps = added (kinds.Dict equalities.One) ps (under equalities.One ps)
map_named equalities.Ordinal equalities.NoCase ps = added (kinds.Dict equalities.NoCase) ps (under equalities.NoCase ps)
map_named equalities.One equalities.Ordinal ps = added (kinds.Dict equalities.Ordinal) ps (under equalities.Ordinal ps)
map_named equalities.One equalities.One ps = refl
map_named equalities.One equalities.NoCase ps = added (kinds.Dict equalities.NoCase) ps (under equalities.NoCase ps)
map_named equalities.NoCase equalities.Ordinal ps = added (kinds.Dict equalities.Ordinal) ps (under equalities.Ordinal ps)
map_named equalities.NoCase equalities.One ps = added (kinds.Dict equalities.One) ps (under equalities.One ps)
map_named equalities.NoCase equalities.NoCase ps = refl

-- a map under the equality of a comparer is the map under it
pub map_rekeyed : (old eq : ValEq) (comparer : Comparer) (kind : Kind) (ps : Entries Val Val)
    → equality_named comparer ≡ Some eq → with_comparer (kinds.Dict old) comparer ≡ Some kind
    → map_in old eq ps ≡ rekeyed_by comparer kind (kind_of_pairs (kinds.Dict old) ps)
map_rekeyed old eq comparer kind ps e f =
    rekeyed_as (kind_of_pairs (kinds.Dict old) ps) (name_of_equality eq) comparer (kinds.Dict eq) kind (map_in old eq ps)
    (kind_is old eq) (equality_is_named comparer eq e) f (map_named old eq ps)
