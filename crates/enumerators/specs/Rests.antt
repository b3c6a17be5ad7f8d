-- The elements that a walk goes along, as it shows them.
use Rattle.std.specs.Prelude.{ℕ, List, map}
use Rattle.imm_base.specs.declared.val.Val.{Val}
use Rattle.imm_base.specs.declared.pair.Pair.{Pair}
use Rattle.plain_model.specs.declared.plain.Elem.{Elem}
use Rattle.plain_model.specs.declared.plain.Elem.TheVariants as elems
use Rattle.enumerators.specs.declared.series.Place.{Place}
use Rattle.enumerators.specs.declared.rest.Elements.{Elements}
use Rattle.enumerators.specs.declared.rest.Elements.TheVariants.{Values, Pairs}
use Rattle.enumerators.specs.Series.{series_rest, IsPlace}

-- a pair as an element
abbrev pub pair_elem : Pair Val Val → Elem
pair_elem p = elems.Pair p.key p.value

-- the elements from the place on
abbrev pub elems_rest : Elements → Place → List Elem
elems_rest (Values s) p = map elems.One (series_rest s p)
elems_rest (Pairs s) p = map pair_elem (series_rest s p)

-- the place is one of theirs
abbrev pub IsPlaceIn : Elements → Place → Type 0
IsPlaceIn (Values s) p = IsPlace s p
IsPlaceIn (Pairs s) p = IsPlace s p
