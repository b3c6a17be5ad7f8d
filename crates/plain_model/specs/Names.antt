-- Names, each with what it is bound to.
use Rattle.std.specs.Prelude.{ℕ, List, [], ◌∷◌, slice_get, slice_set, Bool, true, false, Option, Some, None, bytes_eq, if◌then◌else◌}
use Rattle.std.specs.Option.{option_map_or}
use Rattle.plain_model.specs.declared.plain.Kind.{Kind}
use Rattle.plain_model.specs.declared.names.Class.{Class}
use Rattle.plain_model.specs.declared.names.Class.TheVariants as classes
use Rattle.plain_model.specs.Kinds.{is_alike}

abbrev pub Name : Type 0
Name = List ℕ

abbrev pub Bindings : Type 0 → Type 0
Bindings T = List (Name × T)

-- what a name is bound to, if it is
abbrev pub get : {T : Type 0} → Bindings T → Name → Option T
get [] x = None
get (b ∷ names) x = if bytes_eq b.0 x then Some b.1 else get names x

-- the names with this one bound so, in its place or behind the others
abbrev pub with_name : {T : Type 0} → Name → T → Bindings T → Bindings T
with_name x value [] = (x, value) ∷ []
with_name x value (b ∷ names) = if bytes_eq b.0 x then (x, value) ∷ names else b ∷ with_name x value names

-- the names where the one at the place is bound so
abbrev pub with_value_at : {T : Type 0} → ℕ → T → Bindings T → Bindings T
with_value_at place value names = option_map_or (λ b. slice_set names place (b.0, value)) (slice_get names place) names

-- ---- classes

-- the kind of what a name is bound to, where it has elements: a builder and a frozen collection count as collections
abbrev pub contents_kind : Class → Option Kind
contents_kind (classes.Collection kind) = Some kind
contents_kind (classes.Builder kind) = Some kind
contents_kind (classes.Frozen kind) = Some kind
contents_kind classes.Walk = None

-- the kind of a collection
abbrev pub collection_kind : Class → Option Kind
collection_kind (classes.Collection kind) = Some kind
collection_kind _ = None

-- the same class, of the same kind whatever the comparers
abbrev pub is_alike_class : Class → Class → Bool
is_alike_class (classes.Collection kind) (classes.Collection other) = is_alike kind other
is_alike_class (classes.Builder kind) (classes.Builder other) = is_alike kind other
is_alike_class (classes.Frozen kind) (classes.Frozen other) = is_alike kind other
is_alike_class classes.Walk classes.Walk = true
is_alike_class _ _ = false
