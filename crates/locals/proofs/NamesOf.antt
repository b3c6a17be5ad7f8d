-- Names in a run, and those of the model.
use Rattle.std.proofs.Common.{◌≡◌, Bool, true, false, List, [], ◌∷◌, None, Some, refl, ap, sym, ◌∙◌}
use Rattle.std.specs.Prelude.{Option, option_map, map, if◌then◌else◌, bytes_eq}
use Rattle.plain_model.specs.Names.{Name, Bindings, get, with_name}
use Rattle.plain_model.specs.Locals.{◌>>=◌, bound, collection, as_collection, contents, collection_at, contents_at, bind, Locals}
use Rattle.locals.specs.declared.bound.Bound.{Bound}
use Rattle.locals.specs.declared.bound.Bound.TheVariants as bounds
use Rattle.locals.specs.Bound.{bound_of, binding_of, locals_of}

get_of : (names : Bindings Bound) (x : Name) → get (map binding_of names) x ≡ option_map bound_of (get names x)
get_of [] x = refl
get_of (b ∷ names) x = split (bytes_eq b.0 x) (get_of names x)
  where
    split : (t : Bool) → get (map binding_of names) x ≡ option_map bound_of (get names x)
        → (if t then Some (bound_of b.1) else get (map binding_of names) x) ≡ option_map bound_of (if t then Some b.1 else get names x)
    split true e = refl
    split false e = e

-- what a name is bound to
pub bound_of_get : (names : Bindings Bound) (x : Name) → option_map bound_of (get names x) ≡ bound (locals_of names) x
bound_of_get names x = sym (get_of names x)

pub collection_at_bound : (names : Bindings Bound) (x : Name) (b : Bound) → Some b ≡ get names x → collection_at (locals_of names) x ≡ as_collection (bound_of b)
collection_at_bound names x b e = ap (λ o. o >>= as_collection) (get_of names x ∙ ap (option_map bound_of) (sym e))

-- and one that is not
pub collection_at_unbound : (names : Bindings Bound) (x : Name) → None ≡ get names x → collection_at (locals_of names) x ≡ None
collection_at_unbound names x e = ap (λ o. o >>= as_collection) (get_of names x ∙ ap (option_map bound_of) (sym e))

with_name_of : (x : Name) (v : Bound) (names : Bindings Bound) → map binding_of (with_name x v names) ≡ with_name x (bound_of v) (map binding_of names)
with_name_of x v [] = refl
with_name_of x v (b ∷ names) = split (bytes_eq b.0 x) (with_name_of x v names)
  where
    split : (t : Bool) → map binding_of (with_name x v names) ≡ with_name x (bound_of v) (map binding_of names)
        → map binding_of (if t then (x, v) ∷ names else b ∷ with_name x v names) ≡ (if t then (x, bound_of v) ∷ map binding_of names else binding_of b ∷ with_name x (bound_of v) (map binding_of names))
    split true e = refl
    split false e = ap (λ ns. binding_of b ∷ ns) e

-- binding a name binds it in the model
pub locals_of-with_name : (x : Name) (v : Bound) (names after : Bindings Bound) → after ≡ with_name x v names → locals_of after ≡ bind x (bound_of v) (locals_of names)
locals_of-with_name x v names after e = ap locals_of e ∙ ap (λ ns. record (locals_of names) { names = ns }) (with_name_of x v names)
