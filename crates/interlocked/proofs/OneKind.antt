-- All versions of a history have the kind of the first one.
use Rattle.std.proofs.Common.{◌≡◌, ℕ, zero, suc, List, [], ◌∷◌, ◌++◌, sym, refl, ap, ◌∙◌}
use mathlib.Core.Option.{some, some-injective, some-ne-none}
use lib.ListN.{get_elem?}
use Rattle.plain_model.specs.declared.plain.Kind.{Kind}
use Rattle.version_slots.specs.declared.view.Line.{Line}
use Rattle.version_slots.specs.Histories.{StartsWith, Linked, Shown}
use Rattle.interlocked.specs.declared.entry.Kept.{Kept}
use Rattle.interlocked.specs.Entries.{Extends, kind_in, IsBegun}
use Rattle.interlocked.proofs.Ordinals.{earlier}

pub kind_at : (hist : List (Line Kept)) → Linked Extends hist → (i : ℕ) (l : Line Kept) → get_elem? hist i ≡ some l → l.value.value.kind ≡ kind_in hist
kind_at [] linked i l e = absurd (some-ne-none l (sym e))
kind_at (x ∷ xs) linked zero l e = ap (λ (y : Line Kept). y.value.value.kind) (sym (some-injective x l e))
kind_at (x ∷ xs) linked (suc i) l e = let m = earlier (x ∷ xs) i l e in (linked i m.0 l m.1 e).kind ∙ kind_at (x ∷ xs) linked i m.0 m.1

pub kind_shown : (hist : List (Line Kept)) (ticket slot : ℕ) (kept : Kept) → Linked Extends hist → Shown hist ticket slot kept → kept.value.kind ≡ kind_in hist
kind_shown hist ticket slot kept linked there = ap (λ (k : Kept). k.value.kind) (sym there.5) ∙ kind_at hist linked there.0 there.1 there.2

-- what has been seen stays begun, and its kind stays
pub begun_later : (hist seen : List (Line Kept)) → StartsWith hist seen → IsBegun seen → IsBegun hist
begun_later hist seen begins begun = (begun.0, begun.1 ++ begins.0, begins.1 ∙ ap (λ (l : List (Line Kept)). l ++ begins.0) begun.2)

pub kind_later : (hist seen : List (Line Kept)) → StartsWith hist seen → IsBegun seen → kind_in hist ≡ kind_in seen
kind_later hist seen begins begun = ap kind_in (begins.1 ∙ ap (λ (l : List (Line Kept)). l ++ begins.0) begun.2) ∙ sym (ap kind_in begun.2)
