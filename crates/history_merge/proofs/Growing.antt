-- A log with one line more.
use Rattle.std.proofs.Common.{◌≡◌, Bool, true, false, if◌then◌else◌, List, [], ◌∷◌, ◌++◌, map, refl, ap}
use Rattle.std.specs.List.{AllByRecursion}
use Rattle.plain_model.specs.declared.history.Line.{Line}
use Rattle.history_merge.specs.Lines.{installed_of, is_below}
use Rattle.history_merge.specs.Logs.{entry_of, IsRising}

-- with one line more
pub all_more : (P : Line → Type 0) (ls : List Line) (l : Line) → AllByRecursion P ls → P l → AllByRecursion P (ls ++ l ∷ [])
all_more P [] l all one = (one, tt)
all_more P (x ∷ ls) l all one = (all.0, all_more P ls l all.1 one)

pub rising_more : (ls : List Line) (l : Line) → IsRising ls → AllByRecursion (λ x. is_below x l ≡ true) ls → IsRising (ls ++ l ∷ [])
rising_more [] l up below = (tt, tt)
rising_more (x ∷ ls) l up below = (all_more (λ y. is_below x y ≡ true) ls l up.0 below.0, rising_more ls l up.1 below.1)

pub mine_append : (ls ms : List Line) → map entry_of (installed_of (ls ++ ms)) ≡ map entry_of (installed_of ls) ++ map entry_of (installed_of ms)
mine_append [] ms = refl
mine_append (l ∷ ls) ms =
    let inner = mine_append ls ms in
    elim l.installed as (λ b. map entry_of (if b then l ∷ installed_of (ls ++ ms) else installed_of (ls ++ ms)) ≡ map entry_of (if b then l ∷ installed_of ls else installed_of ls) ++ map entry_of (installed_of ms)) [
      | true ↦ ap (λ es. entry_of l ∷ es) inner
      | false ↦ inner
    ]
