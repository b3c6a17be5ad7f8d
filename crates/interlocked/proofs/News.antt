-- The passes of a new cell.
use Rattle.std.proofs.Common.{◌≡◌, ℕ, zero, suc, List, [], ◌∷◌, All, length, map, sym, refl, ap, ◌∙◌, subst, arith}
use Rattle.atomic_table.specs.Seated.{TableId}
use Rattle.version_slots.specs.declared.view.View.{View}
use mathlib.Core.Option.{some-ne-none}
use Rattle.version_slots.specs.Histories.{first_line}
use Rattle.version_slots.specs.Views.{counting}
use Rattle.version_slots.specs.Cells.{new_view, new_views}
use Rattle.version_slots.proofs.Rows.{map_at}
use Rattle.version_slots.proofs.Callers.{all_seen}
use Rattle.interlocked.specs.declared.entry.Kept.{Kept}
use Rattle.interlocked.specs.Known.{IsReady, uncalled}
use Rattle.interlocked.specs.Whole.{new_passes}

pub all_new : {B : Type 0} (items : List B) (passes : ℕ) (first : Kept) (v : B → View Kept) → map v items ≡ new_views passes first → All (λ (b : B). IsReady (v b) 0) items
all_new items passes first v is = all_seen v (λ (u : View Kept). IsReady u 0) items (new_views passes first) is
    (λ i u e. let t = map_at (new_view passes first) (counting 1 passes) i u e in subst (λ (w : View Kept). IsReady w 0) t.2 record { idle = (refl, refl); begun = (first_line first, [], refl); below = λ j l f. absurd (some-ne-none l (sym f)) })

many : (from n : ℕ) → length (counting from n) ≡ n
many from zero = refl
many from (suc n) = let h = many (suc from) n in omega arith

map_many : {S T : Type 0} (f : S → T) (l : List S) → length (map f l) ≡ length l
map_many f [] = refl
map_many f (x ∷ l) = let h = map_many f l in omega arith

pub new_count : {B : Type 0} (items : List B) (passes : ℕ) (first : Kept) (v : B → View Kept) → map v items ≡ new_views passes first → length items ≡ passes
new_count items passes first v is = sym (map_many v items) ∙ (ap length is ∙ (map_many (new_view passes first) (counting 1 passes) ∙ many 1 passes))

tabled : {B : Type 0} (items : List B) (t : B → TableId) (v : B → View Kept) (table : TableId) → All (λ (b : B). t b ≡ table) items → map (λ (b : B). uncalled (t b) (v b)) items ≡ map (uncalled table) (map v items)
tabled [] t v table all = refl
tabled {B = B} (b ∷ items) t v table all = let rest = tabled items t v table (λ (k : ℕ) (d : B) h. all (suc k) d (omega arith)) in let here : t b ≡ table = all 0 b (omega arith) in
    λ i. uncalled (here i) (v b) ∷ rest i

through : (f : ℕ → View Kept) (table : TableId) (l : List ℕ) → map (uncalled table) (map f l) ≡ map (λ n. uncalled table (f n)) l
through f table [] = refl
through f table (x ∷ l) = ap (λ m. uncalled table (f x) ∷ m) (through f table l)

pub new_are : {B : Type 0} (items : List B) (passes : ℕ) (first first' : Kept) (t : B → TableId) (v : B → View Kept) (table : TableId) → first ≡ first' → map v items ≡ new_views passes first → All (λ (b : B). t b ≡ table) items
    → map (λ (b : B). uncalled (t b) (v b)) items ≡ new_passes table passes first'
new_are items passes first first' t v table same is all = tabled items t v table all ∙ (ap (map (uncalled table)) is
    ∙ (through (new_view passes first) table (counting 1 passes) ∙ ap (λ (k : Kept). new_passes table passes k) same))
