-- How many passes a new cell has.
use Rattle.std.proofs.Common.{◌≡◌, ℕ, zero, suc, List, [], ◌∷◌, length, refl, ap, ◌∙◌}
use Rattle.std.specs.Prelude.{map}
use Rattle.atomic_table.specs.Seated.{TableId}
use Rattle.version_slots.specs.Views.{counting}
use Rattle.interlocked.specs.declared.entry.Kept.{Kept}
use Rattle.interlocked.specs.Known.{Known}
use Rattle.interlocked.specs.Whole.{new_pass, new_passes}

counts : {B : Type 0} (f : ℕ → B) (from n : ℕ) → length (map f (counting from n)) ≡ n
counts f from zero = refl
counts f from (suc n) = ap suc (counts f (suc from) n)

pub new_passes_long : (table : TableId) (n : ℕ) (first : Kept) → length (new_passes table n first) ≡ n
new_passes_long table n first = counts (new_pass table n first) 1 n
