use Rattle.std.proofs.Common.{◌≡◌, ℕ, ◌<◌, ◌≤◌, ◌++◌, ◌∷◌, [], length, slice_index_or}
use Rattle.workers.proofs.tables.push_row.Given as goal

abbrev pub invariant-loop-element : goal.invariant-loop-element
invariant-loop-element g l = record {
  place : l.place ≡ length l.yielded;
  many : length l.columns.items ≡ length l.fn.columns.items;
  before : (c : ℕ) (d : _) (x : _) → c < l.place → (slice_index_or l.columns.items c d).items ≡ (slice_index_or l.fn.columns.items c d).items ++ slice_index_or l.yielded c x ∷ [];
  behind : (c : ℕ) (d : _) → l.place ≤ c → slice_index_or l.columns.items c d ≡ slice_index_or l.fn.columns.items c d;
}
