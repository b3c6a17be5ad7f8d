-- Tables, row by row and column by column.
use Rattle.std.specs.Prelude.{◌≡◌, ℕ, ◌<◌, List, Option, Some, length, map, slice_get, slice_index_or}

-- what stands at a place of each row
abbrev pub entries_at : {A : Type 0} → ℕ → List (List A) → List (Option A)
entries_at c rows = map (λ row. slice_get row c) rows

-- a table of so many columns, by its columns: each has what stands at its place of all rows
pub record AreColumnsOf {A : Type 0} (width : ℕ) (rows columns : List (List A)) : Type 0 where
  pub many : length columns ≡ width
  pub each : (c : ℕ) (d : List A) → c < width → map (λ x. Some x) (slice_index_or columns c d) ≡ entries_at c rows
