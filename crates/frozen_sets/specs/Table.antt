-- The table by which keys are found: the places of the keys of one bucket hang together, from the
-- first to the last.
use Rattle.std.specs.Prelude.{◌≡◌, ℕ, ◌+◌, ◌<◌, ◌≤◌, List, length, drop, Bool, nat_eq, slice_index, slice_index_or}
use Rattle.std.specs.List.{position_or_len}

-- the first place from i on whose element passes the test, or the end
abbrev pub next_place : {T : Type 0} → (T → Bool) → ℕ → List T → ℕ
next_place test i xs = i + position_or_len test (drop i xs)

module _ {T : Type 0} (bucket : T → ℕ) where
  -- the first place from i on of a key in the bucket b, or the end
  abbrev pub next_in : ℕ → ℕ → List T → ℕ
  next_in b i keys = next_place (λ x. nat_eq (bucket x) b) i keys

  -- the keys from the place i on are linked: `firsts` has the first place of each bucket, and
  -- `nexts` of each place the next one of its bucket
  pub record AreLinked (i : ℕ) (keys : List T) (firsts nexts : List ℕ) : Type 0 where
    pub long : length nexts ≡ length keys
    pub first : (b : ℕ) → b < length firsts → slice_index firsts b ≡ next_in b i keys
    pub next : (k : ℕ) (x : T) → i ≤ k → k < length keys
        → slice_index nexts k ≡ next_in (bucket (slice_index_or keys k x)) (k + 1) keys
