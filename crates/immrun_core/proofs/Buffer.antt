use Rattle.std.proofs.Common.{◌≡◌, ℕ, ◌≤◌, List, ◌++◌, length, drop, replicate, refl, ◌∙◌, arith, length-append, length-drop}
use Rattle.std.proofs.lemmas.List.{drop_at, drop-replicate, length-replicate}
use Rattle.immrun_core.specs.WordBuffer.{IsBuffer}

-- a short text in front of zeros
pub buffer_is : (from : List ℕ) → length from ≤ 64 → IsBuffer (length from) (from ++ drop (length from) (replicate 64 0))
buffer_is from h = record {
  fits = h;
  whole = let zeros : List ℕ = replicate 64 0 in let size : length zeros ≡ 64 = length-replicate {A = ℕ} 64 0 in
      omega (arith, length-append from (drop (length from) zeros), length-drop (length from) zeros);
  rest = drop_at from _ (length from) refl ∙ drop-replicate (length from) 64 0;
}
