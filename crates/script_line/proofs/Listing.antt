-- Reading words one after another.
use Rattle.std.proofs.Common.{◌≡◌, ℕ, List, [], ◌∷◌, ◌++◌, Result, Ok, Err, refl, sym, ap, ◌∙◌, append_assoc}
use Rattle.std.proofs.lemmas.List.{append-nil}
use Rattle.script_line.specs.declared.codes.Code.{Code}
use Rattle.script_line.specs.Codes.{◌>>=◌}
use Rattle.script_line.specs.Sources.{each}

-- what was read before, and what is still read
abbrev pub with_front : {A : Type 0} → List A → Result (List A) Code → Result (List A) Code
with_front front judged = judged >>= λ xs. Ok (front ++ xs)

regroup : {A : Type 0} (front : List A) (x : A) (judged : Result (List A) Code) → with_front front (judged >>= λ xs. Ok (x ∷ xs)) ≡ with_front (front ++ x ∷ []) judged
regroup {A} front x (Ok xs) = ap (λ (us : List A). Ok us) (sym (append_assoc front (x ∷ []) xs))
regroup front x (Err c) = refl

-- a word is read, and then the others
pub each-more : {A : Type 0} (read : List ℕ → Result A Code) (front : List A) (word : List ℕ) (words : List (List ℕ)) (x : A) (all : Result (List A) Code) → read word ≡ Ok x
    → with_front front (each read (word ∷ words)) ≡ all → with_front (front ++ x ∷ []) (each read words) ≡ all
each-more read front word words x all e so_far =
    let one : with_front front (each read (word ∷ words)) ≡ with_front (front ++ x ∷ []) (each read words) = rw e (regroup front x (each read words)) in
    sym one ∙ so_far

-- a word that is refused ends the reading
pub each-fails : {A : Type 0} (read : List ℕ → Result A Code) (front : List A) (word : List ℕ) (words : List (List ℕ)) (c : Code) (all : Result (List A) Code) → read word ≡ Err c
    → with_front front (each read (word ∷ words)) ≡ all → all ≡ Err c
each-fails read front word words c all e so_far =
    let one : with_front front (each read (word ∷ words)) ≡ Err c = rw e refl in
    sym so_far ∙ one

pub each-end : {A : Type 0} (read : List ℕ → Result A Code) (front : List A) (all : Result (List A) Code) → with_front front (each read []) ≡ all → all ≡ Ok front
each-end {A} read front all so_far = sym so_far ∙ ap (λ (us : List A). Ok us) (append-nil front)

pub each-start : {A : Type 0} (judged : Result (List A) Code) → with_front [] judged ≡ judged
each-start (Ok xs) = refl
each-start (Err c) = refl

pub ruleset listing = (each-more, each-fails, each-end, each-start)
