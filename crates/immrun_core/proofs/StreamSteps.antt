-- Reading and writing on, and the ends of both.
use Rattle.std.proofs.Common.{inl, inr, ⊎_elim, ◌^◌, Ok, Err, get_or, flat_map, ◌≡◌, ℕ, ◌+◌, ◌-◌, ◌<◌, ◌≤◌, List, [], ◌∷◌, ◌++◌, length, take, drop, None, Some, refl, ap, sym, ◌∙◌, subst, arith, append_assoc, length-append, length-take, length-drop, length-take-le, take-append-drop}
use Rattle.std.proofs.lemmas.List.{take_rest, drop_more}
use Rattle.std.proofs.Math.Seq.{take-append-add}
use Rattle.std.proofs.lemmas.List.{take-append-le}
use Rattle.std.proofs.lemmas.Grind.{flat_map-append}
use Rattle.std.specs.Prelude.{Option, Result}
use Rattle.std.specs.Result.{IsErr}
use Rattle.std.specs.Io.KnownBytes.{Consumes, Appends, Keeps}
use Rattle.imm_base.specs.Causes.{Rose}
use Rattle.imm_base.specs.declared.outside.Failed.{Failed}
use Rattle.immrun_core.specs.Outside.{max_input, SourceEnds, SinkEnds, ReadsSome, WriteFails, WriteEnd}

-- what was read so far
pub record Reading (q : SourceEnds) (input : List ℕ) : Type 0 where
  pub consumed : Consumes q.left q.left_after input
  pub later : q.faults ≤ q.faults_after
  pub short : length input ≤ max_input + 1

-- the first bytes of the text were written so far
pub record Writing (s : SinkEnds) (text : List ℕ) (size : ℕ) : Type 0 where
  pub taken : Appends s.taken s.taken_after (take size text)
  pub later : s.faults ≤ s.faults_after
  pub within : size ≤ length text

pub consumes_nothing : (a : Option (List ℕ)) → Consumes a a []
consumes_nothing None = tt
consumes_nothing (Some xs) = refl

pub consumes_on : (a b c : Option (List ℕ)) (xs ys : List ℕ) → Consumes a b xs → Consumes b c ys → Consumes a c (xs ++ ys)
consumes_on None b c xs ys p q = tt
consumes_on (Some x) None c xs ys p q = absurd p
consumes_on (Some x) (Some y) None xs ys p q = absurd q
consumes_on (Some x) (Some y) (Some z) xs ys p q = p ∙ ap (λ l. xs ++ l) q ∙ sym (append_assoc xs ys z)

pub consumes_kept : (a b c : Option (List ℕ)) (xs : List ℕ) → Consumes a b xs → Keeps b c → Consumes a c xs
consumes_kept None b c xs p q = tt
consumes_kept (Some x) None c xs p q = absurd p
consumes_kept (Some x) (Some y) None xs p q = absurd q
consumes_kept (Some x) (Some y) (Some z) xs p q = p ∙ ap (λ l. xs ++ l) (sym q)

pub appends_nothing : (a : Option (List ℕ)) → Appends a a []
appends_nothing None = tt
appends_nothing (Some xs) = append-nil-sym xs
  where
    append-nil-sym : (xs : List ℕ) → xs ≡ xs ++ []
    append-nil-sym [] = refl
    append-nil-sym (x ∷ xs) = ap (λ l. x ∷ l) (append-nil-sym xs)

pub appends_on : (a b c : Option (List ℕ)) (xs ys : List ℕ) → Appends a b xs → Appends b c ys → Appends a c (xs ++ ys)
appends_on None b c xs ys p q = tt
appends_on (Some x) None c xs ys p q = absurd p
appends_on (Some x) (Some y) None xs ys p q = absurd q
appends_on (Some x) (Some y) (Some z) xs ys p q = q ∙ ap (λ l. l ++ ys) p ∙ append_assoc x xs ys

pub appends_kept : (a b c : Option (List ℕ)) (xs : List ℕ) → Appends a b xs → Keeps b c → Appends a c xs
appends_kept None b c xs p q = tt
appends_kept (Some x) None c xs p q = absurd p
appends_kept (Some x) (Some y) None xs p q = absurd q
appends_kept (Some x) (Some y) (Some z) xs p q = q ∙ p

pub take_on : (n m : ℕ) (xs : List ℕ) → n ≤ length xs → take (n + m) xs ≡ take n xs ++ take m (drop n xs)
take_on n m xs h =
    let e = length-take-le n xs h in
    ap (λ l. take (n + m) l) (sym (take-append-drop n xs)) ∙ ap (λ k. take (k + m) (take n xs ++ drop n xs)) (sym e)
    ∙ take-append-add (take n xs) (drop n xs) m

-- a write further on
pub writing_on : (a b c : Option (List ℕ)) (f0 f1 f2 : ℕ) (text : List ℕ) (at n : ℕ)
    → Writing (record { taken = a; taken_after = b; faults = f0; faults_after = f1 }) text at
    → n ≤ length (take (length text - at) (drop at text)) → Appends b c (take n (take (length text - at) (drop at text))) → f1 ≤ f2
    → Writing (record { taken = a; taken_after = c; faults = f0; faults_after = f2 }) text (at + n)
writing_on a b c f0 f1 f2 text at n before count wrote later =
    let all : take (length text - at) (drop at text) ≡ drop at text = take_rest text at in
    let count' : n ≤ length text - at = omega (arith, ap length all, length-drop at text) in
    let wrote' : Appends b c (take n (drop at text)) = subst (λ l. Appends b c (take n l)) all wrote in
    record {
      taken = subst (λ l. Appends a c l) (sym (take_on at n text before.within)) (appends_on a b c (take at text) (take n (drop at text)) before.taken wrote');
      later = let p : f0 ≤ f1 = before.later in omega arith;
      within = let p : at ≤ length text = before.within in omega arith;
    }

-- the last read before a push that was refused
pub reading_lost : (a b c : Option (List ℕ)) (f0 f1 f2 : ℕ) (input piece : List ℕ) (n : ℕ)
    → Reading (record { left = a; left_after = b; faults = f0; faults_after = f1 }) input
    → Consumes b c (take n piece) → length input + n ≤ max_input + 1
    → ReadsSome (record { left = a; left_after = c; faults = f0; faults_after = f2 }) (λ k. k ≤ max_input + 1)
reading_lost a b c f0 f1 f2 input piece n before read fits = record {
  input = input ++ take n piece;
  consumed = consumes_on a b c input (take n piece) before.consumed read;
  fits = omega (arith, length-append input (take n piece), length-take n piece);
}

-- a text was written so far
pub record Written (s : SinkEnds) (text : List ℕ) : Type 0 where
  pub taken : Appends s.taken s.taken_after text
  pub later : s.faults ≤ s.faults_after

-- a rise later on is a rise
rose_later : (before now later : ℕ) → before ≤ now → Rose now later → Rose before later
rose_later before now later h r = ⊎_elim (λ (up : now < later). inl (omega arith)) (λ (top : 2 ^ 64 - 1 ≤ later). inr top) r

-- a piece stands in a text behind the pieces before it
pub piece_within : {X : Type 0} (f : X → List ℕ) (xs : List X) (i : ℕ) (d : X) → i < length xs
    → flat_map f xs ≡ flat_map f (take i xs) ++ (f (get_or xs i d) ++ flat_map f (drop (i + 1) xs))
piece_within f xs i d h =
    ap (flat_map f) (sym (take-append-drop i xs)) ∙ flat_map-append f (take i xs) (drop i xs)
    ∙ ap (λ ys. flat_map f (take i xs) ++ flat_map f ys) (drop_more xs i d h)

-- a piece that was cut off, behind others, cuts off the whole text
pub cut_off : (a b c : Option (List ℕ)) (f0 f1 f2 : ℕ) (front piece rest text : List ℕ)
    → Written (record { taken = a; taken_after = b; faults = f0; faults_after = f1 }) front
    → WriteFails (record { taken = b; taken_after = c; faults = f1; faults_after = f2 }) piece
    → text ≡ front ++ (piece ++ rest)
    → WriteFails (record { taken = a; taken_after = c; faults = f0; faults_after = f2 }) text
cut_off a b c f0 f1 f2 front piece rest text done failed whole =
    let size = failed.size in
    let part : size < length piece = failed.part in
    let within : size ≤ length piece = omega arith in
    let taken : take (length front + size) text ≡ front ++ take size piece =
    ap (take (length front + size)) whole ∙ take-append-add front (piece ++ rest) size ∙ ap (λ l. front ++ l) (take-append-le size piece rest within) in
    record {
      cause = rose_later f0 f1 f2 done.later failed.cause;
      size = length front + size;
      part = omega (arith, ap length whole, length-append front (piece ++ rest), length-append piece rest);
      taken = subst (λ l. Appends a c l) (sym taken) (appends_on a b c front (take size piece) done.taken failed.taken);
    }

-- an answer that is a failure
pub failed_end : (s : SinkEnds) (text : List ℕ) (r : Result (Unit {0}) Failed) → IsErr r → WriteFails s text → WriteEnd s text r
failed_end s text (Ok v) e failed = absurd (cc)
failed_end s text (Err f) e failed = failed
