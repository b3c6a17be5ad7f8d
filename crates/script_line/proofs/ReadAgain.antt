-- What is read, written and read again: words one by one, and the words to the end of a line.
use Rattle.std.proofs.Common.{◌≡◌, ℕ, List, [], ◌∷◌, map, true, Result, Ok, Err, refl, sym, ap, subst, ◌∙◌}
use Rattle.script_line.specs.declared.codes.Code.{Code}
use Rattle.script_line.specs.Codes.{◌>>=◌, ◌⊗◌}
use Rattle.script_line.specs.Arguments.{no_word, one, two, three, one_and_rest}
use Rattle.script_line.specs.Sources.{each}
use Rattle.script_line.proofs.Judgements.{bind_ok, both_ok, moved, made_ok}
use Rattle.script_line.proofs.WrittenWords.{IsWord, AreWords}
use Rattle.script_line.proofs.WrittenLetters.{is_key, key_word}

abbrev pub Word : Type 0
Word = List ℕ

abbrev pub Words : Type 0
Words = List Word

-- what is written for a value is a word, which is read as the value
pub record IsWordAgain {A : Type 0} (read : Word → Result A Code) (write : A → Word) (a : A) : Type 0 where
  pub word : IsWord (write a)
  pub again : read (write a) ≡ Ok a

-- so it is for each value that is read
abbrev pub ReadsWordAgain : {A : Type 0} → (Word → Result A Code) → (A → Word) → Type 0
ReadsWordAgain {A} read write = (w : Word) (a : A) → read w ≡ Ok a → IsWordAgain read write a

-- the same of words
pub record AreReadAgain {A : Type 0} (read : Words → Result A Code) (write : A → Words) (a : A) : Type 0 where
  pub words : AreWords (write a)
  pub again : read (write a) ≡ Ok a

abbrev pub ReadsAgain : {A : Type 0} → (Words → Result A Code) → (A → Words) → Type 0
ReadsAgain {A} read write = (ws : Words) (a : A) → read ws ≡ Ok a → AreReadAgain read write a

-- ---- so many words

pub both : {A B : Type 0} (r : Result A Code) (s : Result B Code) (p : A × B) → r ≡ Ok p.0 → s ≡ Ok p.1 → (r ⊗ s) ≡ Ok p
both r s p e f = ap (λ x. x ⊗ s) e ∙ ap (λ y. Ok p.0 ⊗ y) f

pub no_word-again : ReadsAgain no_word (λ u. [])
no_word-again [] u e = record { words = tt; again = e }
no_word-again (w ∷ ws) u e = absurd cc

module _ {A : Type 0} (read : Word → Result A Code) (write : A → Word) (reads : ReadsWordAgain read write) where
  pub one-again : ReadsAgain (one read) (λ a. write a ∷ [])
  one-again [] a e = absurd cc
  one-again (w ∷ []) a e = let r = reads w a e in record { words = (r.word, tt); again = r.again }
  one-again (w ∷ v ∷ ws) a e = absurd cc

  pub each-again : ReadsAgain (each read) (λ xs. map write xs)
  each-again [] xs e = moved (AreReadAgain (each read) (λ ys. map write ys)) [] xs e (record { words = tt; again = refl })
  each-again (w ∷ ws) xs e =
      let b = bind_ok (read w) (λ y. each read ws >>= λ ys. Ok (y ∷ ys)) xs e in
      let c = bind_ok (each read ws) (λ ys. Ok (b.0 ∷ ys)) xs b.2 in
      let r = reads w b.0 b.1 in
      let s = each-again ws c.0 c.1 in
      let again : each read (map write (b.0 ∷ c.0)) ≡ Ok (b.0 ∷ c.0) = ap (λ x. x >>= λ y. each read (map write c.0) >>= λ ys. Ok (y ∷ ys)) r.again ∙ ap (λ x. x >>= λ ys. Ok (b.0 ∷ ys)) s.again in
      moved (AreReadAgain (each read) (λ ys. map write ys)) (b.0 ∷ c.0) xs c.2 (record { words = (r.word, s.words); again = again })

module _ {A B : Type 0} (f : Word → Result A Code) (x : A → Word) (fx : ReadsWordAgain f x) (g : Word → Result B Code) (y : B → Word) (gy : ReadsWordAgain g y) where
  pub two-again : ReadsAgain (two f g) (λ p. x p.0 ∷ y p.1 ∷ [])
  two-again [] p e = absurd cc
  two-again (u ∷ []) p e = absurd cc
  two-again (u ∷ v ∷ []) p e =
      let b = both_ok (f u) (g v) p e in
      let r = fx u p.0 b.0 in
      let s = gy v p.1 b.1 in
      record { words = (r.word, (s.word, tt)); again = both (f (x p.0)) (g (y p.1)) p r.again s.again }
  two-again (u ∷ v ∷ w ∷ ws) p e = absurd cc

module _ {A B C : Type 0} (f : Word → Result A Code) (x : A → Word) (fx : ReadsWordAgain f x) (g : Word → Result B Code) (y : B → Word) (gy : ReadsWordAgain g y) (h : Word → Result C Code) (z : C → Word) (hz : ReadsWordAgain h z)
  where
    pub three-again : ReadsAgain (three f g h) (λ p. x p.0 ∷ y p.1.0 ∷ z p.1.1 ∷ [])
    three-again [] p e = absurd cc
    three-again (u ∷ []) p e = absurd cc
    three-again (u ∷ v ∷ []) p e = absurd cc
    three-again (u ∷ v ∷ w ∷ []) p e =
        let b = both_ok (f u) (g v ⊗ h w) p e in
        let c = both_ok (g v) (h w) p.1 b.1 in
        let r = fx u p.0 b.0 in
        let s = gy v p.1.0 c.0 in
        let t = hz w p.1.1 c.1 in
        record {
          words = (r.word, (s.word, (t.word, tt)));
          again = both (f (x p.0)) (g (y p.1.0) ⊗ h (z p.1.1)) p r.again (both (g (y p.1.0)) (h (z p.1.1)) p.1 s.again t.again);
        }
    three-again (u ∷ v ∷ w ∷ t ∷ ws) p e = absurd cc

module _ {A B : Type 0} (f : Word → Result A Code) (x : A → Word) (fx : ReadsWordAgain f x) (g : Words → Result B Code) (y : B → Words) (gy : ReadsAgain g y) where
  pub one_and_rest-again : ReadsAgain (one_and_rest f g) (λ p. x p.0 ∷ y p.1)
  one_and_rest-again [] p e = absurd cc
  one_and_rest-again (u ∷ ws) p e =
      let b = both_ok (f u) (g ws) p e in
      let r = fx u p.0 b.0 in
      let s = gy ws p.1 b.1 in
      record { words = (r.word, s.words); again = both (f (x p.0)) (g (y p.1)) p r.again s.again }

-- ---- a row of a table

-- `all` reads words that begin with the row's word; `read` reads those behind it, of which `make` makes what is said
module _ {A B : Type 0} (all : Words → Result B Code) (write : B → Words) (word : Word) (key : is_key word ≡ true) (read : Words → Result A Code) (behind : A → Words) (reads : ReadsAgain read behind) (make : A → B)
    (said : (a : A) → write (make a) ≡ word ∷ behind a)
  where
    pub row : ((ws : Words) → all (word ∷ ws) ≡ (read ws >>= λ a. Ok (make a))) → (ws : Words) (b : B) → (read ws >>= λ a. Ok (make a)) ≡ Ok b → AreReadAgain all write b
    row told ws b e = made_ok (AreReadAgain all write) (read ws) make b e one_row
      where
        one_row : (a : A) → read ws ≡ Ok a → AreReadAgain all write (make a)
        one_row a is =
            let r = reads ws a is in
            record {
              words = subst AreWords (sym (said a)) (key_word word key, r.words);
              again = ap all (said a) ∙ told (behind a) ∙ ap (λ x. x >>= λ c. Ok (make c)) r.again;
            }

-- what is made of what is made
made_of_made : {A B C : Type 0} (r : Result A Code) (f : A → B) (g : B → C) → ((r >>= λ a. Ok (f a)) >>= λ b. Ok (g b)) ≡ (r >>= λ a. Ok (g (f a)))
made_of_made (Ok a) f g = refl
made_of_made (Err c) f g = refl

-- a row in two steps
module _ {A B C : Type 0} (all : Words → Result C Code) (write : C → Words) (word : Word) (key : is_key word ≡ true) (read : Words → Result A Code) (behind : A → Words) (reads : ReadsAgain read behind) (f : A → B) (g : B → C)
    (said : (a : A) → write (g (f a)) ≡ word ∷ behind a)
  where
    pub row_in_two : ((ws : Words) → all (word ∷ ws) ≡ ((read ws >>= λ a. Ok (f a)) >>= λ b. Ok (g b))) → (ws : Words) (c : C) → ((read ws >>= λ a. Ok (f a)) >>= λ b. Ok (g b)) ≡ Ok c → AreReadAgain all write c
    row_in_two told ws c e =
        row all write word key read behind reads (λ a. g (f a)) said (λ us. told us ∙ made_of_made (read us) f g) ws c (sym (made_of_made (read ws) f g) ∙ e)
