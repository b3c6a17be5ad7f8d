-- A seat is cut in two, two seats become one, and a new pool.
use Rattle.std.proofs.Common.{◌≡◌, ◌≢◌, ◌⊎◌, ℕ, zero, suc, ◌+◌, ◌-◌, ◌*◌, ◌<◌, ◌≤◌, ◌==◌, cond, Bool, List, [], ◌∷◌, ◌++◌, map, length, get_or, set, replicate, sym, refl, ap, ◌∙◌, subst, ⊎_elim, inl, inr, arith, Option, None, ne_eqb, eq-eqb}
use mathlib.Core.Logic.{dite}
use native.Mathlib.Decide.{ℕ_discrete}
use mathlib.Core.Option.{some, none, some-injective, some-ne-none}
use mathlib.Core.Option as maybe
use lib.ListN.{get_elem?, length-map, length-replicate, get_or-replicate}
use Rattle.atomic_table.specs.Table.{Splits, Joins, opening}
use Rattle.atomic_table.proofs.Lists.{at_last, at_longer}
use Rattle.stack_pool.specs.declared.view.Keep.{Keep}
use Rattle.stack_pool.specs.declared.view.Keep.TheVariants.{Nothing}
use Rattle.stack_pool.specs.declared.view.View.{View}
use Rattle.stack_pool.specs.Views.{times, head_or, tail, counting, blank, number_of, kept_at, names, counted, first_view, new_view, kept_count, dealt, dealing, joined, spent}
use Rattle.stack_pool.specs.Rule.{SeatOk, PlaceOk, SoundPool}
use Rattle.stack_pool.proofs.Keeps.{counted_set, seats_stay, place_stays}

pub at_end : {B : Type 0} (l : List B) (a b : B) (j : ℕ) → get_elem? (l ++ a ∷ []) j ≡ some b → (get_elem? l j ≡ some b) ⊎ (a ≡ b)
at_end [] a b zero e = inr (some-injective a b e)
at_end [] a b (suc j) e = absurd (some-ne-none b (sym e))
at_end (x ∷ xs) a b zero e = inl e
at_end (x ∷ xs) a b (suc j) e = at_end xs a b j e

pub times_append : (n : ℕ) (xs ys : List ℕ) → times n (xs ++ ys) ≡ times n xs + times n ys
times_append n [] ys = omega arith
times_append n (x ∷ xs) ys = let a = times_append n xs ys in omega arith

pub not_sixteen : (n : ℕ) → n < 16 → times n (16 ∷ []) ≡ 0
not_sixteen n l = let one : Bool → ℕ = λ b. cond b 1 0 in let a : one (16 == n) ≡ 0 = ap one (ne_eqb 16 n (λ e. omega arith)) in omega arith

deal_times : (n : ℕ) (spare : List ℕ) → n < 16 → times n (head_or 16 spare ∷ []) + times n (tail spare) ≡ times n spare
deal_times n [] l = let a = not_sixteen n l in omega arith
deal_times n (x ∷ xs) l = omega arith

module _ {S : Type 0} where
  blank_at : (l : List (Keep S)) (p : ℕ) → number_of (kept_at (blank l) p) ≡ 0
  blank_at [] p = refl
  blank_at (x ∷ xs) zero = refl
  blank_at (x ∷ xs) (suc p) = blank_at xs p

  pub length_blank : (l : List (Keep S)) → length (blank l) ≡ length l
  length_blank [] = refl
  length_blank (x ∷ xs) = ap suc (length_blank xs)

  counted_end : (n : ℕ) (vs : List (View S)) (w : View S) → counted n (vs ++ w ∷ []) ≡ counted n vs + names n w
  counted_end n [] w = omega arith
  counted_end n (x ∷ xs) w = let a = counted_end n xs w in omega arith

  place_end : (words : List ℕ) (homes : List (maybe.Option (Option S))) (vs : List (View S)) (w : View S) (q : ℕ) → PlaceOk words homes vs q → PlaceOk words homes (vs ++ w ∷ []) q
  place_end words homes vs w q k = ⊎_elim
      (λ (a : (get_or words q 0 ≡ 0) × (get_elem? homes q ≡ some (some None))). inl a)
      (λ (a : (j : ℕ) × (u : View S) × (get_elem? vs j ≡ some u) × (number_of (kept_at u.kept q) ≢ 0)). inr (a.0, a.1, at_longer vs (w ∷ []) a.0 a.1 a.2, a.3)) k

  bare_seat : (words : List ℕ) (homes : List (maybe.Option (Option S))) (w : View S) → w.number ≤ 16 → w.takings ≡ 0 → ((q : ℕ) → number_of (kept_at w.kept q) ≡ 0) → SeatOk words homes w
  bare_seat words homes w small none_taken bare = record {
    number = small;
    takings = omega arith;
    kept = λ q ne. absurd (ne (bare q));
    differ = λ p q _ ne. absurd (ne (bare p));
  }

  pub deals : (seats id : ℕ) (v : View S) → head_or 16 v.spare < 16 → Splits (SoundPool seats) id v (dealing v) (dealt v)
  deals seats id v next s r at = let l : View S = dealing v in let w : View S = dealt v in let vs = set s.views id l in
      let dealt_names : (n : ℕ) → n < 16 → names n l + names n w ≡ names n v = λ n small. let a = deal_times n v.spare small in omega arith in record {
        some_seat = r.some_seat;
        wide = r.wide;
        deep = r.deep;
        once = λ n small. let a = counted_set n s.views id v l at in let b = counted_end n vs w in let c = dealt_names n small in let d = r.once n small in omega arith;
        given = λ n le small. let a = counted_set n s.views id v l at in let b = counted_end n vs w in let c = dealt_names n small in let d = r.given n le small in omega arith;
        each_seat = λ j u e. ⊎_elim
            (λ f. seats_stay (SeatOk s.words s.homes) s.views id l
            (let k = r.each_seat id v at in record { number = k.number; takings = k.takings; kept = k.kept; differ = k.differ }) (λ i x _ g. r.each_seat i x g) j u f)
            (λ (same : w ≡ u). subst (SeatOk s.words s.homes) same (bare_seat s.words s.homes w (omega arith) refl (blank_at v.kept)))
            (at_end vs w u j e);
        each_place = λ q near. place_end s.words s.homes vs w q (place_stays s.words s.words s.homes s.homes s.views id q v l at refl refl (λ ne. ne) (r.each_place q near));
      }

  pub gathers : (seats id other : ℕ) (v w : View S) → ((q : ℕ) → number_of (kept_at w.kept q) ≡ 0) → Joins (SoundPool seats) id v other w (joined v w) spent
  gathers seats id other v w bare s r at ne there = let b : View S = joined v w in let vs = set s.views id b in
      let joined_names : (n : ℕ) → names n b ≡ names n v + names n w = λ n. let a = times_append n (v.olds ++ w.number ∷ w.spare) w.olds in let c = times_append n v.olds (w.number ∷ w.spare) in omega arith in record {
        some_seat = r.some_seat;
        wide = r.wide;
        deep = r.deep;
        once = λ n small. let a = counted_set n s.views id v b at in let c = counted_set n vs other w spent there in let d = joined_names n in let z = not_sixteen n small in let o = r.once n small in omega arith;
        given = λ n le small. let a = counted_set n s.views id v b at in let c = counted_set n vs other w spent there in let d = joined_names n in let z = not_sixteen n small in let o = r.given n le small in omega arith;
        each_seat = seats_stay (SeatOk s.words s.homes) vs other spent (bare_seat s.words s.homes spent (omega arith) refl (λ q. refl))
            (λ j u _ e. seats_stay (SeatOk s.words s.homes) s.views id b
            (let k = r.each_seat id v at in record { number = k.number; takings = k.takings; kept = k.kept; differ = k.differ }) (λ i x _ g. r.each_seat i x g) j u e);
        each_place = λ q near. place_stays s.words s.words s.homes s.homes vs other q w spent there refl refl (λ some_here. absurd (some_here (bare q)))
            (place_stays s.words s.words s.homes s.homes s.views id q v b at refl refl (λ y. y) (r.each_place q near));
      }

pub replicate_at : (S : Type 0) (n p : ℕ) → number_of (kept_at (replicate {A = Keep S} n Nothing) p) ≡ 0
replicate_at S zero p = refl
replicate_at S (suc n) zero = refl
replicate_at S (suc n) (suc p) = replicate_at S n p

all_home : {B : Type 0} (n i : ℕ) (b : B) → i < n → get_elem? (map some (replicate n b)) i ≡ some (some b)
all_home zero i b h = absurd (omega arith)
all_home (suc n) zero b h = refl
all_home (suc n) (suc i) b h = all_home n i b (omega arith)

-- a number stands once in a row of numbers, where it stands
times_counting : (k a n : ℕ) → (times n (counting a k) ≤ 1) × (n < a → times n (counting a k) ≡ 0) × (a + k ≤ n → times n (counting a k) ≡ 0)
times_counting zero a n = (omega arith, (λ _. refl), λ _. refl)
times_counting (suc k) a n = let t = times_counting k (suc a) n in let one : Bool → ℕ = λ b. cond b 1 0 in let below = t.1 in let above = t.2 in let most = t.0 in (
  dite (ℕ_discrete n a)
      (λ same. let y = below (omega arith) in let z : one (a == n) ≡ 1 = ap one (eq-eqb a n (sym same)) in omega arith)
      (λ other. let z : one (a == n) ≡ 0 = ap one (ne_eqb a n (λ e. other (sym e))) in omega arith),
  (λ l. let z : one (a == n) ≡ 0 = ap one (ne_eqb a n (λ e. omega arith)) in let y = below (omega arith) in omega arith),
  (λ l. let z : one (a == n) ≡ 0 = ap one (ne_eqb a n (λ e. omega arith)) in let y = above (omega arith) in omega arith),
)

one_seat : {B : Type 0} (v u : B) (j : ℕ) → get_elem? (v ∷ []) j ≡ some u → v ≡ u
one_seat v u zero e = some-injective v u e
one_seat v u (suc j) e = absurd (some-ne-none u (sym e))

module _ {S : Type 0} where
  pub starts : (seats : ℕ) → 0 < seats → seats ≤ 8 → SoundPool {S = S} seats (opening (replicate (seats * 35) 0) (replicate (seats * 35) None) (first_view seats))
  starts seats pos few = let v : View S = first_view seats in let words = replicate (seats * 35) 0 in let homes = map some (replicate (seats * 35) None) in record {
    some_seat = (pos, few);
    wide = length-replicate (seats * 35) 0;
    deep = length-map (replicate (seats * 35) None) (λ (x : Option S). some x) ∙ length-replicate (seats * 35) None;
    once = λ n small. let t = (times_counting (suc (seats - 1)) 0 n).0 in omega arith;
    given = λ n le small. let t = (times_counting (suc (seats - 1)) 0 n).2 (omega arith) in omega arith;
    each_seat = λ j u e. subst (SeatOk words homes) (one_seat v u j e) (bare_seat words homes v (omega arith) refl (replicate_at S (seats * 35)));
    each_place = λ q near. inl (get_or-replicate (seats * 35) q 0 0 near, all_home (seats * 35) q None near);
  }

  blank_new : (n : ℕ) → blank (replicate {A = Keep S} n Nothing) ≡ replicate n Nothing
  blank_new zero = refl
  blank_new (suc n) = ap (λ (l : List (Keep S)). Nothing ∷ l) (blank_new n)

  pub none_kept : (l : List (Keep S)) → ((p : ℕ) → number_of (kept_at l p) ≡ 0) → kept_count l ≡ 0
  none_kept [] h = refl
  none_kept (x ∷ xs) h = let one : Bool → ℕ = λ b. cond b 0 1 in let a = none_kept xs (λ p. h (suc p)) in let b : one (number_of x == 0) ≡ 0 = ap one (eq-eqb (number_of x) 0 (h 0)) in omega arith

  -- the seats of a new pool, one after another
  pub dealt_new : (seats a k : ℕ) → seats - a ≡ suc k → dealt {S = S} (record (new_view seats (a - 1)) { spare = counting a (seats - a) }) ≡ record (new_view seats (a + 1 - 1)) { spare = counting (a + 1) k }
  dealt_new seats a k e = let V : Type 0 = View S in
      ap (λ (n : ℕ). let x : V = dealt (record (new_view seats (a - 1)) { spare = counting a n }) in x) e
      ∙ ap (λ (l : List (Keep S)). let x : V = record (new_view seats a) { spare = counting (suc a) k; kept = l } in x) (blank_new (seats * 35))
      ∙ (let same : a ≡ a + 1 - 1 = omega arith in let next : suc a ≡ a + 1 = omega arith in λ i. record (new_view seats (same i)) { spare = counting (next i) k })

pub head_counting : (a n k : ℕ) → n ≡ suc k → head_or 16 (counting a n) ≡ a
head_counting a n k e = ap (λ (m : ℕ). head_or 16 (counting a m)) e

pub at_push : {B : Type 0} (l : List B) (a b : B) (j : ℕ) → get_elem? (l ++ a ∷ []) j ≡ some b → (get_elem? l j ≡ some b) ⊎ ((j ≡ length l) × (a ≡ b))
at_push [] a b zero e = inr (refl, some-injective a b e)
at_push [] a b (suc j) e = absurd (some-ne-none b (sym e))
at_push (x ∷ xs) a b zero e = inl e
at_push (x ∷ xs) a b (suc j) e = ⊎_elim (λ f. inl f) (λ (t : (j ≡ length xs) × (a ≡ b)). let n = t.0 in inr (omega arith, t.1)) (at_push xs a b j e)

-- what was taken off the end of a list, and what was left
pub popped : {P : Type 0} (all left : List P) (last : P) → all ≡ left ++ last ∷ [] → get_elem? all (length left) ≡ some last
popped {P} all left last e = ap (λ (l : List P). get_elem? l (length left)) e ∙ at_last left last (length left) refl

pub still_there : {P : Type 0} (all left : List P) (last : P) → all ≡ left ++ last ∷ [] → (k : ℕ) (x : P) → get_elem? left k ≡ some x → get_elem? all k ≡ some x
still_there {P} all left last e k x f = ap (λ (l : List P). get_elem? l k) e ∙ at_longer left (last ∷ []) k x f
