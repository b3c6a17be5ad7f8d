-- The steps on the word of one place, and what each tells.
use Rattle.std.proofs.Common.{◌≡◌, ◌≢◌, ℕ, eqb, ◌+◌, ◌*◌, ◌^◌, ◌<◌, List, [], ◌∷◌, ◌++◌, length, get_or, set, sym, refl, ap, ◌∙◌, subst, ⊎_elim, arith, Option, Some, None, length-set}
use mathlib.Core.Option.{some, none}
use mathlib.Core.Option as maybe
use lib.ListN.{get_elem?}
use prog.Atomic.{either}
use Rattle.atomic_table.specs.Table.{State, step, Act, keeps, takes, gives, Valid, carried_after, stepped, Allows}
use Rattle.atomic_table.proofs.Lists.{exchanged, set_here, set_else}
use Rattle.stack_pool.specs.declared.view.Found.{Found}
use Rattle.stack_pool.specs.declared.view.Keep.{Keep}
use Rattle.stack_pool.specs.declared.view.Keep.TheVariants.{Nothing, Home, Out, Lent}
use Rattle.stack_pool.specs.declared.view.Kind.TheVariants.{Probe, Take, Back, Hold, Clear}
use Rattle.stack_pool.specs.declared.view.View.{View}
use Rattle.stack_pool.specs.Views.{number_of, word_of, home_of, kept_at, number_at, next_number, IsOut, IsLent, IsHome}
use Rattle.stack_pool.specs.Rule.{SoundPool}
use Rattle.stack_pool.specs.Steps.{Sat, noting, keeping, found, probed, laid, fetched, took, backed, lifted, cleared}
use Rattle.stack_pool.proofs.Keeps.{shows, rests, alone, free_alone, Moves, moved}

-- the value that a seat took last
abbrev option_or : {S : Type 0} → S → Option S → S
option_or d None = d
option_or d (Some y) = y

abbrev hand_or : {S : Type 0} → S → List (ℕ × Option S) → S
hand_or d [] = d
hand_or d (x ∷ xs) = option_or d x.1

module _ {S : Type 0} (seats slots id p : ℕ) (me : Sat S) (near : p < seats * 35) where
  pub probes : Allows (SoundPool seats) slots id me p (λ n. n) (probed (step slots p 0 0 none) me)
  probes s r deep at _ = let v = me.0 in let n : ℕ = get_or s.words p 0 in
      (noting Probe v p n, keeps, tt, rests seats s r id p v (v.found ++ found Probe p n ∷ []) at, (refl, shows seats s r id p v at near, refl))

  module _ (room : p < length me.0.kept) (small : me.0.number < 16) where
    abbrev Homes : Type 0
    Homes = List (maybe.Option (Option S))

    -- a place that the seat keeps is kept otherwise, under the same number
    rekept : (s : State (Option S) (View S)) → (r : SoundPool seats s) → (x : ℕ) (homes' : Homes) (k : Keep S) → get_elem? s.views id ≡ some me.0 → number_at me.0 p ≢ 0 → number_of k ≡ number_at me.0 p
        → length homes' ≡ length s.homes → ((q : ℕ) → q ≢ p → get_elem? homes' q ≡ get_elem? s.homes q) → x ≡ word_of k → get_elem? homes' p ≡ some (home_of k) → Moves seats s id p x me.0 homes' k me.0.takings
    rekept s r x homes' k at ne same deep others word home = let old = r.each_seat id me.0 at in record {
      at = at;
      near = small;
      more = omega arith;
      most = old.takings;
      deep = deep;
      others = others;
      only = alone seats s r id p me.0 at ne;
      came = λ _. let c = (old.kept p ne).came in (c.0, same ∙ c.1, c.2, c.3);
      word = word;
      home = home;
      nobody = λ z. absurd (ne (sym same ∙ z));
      fresh = λ q other e. absurd (other (sym (old.differ p q (sym (e ∙ same)) ne)));
    }

    -- the seat's own place has its word and its home
    own : (s : State (Option S) (View S)) → SoundPool seats s → get_elem? s.views id ≡ some me.0 → number_at me.0 p ≢ 0 → (k : Keep S) → kept_at me.0.kept p ≡ k
        → (get_or s.words p 0 ≡ word_of k) × (get_elem? s.homes p ≡ some (home_of k))
    own s r at ne k is = let h = (r.each_seat id me.0 at).kept p ne in (h.word ∙ ap word_of is, h.home ∙ ap (λ (y : Keep S). some (home_of y)) is)

    pub holds : (new : ℕ) → IsHome (kept_at me.0.kept p) → new ≡ number_at me.0 p * 2 + 1 → Allows (SoundPool seats) slots id me p (λ _. new) (lifted (step slots p new 0 none) me)
    holds new home is s r deep at _ = let v = me.0 in let n : ℕ = get_or s.words p 0 in let k = number_at v p in let x = home.0.0 in
        let h = own s r at home.1 (Home k x) home.0.1 in let wide = r.deep in let homes' = set s.homes p none in (
          keeping Hold v p n (Out k),
          takes p (Some x),
          h.1,
          moved seats s r id p new v homes' (Out k) v.takings (v.found ++ found Hold p n ∷ []) near room
              (rekept s r new homes' (Out k) at home.1 refl (length-set s.homes p none) (λ q ne. set_else s.homes p q none ne) is (set_here s.homes p none (omega arith))),
          (x, home.0.1, refl, h.0, refl),
        )

    pub fetches : IsLent (kept_at me.0.kept p) → Allows (SoundPool seats) slots id me p (λ n. n) (fetched (step slots p 0 0 none) me)
    fetches lent s r deep at _ = let v = me.0 in let n : ℕ = get_or s.words p 0 in let k = number_at v p in
        let h = own s r at lent.1 (Lent k) lent.0 in let wide = r.deep in let homes' = set s.homes p none in (
          keeping Probe v p n (Out k),
          takes p None,
          h.1,
          moved seats s r id p n v homes' (Out k) v.takings (v.found ++ found Probe p n ∷ []) near room
              (rekept s r n homes' (Out k) at lent.1 refl (length-set s.homes p none) (λ q ne. set_else s.homes p q none ne) h.0 (set_here s.homes p none (omega arith))),
          (refl, h.0, refl),
        )

    pub lays : (more : List (ℕ × Option S)) → IsOut (kept_at me.0.kept p) → me.1 ≡ (p, None) ∷ more → Allows (SoundPool seats) slots id me p (λ n. n) (laid (step slots p 0 0 none) me)
    lays more out has s r deep at _ = let v = me.0 in let n : ℕ = get_or s.words p 0 in let k = number_at v p in
        let h = own s r at out.1 (Out k) out.0 in let wide = r.deep in let homes' = set s.homes p (some None) in let w = keeping Probe v p n (Lent k) in (
          w,
          gives,
          tt,
          subst (λ (cs : List (ℕ × Option S)). SoundPool seats (stepped s p n id cs w gives)) (sym has)
              (moved seats s r id p n v homes' (Lent k) v.takings (v.found ++ found Probe p n ∷ []) near room
              (rekept s r n homes' (Lent k) at out.1 refl (length-set s.homes p (some None)) (λ q ne. set_else s.homes p q (some None) ne) h.0 (set_here s.homes p (some None) (omega arith)))),
          (refl, h.0, refl),
        )

    pub backs : (new : ℕ) (y : S) (more : List (ℕ × Option S)) → IsOut (kept_at me.0.kept p) → me.1 ≡ (p, Some y) ∷ more → new ≡ number_at me.0 p * 2
        → Allows (SoundPool seats) slots id me p (λ _. new) (backed (step slots p new 0 none) me)
    backs new y more out has is s r deep at _ = let v = me.0 in let n : ℕ = get_or s.words p 0 in let k = number_at v p in
        let h = own s r at out.1 (Out k) out.0 in let wide = r.deep in let homes' = set s.homes p (some (Some y)) in let w = keeping Back v p n (Home k y) in (
          w,
          gives,
          tt,
          subst (λ (cs : List (ℕ × Option S)). SoundPool seats (stepped s p new id cs w gives)) (sym has)
              (moved seats s r id p new v homes' (Home k y) v.takings (v.found ++ found Back p n ∷ []) near room
              (rekept s r new homes' (Home k y) at out.1 refl (length-set s.homes p (some (Some y))) (λ q ne. set_else s.homes p q (some (Some y)) ne) is (set_here s.homes p (some (Some y)) (omega arith)))),
          λ x e. let inner : y ≡ x = ap (hand_or y) (sym has ∙ e) in (refl, h.0, λ i. keeping Back v p n (Home k (inner i))),
        )

    pub clears : (more : List (ℕ × Option S)) → IsOut (kept_at me.0.kept p) → me.1 ≡ (p, None) ∷ more → Allows (SoundPool seats) slots id me p (λ _. 0) (cleared (step slots p 0 0 none) me)
    clears more out has s r deep at _ = let v = me.0 in let n : ℕ = get_or s.words p 0 in let k = number_at v p in let old = r.each_seat id v at in
        let h = own s r at out.1 (Out k) out.0 in let wide = r.deep in let homes' = set s.homes p (some None) in let w = keeping Clear v p n Nothing in (
          w,
          gives,
          tt,
          subst (λ (cs : List (ℕ × Option S)). SoundPool seats (stepped s p 0 id cs w gives)) (sym has)
              (moved seats s r id p 0 v homes' Nothing v.takings (v.found ++ found Clear p n ∷ []) near room record {
                at = at;
                near = small;
                more = omega arith;
                most = old.takings;
                deep = length-set s.homes p (some None);
                others = λ q ne. set_else s.homes p q (some None) ne;
                only = alone seats s r id p v at out.1;
                came = λ ne. absurd (ne refl);
                word = refl;
                home = set_here s.homes p (some None) (omega arith);
                nobody = λ _. refl;
                fresh = λ q _ _. refl;
              }),
          (refl, h.0, refl),
        )

    free_home : (s : State (Option S) (View S)) → SoundPool seats s → get_or s.words p 0 ≡ 0 → get_elem? s.homes p ≡ some (some None)
    free_home s r z = ⊎_elim
        (λ (a : (get_or s.words p 0 ≡ 0) × (get_elem? s.homes p ≡ some (some None))). a.1)
        (λ (a : (j : ℕ) × (u : View S) × (get_elem? s.views j ≡ some u) × (number_of (kept_at u.kept p) ≢ 0)). absurd (a.3 (free_alone seats s r p z a.0 a.1 a.2)))
        (r.each_place p near)

    takes_at : (new : ℕ) → me.0.takings < 2 ^ 58 → new ≡ next_number me.0 * 2 + 1 → (s : State (Option S) (View S)) → (r : SoundPool seats s) → get_elem? s.views id ≡ some me.0 → get_or s.words p 0 ≡ 0 → (found' : List Found)
        → SoundPool seats record { words = set s.words p new; homes = set s.homes p none; views = set s.views id (record me.0 { kept = set me.0.kept p (Out (next_number me.0)); takings = me.0.takings + 1; found = found' }) }
    takes_at new few is s r at free found' = let v = me.0 in let old = r.each_seat id v at in let wide = r.deep in
        moved seats s r id p new v (set s.homes p none) (Out (next_number v)) (v.takings + 1) found' near room record {
          at = at;
          near = small;
          more = omega arith;
          most = omega arith;
          deep = length-set s.homes p none;
          others = λ q ne. set_else s.homes p q none ne;
          only = λ j u _ e. free_alone seats s r p free j u e;
          came = λ _. (v.takings + 1, refl, omega arith, omega arith);
          word = is;
          home = set_here s.homes p none (omega arith);
          nobody = λ z. absurd (omega arith);
          fresh = λ q _ e. let c = (old.kept q (λ z. omega arith)).came in let a = c.1 in let b = c.3 in absurd (omega arith);
        }

    pub takes_free : (new : ℕ) → me.0.takings < 2 ^ 58 → new ≡ next_number me.0 * 2 + 1
        → Allows (SoundPool seats) slots id me p (λ n. either (eqb n 0) new n) (took (step slots p 0 new none) me)
    takes_free new few is s r deep at _ = let v = me.0 in let n : ℕ = get_or s.words p 0 in
        exchanged n 0 new (λ (x : ℕ). (w : View S) × (a : Act (Option S)) × Valid s.homes me.1 a × SoundPool seats (stepped s p x id me.1 w a) × took (step slots p 0 new none) me n (w, carried_after me.1 a))
        (λ hit. let found' = v.found ++ found Take p n ∷ [] in (
          record v { kept = set v.kept p (Out (next_number v)); takings = v.takings + 1; found = found' },
          takes p None,
          free_home s r hit,
          takes_at new few is s r at hit found',
          ((λ _. (refl, free_alone seats s r p hit id v at, refl)), λ miss. absurd (miss hit)),
        ))
        (λ miss. (
          noting Probe v p n,
          keeps,
          tt,
          rests seats s r id p v (v.found ++ found Probe p n ∷ []) at,
          ((λ hit. absurd (miss hit)), λ _. (refl, shows seats s r id p v at near, refl)),
        ))
