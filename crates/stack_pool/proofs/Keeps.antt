-- What stays of the rule while one seat moves one place.
use Rattle.std.proofs.Common.{◌≡◌, ◌≢◌, ℕ, zero, suc, ◌+◌, ◌*◌, ◌/◌, ◌%◌, ◌^◌, ◌<◌, ◌≤◌, ◌==◌, cond, Bool, List, [], ◌∷◌, length, get_or, set, sym, refl, ap, ◌∙◌, subst, ⊎_elim, inl, inr, arith, Option, None, eq-eqb, length-set, get_or-set_other, get_or-set_same}
use mathlib.Core.Option.{some, none, some-injective, some-ne-none}
use mathlib.Core.Logic.{dite}
use native.Mathlib.Decide.{ℕ_discrete}
use mathlib.Core.Option as maybe
use lib.ListN.{get_elem?}
use lib.Seq.{set-get_or}
use Rattle.atomic_table.specs.Table.{State}
use Rattle.atomic_table.proofs.Lists.{at_set, set_here, set_else}
use Rattle.stack_pool.specs.declared.view.Found.{Found}
use Rattle.stack_pool.specs.declared.view.Keep.{Keep}
use Rattle.stack_pool.specs.declared.view.Keep.TheVariants.{Nothing, Home, Out, Lent}
use Rattle.stack_pool.specs.declared.view.View.{View}
use Rattle.stack_pool.specs.Views.{number_of, word_of, home_of, kept_at, names, counted}
use Rattle.stack_pool.specs.Rule.{Came, KeepOk, SeatOk, PlaceOk, SoundPool}
use Rattle.stack_pool.specs.Steps.{Shows}

pub in_range : {B : Type 0} (l : List B) (i : ℕ) (a : B) → get_elem? l i ≡ some a → i < length l
in_range [] i a e = absurd (some-ne-none a (sym e))
in_range (x ∷ xs) zero a e = omega arith
in_range (x ∷ xs) (suc i) a e = let h = in_range xs i a e in omega arith

-- the seat of a kept number
pub seat_of : (seat takings n : ℕ) → seat < 16 → Came seat takings n → n % 16 ≡ seat
seat_of seat takings n near c = let e = c.1 in omega arith

came_later : (seat t t' n : ℕ) → t ≤ t' → Came seat t n → Came seat t' n
came_later seat t t' n le c = let h = c.3 in (c.0, c.1, c.2, omega arith)

module _ {S : Type 0} where
  -- half a kept place's word is its number
  pub half_word : (k : Keep S) → word_of k / 2 ≡ number_of k
  half_word Nothing = refl
  half_word (Home n x) = omega arith
  half_word (Out n) = omega arith
  half_word (Lent n) = omega arith

  pub word_some : (k : Keep S) → number_of k ≢ 0 → word_of k ≢ 0
  word_some k ne z = ne (sym (half_word k) ∙ ap (λ (w : ℕ). w / 2) z)

  pub own_name : (v : View S) → 1 ≤ names v.number v
  own_name v = let one : Bool → ℕ = λ b. cond b 1 0 in let a : one (v.number == v.number) ≡ 1 = ap one (eq-eqb v.number v.number refl) in omega arith

  pub one_of : (n : ℕ) (vs : List (View S)) (i : ℕ) (v : View S) → get_elem? vs i ≡ some v → names n v ≤ counted n vs
  one_of n [] i v e = absurd (some-ne-none v (sym e))
  one_of n (x ∷ xs) zero v e = let a : names n x ≡ names n v = ap (names n) (some-injective x v e) in omega arith
  one_of n (x ∷ xs) (suc i) v e = let a = one_of n xs i v e in omega arith

  pub two_of : (n : ℕ) (vs : List (View S)) (i j : ℕ) (v u : View S) → i ≢ j → get_elem? vs i ≡ some v → get_elem? vs j ≡ some u → names n v + names n u ≤ counted n vs
  two_of n [] i j v u ne e f = absurd (some-ne-none v (sym e))
  two_of n (x ∷ xs) zero zero v u ne e f = absurd (ne refl)
  two_of n (x ∷ xs) zero (suc j) v u ne e f = let a : names n x ≡ names n v = ap (names n) (some-injective x v e) in let b = one_of n xs j u f in omega arith
  two_of n (x ∷ xs) (suc i) zero v u ne e f = let a : names n x ≡ names n u = ap (names n) (some-injective x u f) in let b = one_of n xs i v e in omega arith
  two_of n (x ∷ xs) (suc i) (suc j) v u ne e f = let a = two_of n xs i j v u (λ h. ne (ap suc h)) e f in omega arith

  pub counted_set : (n : ℕ) (vs : List (View S)) (id : ℕ) (v w : View S) → get_elem? vs id ≡ some v → counted n (set vs id w) + names n v ≡ counted n vs + names n w
  counted_set n [] id v w e = absurd (some-ne-none v (sym e))
  counted_set n (x ∷ xs) zero v w e = let a : names n x ≡ names n v = ap (names n) (some-injective x v e) in omega arith
  counted_set n (x ∷ xs) (suc id) v w e = let a = counted_set n xs id v w e in omega arith

  -- a fact of each seat stays when one seat's view becomes w
  pub seats_stay : (F : View S → Type 0) (vs : List (View S)) (id : ℕ) (w : View S) → F w
      → ((j : ℕ) (u : View S) → j ≢ id → get_elem? vs j ≡ some u → F u) → (j : ℕ) (u : View S) → get_elem? (set vs id w) j ≡ some u → F u
  seats_stay F vs id w mine others j u e = ⊎_elim
      (λ (a : (j ≡ id) × (w ≡ u)). subst F a.1 mine)
      (λ (a : (j ≢ id) × (get_elem? vs j ≡ some u)). others j u a.0 a.1) (at_set vs id j w u e)

  -- a fact of the view at j stays where the view that becomes w keeps it
  pub witness_stays : (F : View S → Type 0) (vs : List (View S)) (id j : ℕ) (v w u : View S) → get_elem? vs id ≡ some v → get_elem? vs j ≡ some u → F u → (F v → F w)
      → (x : View S) × (get_elem? (set vs id w) j ≡ some x) × F x
  witness_stays F vs id j v w u at e f keep = dite (ℕ_discrete j id)
      (λ is. let same : v ≡ u = some-injective v u (sym at ∙ (ap (get_elem? vs) (sym is) ∙ e)) in
      (w, ap (get_elem? (set vs id w)) is ∙ set_here vs id w (in_range vs id v at), keep (subst F (sym same) f)))
      (λ other. (u, set_else vs id j w other ∙ e, f))

  pub place_stays : (words words' : List ℕ) (homes homes' : List (maybe.Option (Option S))) (vs : List (View S)) (id q : ℕ) (v w : View S) → get_elem? vs id ≡ some v
      → get_or words' q 0 ≡ get_or words q 0 → get_elem? homes' q ≡ get_elem? homes q → (number_of (kept_at v.kept q) ≢ 0 → number_of (kept_at w.kept q) ≢ 0)
      → PlaceOk words homes vs q → PlaceOk words' homes' (set vs id w) q
  place_stays words words' homes homes' vs id q v w at word home keep k = ⊎_elim
      (λ (a : (get_or words q 0 ≡ 0) × (get_elem? homes q ≡ some (some None))). inl (word ∙ a.0, home ∙ a.1))
      (λ (a : (j : ℕ) × (u : View S) × (get_elem? vs j ≡ some u) × (number_of (kept_at u.kept q) ≢ 0)).
      let t = witness_stays (λ (u : View S). number_of (kept_at u.kept q) ≢ 0) vs id a.0 v w a.1 at a.2 a.3 keep in inr (a.0, t.0, t.1, t.2)) k

  module _ (seats : ℕ) where
    -- two seats have two numbers
    apart : (s : State (Option S) (View S)) → SoundPool seats s → (i j : ℕ) (v u : View S) → i ≢ j → get_elem? s.views i ≡ some v → get_elem? s.views j ≡ some u → v.number < 16 → v.number ≢ u.number
    apart s r i j v u ne e f near same = let a = two_of v.number s.views i j v u ne e f in let b = own_name v in
        let c : 1 ≤ names v.number u = subst (λ (n : ℕ). 1 ≤ names n u) (sym same) (own_name u) in let d = r.once v.number near in absurd (omega arith)

    -- who keeps a place is alone there
    pub alone : (s : State (Option S) (View S)) → SoundPool seats s → (id p : ℕ) (v : View S) → get_elem? s.views id ≡ some v → number_of (kept_at v.kept p) ≢ 0
        → (j : ℕ) (u : View S) → j ≢ id → get_elem? s.views j ≡ some u → number_of (kept_at u.kept p) ≡ 0
    alone s r id p v at ne j u other e = dite (ℕ_discrete (number_of (kept_at u.kept p)) 0) (λ z. z) (λ some_too.
        let a = (r.each_seat id v at).kept p ne in let b = (r.each_seat j u e).kept p some_too in
        let same : number_of (kept_at v.kept p) ≡ number_of (kept_at u.kept p) = sym (half_word (kept_at v.kept p)) ∙ (ap (λ (w : ℕ). w / 2) (sym a.word ∙ b.word) ∙ half_word (kept_at u.kept p)) in
        let kin : v.number ≡ u.number = sym (seat_of v.number v.takings (number_of (kept_at v.kept p)) a.near a.came) ∙ (ap (λ (n : ℕ). n % 16) same ∙ seat_of u.number u.takings (number_of (kept_at u.kept p)) b.near b.came) in
        absurd (apart s r id j v u (λ x. other (sym x)) at e a.near kin))

    -- no seat keeps a free place
    pub free_alone : (s : State (Option S) (View S)) → SoundPool seats s → (p : ℕ) → get_or s.words p 0 ≡ 0 → (j : ℕ) (u : View S) → get_elem? s.views j ≡ some u → number_of (kept_at u.kept p) ≡ 0
    free_alone s r p z j u e = dite (ℕ_discrete (number_of (kept_at u.kept p)) 0) (λ z. z) (λ ne.
        let k = (r.each_seat j u e).kept p ne in absurd (word_some (kept_at u.kept p) ne (sym k.word ∙ z)))

    -- what a seat learns of a place from its word
    pub shows : (s : State (Option S) (View S)) → SoundPool seats s → (id p : ℕ) (v : View S) → get_elem? s.views id ≡ some v → p < seats * 35 → Shows v p (get_or s.words p 0)
    shows s r id p v at near = (
      (λ ne. let h = (r.each_seat id v at).kept p ne in let k = kept_at v.kept p in
          (h.word, ap (λ (w : ℕ). w / 2 % 16) h.word ∙ (ap (λ (n : ℕ). n % 16) (half_word k) ∙ seat_of v.number v.takings (number_of k) h.near h.came))),
      λ small some_word mine. ⊎_elim
          (λ (a : (get_or s.words p 0 ≡ 0) × (get_elem? s.homes p ≡ some (some None))). absurd (some_word a.0))
          (λ (a : (j : ℕ) × (u : View S) × (get_elem? s.views j ≡ some u) × (number_of (kept_at u.kept p) ≢ 0)).
          let u = a.1 in let k = (r.each_seat a.0 u a.2).kept p a.3 in
          let owner : u.number ≡ v.number = sym (seat_of u.number u.takings (number_of (kept_at u.kept p)) k.near k.came)
          ∙ (ap (λ (n : ℕ). n % 16) (sym (ap (λ (w : ℕ). w / 2) k.word ∙ half_word (kept_at u.kept p))) ∙ mine) in
          dite (ℕ_discrete a.0 id)
          (λ is. let same : v ≡ u = some-injective v u (sym at ∙ (ap (get_elem? s.views) (sym is) ∙ a.2)) in
          subst (λ (x : View S). (number_of (kept_at x.kept p) ≢ 0) × (get_or s.words p 0 ≡ word_of (kept_at x.kept p))) (sym same) (a.3, k.word))
          (λ other. absurd (apart s r a.0 id u v other a.2 at k.near owner)))
          (r.each_place p near),
    )

    -- a step that changes no place
    pub rests : (s : State (Option S) (View S)) → SoundPool seats s → (id p : ℕ) (v : View S) (steps : List Found) → get_elem? s.views id ≡ some v
        → SoundPool seats record { words = set s.words p (get_or s.words p 0); homes = s.homes; views = set s.views id (record v { found = steps }) }
    rests s r id p v steps at = let w : View S = record v { found = steps } in let k = r.each_seat id v at in
        subst (λ (ws : List ℕ). SoundPool seats record { words = ws; homes = s.homes; views = set s.views id w }) (sym (set-get_or s.words p 0)) record {
          some_seat = r.some_seat;
          wide = r.wide;
          deep = r.deep;
          once = λ n l. let a = counted_set n s.views id v w at in let b = r.once n l in omega arith;
          given = λ n le l. let a = counted_set n s.views id v w at in let b = r.given n le l in omega arith;
          each_seat = seats_stay (SeatOk s.words s.homes) s.views id w record { number = k.number; takings = k.takings; kept = k.kept; differ = k.differ } (λ j u _ e. r.each_seat j u e);
          each_place = λ q l. place_stays s.words s.words s.homes s.homes s.views id q v w at refl refl (λ ne. ne) (r.each_place q l);
        }

    -- the seat v, and the place p, as they are after a step by which the seat keeps the place as k
    pub record Moves (s : State (Option S) (View S)) (id p x : ℕ) (v : View S) (homes' : List (maybe.Option (Option S))) (k : Keep S) (takings : ℕ) : Type 0 where
      pub at : get_elem? s.views id ≡ some v
      pub near : v.number < 16
      pub more : v.takings ≤ takings
      pub most : takings ≤ 2 ^ 58
      pub deep : length homes' ≡ length s.homes
      pub others : (q : ℕ) → q ≢ p → get_elem? homes' q ≡ get_elem? s.homes q
      pub only : (j : ℕ) (u : View S) → j ≢ id → get_elem? s.views j ≡ some u → number_of (kept_at u.kept p) ≡ 0
      pub came : number_of k ≢ 0 → Came v.number takings (number_of k)
      pub word : x ≡ word_of k
      pub home : get_elem? homes' p ≡ some (home_of k)
      pub nobody : number_of k ≡ 0 → k ≡ Nothing
      pub fresh : (q : ℕ) → q ≢ p → number_of (kept_at v.kept q) ≡ number_of k → number_of k ≡ 0

    pub moved : (s : State (Option S) (View S)) → SoundPool seats s → (id p x : ℕ) (v : View S) (homes' : List (maybe.Option (Option S))) (k : Keep S) (takings : ℕ) (steps : List Found) → p < seats * 35 → p < length v.kept
        → Moves s id p x v homes' k takings
        → SoundPool seats record { words = set s.words p x; homes = homes'; views = set s.views id (record v { kept = set v.kept p k; takings = takings; found = steps }) }
    moved s r id p x v homes' k takings steps near room m =
        let w : View S = record v { kept = set v.kept p k; takings = takings; found = steps } in let old = r.each_seat id v m.at in
        let words' = set s.words p x in let wide = r.wide in
        let here : kept_at w.kept p ≡ k = get_or-set_same v.kept p k Nothing room in
        let off : (q : ℕ) → q ≢ p → kept_at w.kept q ≡ kept_at v.kept q = λ q ne. get_or-set_other v.kept p q k Nothing ne in
        let word_here : get_or words' p 0 ≡ x = get_or-set_same s.words p x 0 (omega arith) in
        let word_else : (q : ℕ) → q ≢ p → get_or words' q 0 ≡ get_or s.words q 0 = λ q ne. get_or-set_other s.words p q x 0 ne in record {
          some_seat = r.some_seat;
          wide = length-set s.words p x ∙ r.wide;
          deep = m.deep ∙ r.deep;
          once = λ n l. let a = counted_set n s.views id v w m.at in let b = r.once n l in omega arith;
          given = λ n le l. let a = counted_set n s.views id v w m.at in let b = r.given n le l in omega arith;
          each_seat = seats_stay (SeatOk words' homes') s.views id w
              record {
                number = old.number;
                takings = m.most;
                kept = λ q ne. dite (ℕ_discrete q p)
                    (λ is. subst (λ (y : ℕ). KeepOk words' homes' v.number takings y (kept_at w.kept y)) (sym is)
                    (subst (KeepOk words' homes' v.number takings p) (sym here) record {
                      near = m.near;
                      came = m.came (λ z. ne (ap (λ (y : ℕ). number_of (kept_at w.kept y)) is ∙ (ap number_of here ∙ z)));
                      word = word_here ∙ m.word;
                      home = m.home;
                    }))
                    (λ other. subst (KeepOk words' homes' v.number takings q) (sym (off q other))
                    (let c = old.kept q (λ z. ne (ap number_of (off q other) ∙ z)) in record {
                      near = c.near;
                      came = came_later v.number v.takings takings (number_of (kept_at v.kept q)) m.more c.came;
                      word = word_else q other ∙ c.word;
                      home = m.others q other ∙ c.home;
                    }));
                differ = λ a b same ne. dite (ℕ_discrete a p)
                    (λ is. dite (ℕ_discrete b p) (λ is'. is ∙ sym is')
                    (λ other. let one : number_of (kept_at w.kept a) ≡ number_of k = ap (λ (y : ℕ). number_of (kept_at w.kept y)) is ∙ ap number_of here in
                    absurd (ne (one ∙ m.fresh b other (sym (ap number_of (off b other)) ∙ (sym same ∙ one))))))
                    (λ other. dite (ℕ_discrete b p)
                    (λ is. let one : number_of (kept_at w.kept b) ≡ number_of k = ap (λ (y : ℕ). number_of (kept_at w.kept y)) is ∙ ap number_of here in
                    absurd (ne (same ∙ (one ∙ m.fresh a other (sym (ap number_of (off a other)) ∙ (same ∙ one))))))
                    (λ other'. old.differ a b (sym (ap number_of (off a other)) ∙ (same ∙ ap number_of (off b other'))) (λ z. ne (ap number_of (off a other) ∙ z))));
              }
              (λ j u ne e. let c = r.each_seat j u e in record {
                number = c.number;
                takings = c.takings;
                kept = λ q some_here. let other : q ≢ p = λ is. some_here (ap (λ (y : ℕ). number_of (kept_at u.kept y)) is ∙ m.only j u ne e) in let d = c.kept q some_here in record {
                  near = d.near;
                  came = d.came;
                  word = word_else q other ∙ d.word;
                  home = m.others q other ∙ d.home;
                };
                differ = c.differ;
              });
          each_place = λ q l. dite (ℕ_discrete q p)
              (λ is. subst (PlaceOk words' homes' (set s.views id w)) (sym is) (dite (ℕ_discrete (number_of k) 0)
              (λ z. let bare = m.nobody z in inl (word_here ∙ (m.word ∙ ap word_of bare), m.home ∙ ap (λ (y : Keep S). some (home_of y)) bare))
              (λ ne. inr (id, w, set_here s.views id w (in_range s.views id v m.at), λ z. ne (ap number_of (sym here) ∙ z)))))
              (λ other. place_stays s.words words' s.homes homes' s.views id q v w m.at (word_else q other) (m.others q other) (λ ne z. ne (ap number_of (sym (off q other)) ∙ z)) (r.each_place q l));
        }
