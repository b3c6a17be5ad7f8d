-- One of the 18 gates of a cell is claimable: each that is not has one of 17 names, and no two of them have the same.
use Rattle.std.proofs.Common.{◌≡◌, ◌≢◌, ℕ, zero, suc, ◌+◌, ◌*◌, ◌/◌, ◌%◌, ◌<◌, ◌≤◌, List, [], ◌∷◌, length, get_or, refl, sym, ap, ◌∙◌, subst, ◌⊎◌, inl, inr, ⊎_elim, arith, Option, Some, None, Bool, true, false, cond, ◌==◌, ne_eqb}
use mathlib.Core.Option.{some, some-injective, some-ne-none}
use mathlib.Core.Logic.{dite}
use native.Mathlib.Decide.{ℕ_discrete, dec_lt}
use lib.ListN.{get_elem?}
use Rattle.version_slots.proofs.Pigeons.{pigeonhole}
use Rattle.atomic_table.specs.Table.{State}
use Rattle.version_slots.specs.declared.view.Hold.{Hold}
use Rattle.version_slots.specs.declared.view.Hold.TheVariants.{Empty, Held, Ready, Duty}
use Rattle.version_slots.specs.declared.view.View.{View}
use Rattle.version_slots.specs.Words.{Use, shown, ready, duty, Gate, free, held, live, retired, gate_word, pins_of, IsClaimable}
use Rattle.version_slots.specs.Histories.{EndsWith}
use Rattle.version_slots.specs.Views.{pin_on, pins_on, On}
use Rattle.version_slots.specs.Rule.{UseOk, StateOk, Spare, Row, Sound}
use Rattle.version_slots.proofs.Seats.{last_same}

-- some of these views has a pin on the slot
abbrev Pinner : {A : Type 0} → ℕ → List (View A) → Type 0
Pinner {A} slot vs = (j : ℕ) × (v : View A) × (tag : ℕ) × (get_elem? vs j ≡ some v) × (v.pin ≡ Some (slot, tag))

pinner : {A : Type 0} (slot : ℕ) (vs : List (View A)) → 0 < pins_on slot vs → Pinner slot vs
pinner slot [] h = absurd (omega arith)
pinner {A = A} slot (v ∷ vs) h = by_pin v.pin refl (λ rest. pinner slot vs rest)
  where
    later : (0 < pins_on slot vs → Pinner slot vs) → pin_on slot v.pin ≡ 0 → Pinner slot (v ∷ vs)
    later others none = let t = others (omega arith) in (suc t.0, t.1, t.2, t.3, t.4)

    by_pin : (p : Option (ℕ × ℕ)) → v.pin ≡ p → (0 < pins_on slot vs → Pinner slot vs) → Pinner slot (v ∷ vs)
    by_pin None is others = later others (ap (pin_on slot) is)
    by_pin (Some q) is others = dite (ℕ_discrete q.0 slot)
        (λ same. (0, v, q.1, refl, is ∙ ap (λ (n : ℕ). Some (n, q.1)) same))
        (λ other. later others (ap (pin_on slot) is ∙ ap (λ (b : Bool). cond b 1 0) (ne_eqb q.0 slot other)))

-- a hold is one of one slot
one_hold : {A : Type 0} (h : Hold A) (a b : ℕ) → On h a → On h b → a ≡ b
one_hold Empty a b on on' = absurd on
one_hold (Held c) a b on on' = sym on ∙ on'
one_hold (Ready c base value) a b on on' = sym on ∙ on'
one_hold (Duty c) a b on on' = sym on ∙ on'

bare : (q : ℕ × ℕ) (pin : Option (ℕ × ℕ)) → pin ≡ None → pin ≡ Some q → ⊥
bare q pin none some_pin = let e : None ≡ Some q = sym none ∙ some_pin in cc

one_pin : (p q : ℕ × ℕ) → Some p ≡ Some q → p.0 ≡ q.0
one_pin p q e = let same : p ≡ q = cc in ap (λ (x : ℕ × ℕ). x.0) same

module _ {P A : Type 0} (plain : P → A) (follows : ℕ → A → A → Type 0) (passes : ℕ) (opening : A) (s : State (Option P) (View A)) (r : Sound plain follows passes opening s) where
  -- the pass with this number has the slot in hand
  record HeldBy (slot number : ℕ) : Type 0 where
    seat : ℕ
    view : View A
    at : get_elem? s.views seat ≡ some view
    is : view.number ≡ number
    some_number : 0 < number
    few : number ≤ 8
    holds : On view.hold slot

  -- the pass with this number pins the slot
  record PinnedBy (slot number : ℕ) : Type 0 where
    seat : ℕ
    view : View A
    tag : ℕ
    at : get_elem? s.views seat ≡ some view
    is : view.number ≡ number
    some_number : 0 < number
    few : number ≤ 8
    pins : view.pin ≡ Some (slot, tag)

  -- the name of a gate: that of the head, that of a pass that has the slot in hand, or that of a pass that pins it
  abbrev Named : ℕ → ℕ → Type 0
  Named slot name = ((name ≡ 0) × (slot ≡ r.last.slot)) ⊎ (((n : ℕ) × (name ≡ n) × HeldBy slot n) ⊎ ((n : ℕ) × (name ≡ 8 + n) × PinnedBy slot n))

  -- two seats of one number are one
  one_seat : (i j n : ℕ) (v w : View A) → get_elem? s.views i ≡ some v → get_elem? s.views j ≡ some w → v.number ≡ n → w.number ≡ n → 0 < n → v ≡ w
  one_seat i j n v w at at' is is' pos = dite (ℕ_discrete i j)
      (λ same. some-injective v w (sym at ∙ (ap (get_elem? s.views) same ∙ at')))
      (λ other. absurd (let z = (r.each_pair i j v w other at at').numbers 0 0 n (ap (λ (x : ℕ). some x) is) (ap (λ (x : ℕ). some x) is') in omega arith))

  one_held : (a b n : ℕ) → HeldBy a n → HeldBy b n → a ≡ b
  one_held a b n h k = let same = one_seat h.seat k.seat n h.view k.view h.at k.at h.is k.is h.some_number in
      one_hold k.view.hold a b (subst (λ (v : View A). On v.hold a) same h.holds) k.holds

  one_pinned : (a b n : ℕ) → PinnedBy a n → PinnedBy b n → a ≡ b
  one_pinned a b n h k = let same = one_seat h.seat k.seat n h.view k.view h.at k.at h.is k.is h.some_number in
      one_pin (a, h.tag) (b, k.tag) (sym h.pins ∙ (ap (λ (v : View A). v.pin) same ∙ k.pins))

  -- no two gates have one name
  one_slot : (a b name : ℕ) → Named a name → Named b name → a ≡ b
  one_slot a b name (inl h) (inl k) = h.1 ∙ sym k.1
  one_slot a b name (inl h) (inr (inl k)) = absurd (let x = h.0 in let y = k.1 in let z = k.2.some_number in omega arith)
  one_slot a b name (inl h) (inr (inr k)) = absurd (let x = h.0 in let y = k.1 in omega arith)
  one_slot a b name (inr (inl h)) (inl k) = absurd (let x = k.0 in let y = h.1 in let z = h.2.some_number in omega arith)
  one_slot a b name (inr (inl h)) (inr (inl k)) = one_held a b h.0 h.2 (subst (HeldBy b) (sym k.1 ∙ h.1) k.2)
  one_slot a b name (inr (inl h)) (inr (inr k)) = absurd (let x = h.1 in let y = k.1 in let z = h.2.few in let w = k.2.some_number in omega arith)
  one_slot a b name (inr (inr h)) (inl k) = absurd (let x = k.0 in let y = h.1 in omega arith)
  one_slot a b name (inr (inr h)) (inr (inl k)) = absurd (let x = h.1 in let y = k.1 in let z = k.2.few in let w = h.2.some_number in omega arith)
  one_slot a b name (inr (inr h)) (inr (inr k)) = one_pinned a b h.0 h.2 (subst (PinnedBy b) (let x = h.1 in let y = k.1 in let e : k.0 ≡ h.0 = omega arith in e) k.2)

  -- who has something in hand is a pass
  held_by : (slot seat : ℕ) (v : View A) → get_elem? s.views seat ≡ some v → On v.hold slot → (name : ℕ) × (name < 17) × Named slot name
  held_by slot seat v at on = let k = r.each_seat seat v at in let eight = r.some_pass.1 in let up = k.number in
      let some_number : v.number ≢ 0 = λ z. subst (λ (h : Hold A). On h slot) ((k.note z).2) on in
      let few : v.number ≤ 8 = omega arith in let pos : 0 < v.number = omega arith in
      (v.number, omega arith, inr (inl (v.number, refl, record { seat = seat; view = v; at = at; is = refl; some_number = pos; few = few; holds = on })))

  pinned_by : (slot : ℕ) → 0 < pins_on slot s.views → (name : ℕ) × (name < 17) × Named slot name
  pinned_by slot some_pin = let t = pinner slot s.views some_pin in let v : View A = t.1 in let k = r.each_seat t.0 v t.3 in let eight = r.some_pass.1 in let up = k.number in
      let some_number : v.number ≢ 0 = λ z. bare (slot, t.2) v.pin ((k.note z).3) t.4 in
      let few : v.number ≤ 8 = omega arith in let pos : 0 < v.number = omega arith in
      (8 + v.number, omega arith, inr (inr (v.number, refl, record { seat = t.0; view = v; tag = t.2; at = t.3; is = refl; some_number = pos; few = few; pins = t.4 })))

  -- a gate that is not claimable has a name
  by_gate : (slot : ℕ) (g : Gate) → pins_of g ≡ pins_on slot s.views → StateOk r.hist s.views slot (Spare plain passes s.homes slot) (Row plain passes s.views s.homes slot) g
      → IsClaimable (gate_word g) ⊎ ((name : ℕ) × (name < 17) × Named slot name)
  by_gate slot free pins k = inl (inl refl)
  by_gate slot (held seat) pins k = inr (held_by slot seat k.0 k.1 (subst (λ (h : Hold A). On h slot) (sym k.2) refl))
  by_gate slot (live tag n shown) pins k = inr (0, omega arith, inl (refl, sym k.3 ∙ ap (λ l. l.slot) (last_same k.1.0 r.ends.0 k.0 r.last (sym k.1.1 ∙ r.ends.1))))
  by_gate slot (live tag n (ready seat)) pins k = inr (held_by slot seat k.0 k.3 (subst (λ (h : Hold A). On h slot) (sym k.4) refl))
  by_gate slot (live tag n (duty seat)) pins k = inr (held_by slot seat k.0 k.1 (subst (λ (h : Hold A). On h slot) (sym k.2) refl))
  by_gate slot (retired tag zero) pins k = inl (inr (omega arith, omega arith))
  by_gate slot (retired tag (suc n)) pins k = inr (pinned_by slot (omega arith))

  at_slot : (slot : ℕ) → slot < 18 → IsClaimable (get_or s.words (slot + 2) 0) ⊎ ((name : ℕ) × (name < 17) × Named slot name)
  at_slot slot near = let ok = r.each_gate slot near in
      subst (λ (w : ℕ). IsClaimable w ⊎ ((name : ℕ) × (name < 17) × Named slot name)) (sym ok.word) (by_gate slot (r.gates slot) ok.pins ok.state)

  abbrev Claimed : ℕ → Type 0
  Claimed n = (slot : ℕ) × (slot < n) × IsClaimable (get_or s.words (slot + 2) 0)

  up_to : (n : ℕ) → n ≤ 18 → Claimed n ⊎ ((slot : ℕ) → slot < n → (name : ℕ) × (name < 17) × Named slot name)
  up_to zero h = inr (λ slot l. absurd (omega arith))
  up_to (suc n) h = ⊎_elim
      (λ (c : Claimed n). inl (c.0, (let l = c.1 in omega arith), c.2))
      (λ (all : (slot : ℕ) → slot < n → (name : ℕ) × (name < 17) × Named slot name). ⊎_elim
      (λ (c : IsClaimable (get_or s.words (n + 2) 0)). inl (n, omega arith, c))
      (λ (t : (name : ℕ) × (name < 17) × Named n name). inr (λ slot l. dite (ℕ_discrete slot n)
      (λ same. subst (λ (i : ℕ). (name : ℕ) × (name < 17) × Named i name) (sym same) t)
      (λ other. all slot (omega arith))))
      (at_slot n (omega arith)))
      (up_to n (omega arith))

  abbrev Names : Type 0
  Names = (slot : ℕ) → slot < 18 → (name : ℕ) × (name < 17) × Named slot name

  -- the name of a slot
  abbrev name_of : Names → (slot : ℕ) → Dec (slot < 18) → ℕ
  name_of all slot d = dite d (λ l. (all slot l).0) (λ _. 0)

  named : (all : Names) (slot : ℕ) (d : Dec (slot < 18)) → slot < 18 → (name_of all slot d < 17) × Named slot (name_of all slot d)
  named all slot (yes l) h = ((all slot l).1, (all slot l).2)
  named all slot (no n) h = absurd (n h)

  crowded : Names → ⊥
  crowded all = let name : ℕ → ℕ = λ slot. name_of all slot (dec_lt slot 18) in
      let few : 18 ≤ 17 = pigeonhole 18 17 name (λ slot near. (named all slot (dec_lt slot 18) near).0)
      (λ a b near near' same. one_slot a b (name b) (subst (Named a) same (named all a (dec_lt a 18) near).1) (named all b (dec_lt b 18) near').1) in omega arith

  pub claimable : Claimed 18
  claimable = ⊎_elim (λ (c : Claimed 18). c) (λ (all : Names). absurd (crowded all)) (up_to 18 (omega arith))
