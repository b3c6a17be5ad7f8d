-- What all threads made is one history of the cell.
use Rattle.std.proofs.Common.{◌≡◌, ⊎_elim, ℕ, zero, suc, ◌+◌, ◌-◌, ◌<◌, All, List, [], ◌∷◌, ◌++◌, Some, Option, MatchOption, length, map, get_or, unwrap_or, sym, refl, ap, ◌∙◌, subst, arith}
use Rattle.std.proofs.lemmas.List.{map-append}
use mathlib.Core.Option.{some-injective, some-ne-none}
use lib.ListN.{get_elem?}
use Rattle.plain_model.specs.declared.plain.Plain.{Plain}
use Rattle.plain_model.specs.declared.commands.PlainCall.{PlainCall}
use Rattle.plain_model.specs.Cell.{after}
use Rattle.atomic_table.specs.Seated.{TableId}
use Rattle.version_slots.specs.declared.view.Line.{Line}
use Rattle.version_slots.specs.declared.view.View.{View}
use Rattle.version_slots.specs.declared.tokens.Front.{Front}
use Rattle.version_slots.specs.Histories.{first_line}
use Rattle.version_slots.specs.Views.{counting}
use Rattle.version_slots.specs.Cells.{AreAll}
use Rattle.version_slots.proofs.Closes.{at_map}
use Rattle.version_slots.proofs.Rows.{map_at}
use Rattle.version_slots.proofs.Seats.{in_range}
use Rattle.interlocked.specs.declared.entry.Entry.{Entry}
use Rattle.interlocked.specs.declared.entry.Kept.{Kept}
use Rattle.interlocked.specs.Entries.{entry, added, newest}
use Rattle.interlocked.specs.Known.{Known}
use Rattle.interlocked.specs.Whole.{EndsWhole, new_pass, new_passes}
use Rattle.interlocked.proofs.OneKind.{kind_at}
use Rattle.interlocked.proofs.Ordinals.{kept_line}
use Rattle.interlocked.proofs.Own.{newest_more}
use Rattle.registry.specs.declared.requests.Request.{Request}
use Rattle.registry.specs.declared.requests.Request.TheVariants.{Change}
use Rattle.registry.specs.declared.requests.Response.{Response}
use Rattle.registry.specs.declared.requests.Seat.{Seat}
use Rattle.registry.specs.Requests.{Has, IsMade, AreMade, next}
use Rattle.registry.specs.Seats.{AddsAtMost, MadeAt, Makes, seat, values}
use Rattle.registry.proofs.Places.{at_longer, behind, counted, counts, is_at, map_length, only, some_at}

-- the entry of one of these versions is among those that they added
added_at : (lines : List (Line Kept)) (i : ℕ) (l : Line Kept) (e : Entry PlainCall) → Has lines i l → newest l.value.entries ≡ e ∷ [] → (j : ℕ) × Has (added lines) j e
added_at [] i l e h one = absurd (some-ne-none l (sym h))
added_at (x ∷ xs) zero l e h one =
    let same : newest x.value.entries ≡ e ∷ [] = ap (λ (y : Line Kept). newest y.value.entries) (some-injective x l h) ∙ one in
    (0, ap (λ (es : List (Entry PlainCall)). get_elem? (es ++ added xs) 0) same)
added_at (x ∷ xs) (suc i) l e h one = let t = added_at xs i l e h one in behind (newest x.value.entries) (added xs) t.0 e t.1

module _ {C X : Type 0} (plain : C → Plain) (meaning : X → PlainCall) where
  grown : (xs ys : List Plain) (request : Request X) (response : Response C) → IsMade plain meaning xs request response → IsMade plain meaning (xs ++ ys) request response
  grown xs ys request response h = record {
    place = h.place;
    value = h.value;
    there = at_longer xs ys h.place h.value h.there;
    responds = h.responds;
    later = h.later;
    soon = h.soon;
    makes = at_longer xs ys h.later (next plain meaning request h.value) h.makes;
  }

module _ {C : Type 0} (table : TableId) (n : ℕ) (first : Kept) (olds : List (Seat Known (Response C))) (start : olds ≡ map seat (new_passes table n first)) where
  abbrev old : ℕ → Known
  old k = new_pass table n first (1 + k)

  pub long : length olds ≡ n
  long = ap length start ∙ (map_length seat (new_passes table n first) ∙ (map_length (new_pass table n first) (counting 1 n) ∙ counts 1 n))

  old_at : (k : ℕ) → k < n → Has olds k (seat (old k))
  old_at k h = ap (λ (l : List (Seat Known (Response C))). get_elem? l k) start
      ∙ at_map seat (new_passes table n first) k (old k) (at_map (new_pass table n first) (counting 1 n) k (1 + k) (counted 1 n k h))

  -- each seat has a pass of the cell that has made no call
  pub all_new : All (λ (s : Seat Known (Response C)). (s.pass.table ≡ table) × (s.pass.last ≡ 0)) olds
  all_new k d h = let is = is_at olds k (seat (old k)) d (old_at k (let a = long in omega arith)) in
      subst (λ (s : Seat Known (Response C)). (s.pass.table ≡ table) × (s.pass.last ≡ 0)) (sym is) (refl, refl)

  module _ {X : Type 0} (plain : C → Plain) (meaning : X → PlainCall) (requests : List (Request X)) (many : length requests ≡ n) (news : List (Seat Known (Response C))) (same : length news ≡ length olds)
      (each : (k : ℕ) (d : Seat Known (Response C)) → k < length olds → MadeAt plain meaning requests k (get_or olds k d) (get_or news k d)) where
    -- what the seat of a number did
    pub did : (k : ℕ) (s : Seat Known (Response C)) → Has news k s → (request : Request X) × Has requests k request × Makes plain meaning request (old k) s.pass s.response
    did k s e =
        let here = in_range news k s e in
        let near : k < n = (let a = same in let b = long in omega arith) in
        let r = some_at requests k (let a = many in omega arith) in
        let before : (get_or olds k s).pass ≡ old k = ap (λ (t : Seat Known (Response C)). t.pass) (is_at olds k (seat (old k)) s (old_at k near)) in
        let after : get_or news k s ≡ s = is_at news k s s e in (
          r.0,
          r.1,
          subst (λ (t : Known × Seat Known (Response C)). Makes plain meaning r.0 t.0 t.1.pass t.1.response) (λ i. (before i, after i)) ((each k s (let a = same in omega arith)).made r.0 r.1),
        )

    abbrev passes : List Known
    passes = map (λ (s : Seat Known (Response C)). s.pass) news

    abbrev views : List (View Kept)
    views = map (λ (p : Known). p.view) passes

    pub all_of_cell : All (λ (p : Known). p.table ≡ table) passes
    all_of_cell k d h =
        let t = some_at passes k h in
        let s = map_at (λ (u : Seat Known (Response C)). u.pass) news k t.0 t.1 in
        ap (λ (p : Known). p.table) (is_at passes k t.0 d t.1 ∙ sym s.2) ∙ (did k s.0 s.1).2.table

    pub are_all : AreAll n views
    are_all number some_number few =
        let k : ℕ = number - 1 in
        let t = some_at news k (let a = same in let b = long in omega arith) in
        let one : 1 + k ≡ number = omega arith in (
          k,
          t.0.pass.view,
          at_map (λ (p : Known). p.view) passes k t.0.pass (at_map (λ (u : Seat Known (Response C)). u.pass) news k t.0 t.1),
          (did k t.0 t.1).2.number ∙ one,
        )

    module _ (front : Front) (kept : Kept) (whole : EndsWhole first views front kept) (answers : List (Option (Response C)))
        (came : answers ≡ map (λ (s : Seat Known (Response C)). s.response) news) where
      abbrev hist : List (Line Kept)
      hist = whole.ends.hist

      abbrev value_of : Line Kept → Plain
      value_of l = l.value.value

      -- the seat of a view
      seat_of : (k : ℕ) (v : View Kept) → Has views k v → (s : Seat Known (Response C)) × Has news k s × (s.pass.view ≡ v)
      seat_of k v e =
          let p = map_at (λ (q : Known). q.view) passes k v e in
          let s = map_at (λ (u : Seat Known (Response C)). u.pass) news k p.0 p.1 in
          (s.0, s.1, ap (λ (q : Known). q.view) s.2 ∙ p.2)

      made_each : (k : ℕ) (request : Request X) (response : Response C) → Has requests k request → Has answers k (Some response) → IsMade plain meaning (values hist) request response
      made_each k request response q r =
          let given : Has (map (λ (s : Seat Known (Response C)). s.response) news) k (Some response) = ap (λ (l : List (Option (Response C))). get_elem? l k) (sym came) ∙ r in
          let s = map_at (λ (u : Seat Known (Response C)). u.response) news k (Some response) given in
          let d = did k s.0 s.1 in
          let request_is : d.0 ≡ request = some-injective d.0 request (sym d.1 ∙ q) in
          let made : IsMade plain meaning (values s.0.pass.view.seen) request response =
          subst (λ (t : Request X × Option (Response C)). MatchOption t.1 (Unit {0}) (λ (x : Response C). IsMade plain meaning (values s.0.pass.view.seen) t.0 x)) (λ i. (request_is i, s.2 i)) d.2.made in
          let seen = whole.ends.seen k s.0.pass.view (at_map (λ (p : Known). p.view) passes k s.0.pass (at_map (λ (u : Seat Known (Response C)). u.pass) news k s.0 s.1)) in
          let all : values hist ≡ values s.0.pass.view.seen ++ values seen.0 = ap values seen.1 ∙ map-append value_of s.0.pass.view.seen seen.0 in
          subst (λ (h : List Plain). IsMade plain meaning h request response) (sym all) (grown plain meaning (values s.0.pass.view.seen) (values seen.0) request response made)

      abbrev Step : Plain → Plain → Type 0
      Step value value' = (k : ℕ) × (request : Request X) × Has requests k request × (value' ≡ next plain meaning request value)

      by_request : (k : ℕ) (request : Request X) (v : View Kept) (e : Entry PlainCall) (j : ℕ) (value value' : Plain) → Has requests k request → AddsAtMost plain meaning request (old k).view v → Has (added v.mine) j e
          → value' ≡ after e.call value → Step value value'
      by_request k request v e j value value' asked adds there makes = ⊎_elim
          (λ (none : added v.mine ≡ []). absurd (some-ne-none e (sym (ap (λ (es : List (Entry PlainCall)). get_elem? es j) (sym none) ∙ there))))
          (λ (one : (change : X) × (request ≡ Change change) × (added v.mine ≡ entry (old k).view.number 1 (meaning change) ∷ [])).
          let same : e ≡ entry (old k).view.number 1 (meaning one.0) = only (entry (old k).view.number 1 (meaning one.0)) e j (ap (λ (es : List (Entry PlainCall)). get_elem? es j) (sym one.2) ∙ there) in
          (k, request, asked, makes ∙ (ap (λ (x : Entry PlainCall). after x.call value) same ∙ ap (λ (r : Request X). next plain meaning r value) (sym one.1))))
          adds

      step : (i : ℕ) (l m : Line Kept) → Has hist i l → Has hist (suc i) m → Step l.value.value m.value.value
      step i l m e f =
          let h = whole.ends.linked i l m e f in
          let by = whole.ends.numbered i m f in
          let s = seat_of by.0 by.1 by.2 in
          let d = did by.0 s.0 s.1 in
          let number : m.number ≡ by.1.number = sym by.3 in
          let own = kept_line by.1.number hist (suc i) m f number in
          let mine : Has s.0.pass.view.mine own.0 m = ap (λ (v : View Kept). get_elem? v.mine own.0) s.2 ∙ (ap (λ (ls : List (Line Kept)). get_elem? ls own.0) (sym (whole.ends.mine by.0 by.1 by.2)) ∙ own.1) in
          let last : newest m.value.entries ≡ entry m.number h.ordinal h.call ∷ [] = ap newest h.entries ∙ newest_more l.value.entries (entry m.number h.ordinal h.call) in
          let there = added_at s.0.pass.view.mine own.0 m (entry m.number h.ordinal h.call) mine last in
          let makes : m.value.value ≡ after h.call l.value.value = sym (ap (λ (o : Option Plain). unwrap_or o l.value.value) h.installs) in
          by_request by.0 d.0 s.0.pass.view (entry m.number h.ordinal h.call) there.0 l.value.value m.value.value d.1 d.2.adds there.1 makes

      pub are_made : (last : Plain) → last ≡ kept.value → AreMade plain meaning first.value last requests answers
      are_made last is = record {
        history = values hist;
        opens = at_map value_of hist 0 (first_line first) whole.ends.opens;
        ends =
            let e = whole.ends.ends in
            let end : whole.ends.last.value.value ≡ last = ap (λ (k : Kept). k.value) (sym whole.ends.value_is) ∙ sym is in
            (values e.0, ap values e.1 ∙ (map-append value_of e.0 (whole.ends.last ∷ []) ∙ ap (λ (p : Plain). values e.0 ++ p ∷ []) end));
        count =
            let a = ap length came ∙ map_length (λ (s : Seat Known (Response C)). s.response) news in
            let b = same in let c = long in let d = many in omega arith;
        each = made_each;
        steps = λ i value value' e f.
            let l = map_at value_of hist i value e in
            let m = map_at value_of hist (suc i) value' f in
            subst (λ (t : Plain × Plain). Step t.0 t.1) (λ j. (l.2 j, m.2 j)) (step i l.0 m.0 l.1 m.1);
        kinds = λ i value e.
            let l = map_at value_of hist i value e in
            ap (λ (p : Plain). p.kind) (sym l.2) ∙ (kind_at hist whole.ends.linked i l.0 l.1 ∙ sym (kind_at hist whole.ends.linked 0 (first_line first) whole.ends.opens));
      }
