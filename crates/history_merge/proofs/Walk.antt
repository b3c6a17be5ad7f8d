-- Rising lines that are right, and as many of which installed as the history has, are a legal history.
use Rattle.std.proofs.Common.{◌≡◌, ℕ, ◌+◌, ◌-◌, ◌*◌, ◌<◌, ◌≤◌, ◌≢◌, Bool, true, false, ◌&&◌, nat_le, if◌then◌else◌, MatchBool, List, [], ◌∷◌, ◌++◌, length, take, Some, slice_get, refl, ap, sym, subst, ◌∙◌, arith}
use Rattle.std.specs.Prelude.{Option, None, is_some, unwrap_or}
use Rattle.std.specs.List.{AllByRecursion}
use Rattle.std.proofs.lemmas.Option.{slice_get_within, get_or_from_slice_get}
use Rattle.std.proofs.lemmas.List.{take_more}
use Rattle.std.proofs.lemmas.Grind.{common_steps}
use Rattle.std.proofs.lemmas.Bool.Decides.{nat_tests}
use Rattle.interlocked.specs.declared.entry.Entry.{Entry}
use Rattle.plain_model.specs.declared.plain.Plain.{Plain}
use Rattle.plain_model.specs.declared.commands.PlainCall.{PlainCall}
use Rattle.plain_model.specs.declared.history.Line.{Line}
use Rattle.plain_model.specs.Cell.{cell, after}
use Rattle.interlocked.specs.Whole.{made}
use Rattle.plain_model.specs.History.{Fits, FitsFrom, last_value, value_at}
use Rattle.plain_model.proofs.HistorySteps.{value_before}
use Rattle.history_merge.specs.Lines.{installs, reply_of, place_of, is_below}
use Rattle.history_merge.specs.Logs.{entry_of, made_at, IsInstalled, IsAnswered, IsRight, IsRising}
use Rattle.history_merge.proofs.Order.{lex_le, lex_apart}
use Rattle.history_merge.proofs.Weaves.{total}

-- how many installed
abbrev pub count : List Line → ℕ
count ls = total (λ l. if l.installed then 1 else 0) ls

made-append : (value : Plain) (es fs : List (Entry PlainCall)) → made value (es ++ fs) ≡ made (made value es) fs
made-append value [] fs = refl
made-append value (e ∷ es) fs = made-append (after e.call value) es fs

take_whole : (es : List (Entry PlainCall)) (k : ℕ) → length es ≤ k → take k es ≡ es
take_whole es k le = grind (arith, common_steps)

-- the value after the entry at a position
pub made_at_next : (first : Plain) (es : List (Entry PlainCall)) (k : ℕ) (e : Entry PlainCall) → slice_get es k ≡ Some e → made_at first es (k + 1) ≡ after e.call (made_at first es k)
made_at_next first es k e at =
    let more : take (k + 1) es ≡ take k es ++ e ∷ [] = take_more es k e (slice_get_within es k e at) ∙ ap (λ x. take k es ++ x ∷ []) (get_or_from_slice_get es k e e at) in
    ap (made first) more ∙ made-append first (take k es) (e ∷ [])

-- where a call installs nothing, the value stays
unchanged : (x : Option Plain) (p : Plain) → is_some x ≡ false → unwrap_or x p ≡ p
unchanged None p none = refl
unchanged (Some q) p none = absurd cc

-- the line stands above the position
abbrev pub IsPast : ℕ → Line → Type 0
IsPast position l = 2 * position < place_of l

module _ (first : Plain) (es : List (Entry PlainCall)) where
  -- what is below a line that installed stands above it
  beyond : (x y : Line) → x.installed ≡ true → IsInstalled first es x → is_below x y ≡ true → (b : Bool) → y.installed ≡ b → MatchBool b (IsInstalled first es y) (IsAnswered first es y) → IsPast x.position y
  beyond x y is right below true at there =
      let le : place_of x ≤ place_of y = lex_le (place_of x) x.caller x.ordinal (place_of y) y.caller y.ordinal below in
      let px : place_of x ≡ 2 * x.position = rw is (omega arith) in
      let py : place_of y ≡ 2 * y.position = rw at (omega arith) in
      let differ : x.position ≢ y.position = λ same.
      let one : Some (entry_of x) ≡ Some (entry_of y) = sym right.entry ∙ (ap (λ k. slice_get es (k - 1)) same ∙ there.entry) in
      let entry : entry_of x ≡ entry_of y = cc (one) in
      let caller : x.caller ≡ y.caller = ap (λ (e : Entry PlainCall). e.caller) entry in
      let ordinal : x.ordinal ≡ y.ordinal = ap (λ (e : Entry PlainCall). e.ordinal) entry in
      let lt : place_of x < place_of y = lex_apart (place_of x) x.caller x.ordinal (place_of y) y.caller y.ordinal below caller ordinal in
      omega arith in
      let lt : 2 * x.position < 2 * y.position = omega arith in
      subst (λ (n : ℕ). 2 * x.position < n) (sym py) lt
  beyond x y is right below false at there =
      let le : place_of x ≤ place_of y = lex_le (place_of x) x.caller x.ordinal (place_of y) y.caller y.ordinal below in
      let px : place_of x ≡ 2 * x.position = rw is (omega arith) in
      let py : place_of y ≡ 2 * y.position + 1 = rw at (omega arith) in
      let lt : 2 * x.position < 2 * y.position + 1 = omega arith in
      subst (λ (n : ℕ). 2 * x.position < n) (sym py) lt

  past : (x : Line) → x.installed ≡ true → IsInstalled first es x → (ys : List Line) → AllByRecursion (λ y. is_below x y ≡ true) ys → AllByRecursion (IsRight first es) ys → AllByRecursion (IsPast x.position) ys
  past x is right [] below rights = tt
  past x is right (y ∷ ys) below rights = (beyond x y is right below.0 y.installed refl rights.0, past x is right ys below.1 rights.1)

  -- what is below a line that did not install stands above it
  past_answered : (x : Line) → x.installed ≡ false → (ys : List Line) → AllByRecursion (λ y. is_below x y ≡ true) ys → AllByRecursion (IsPast x.position) ys
  past_answered x is [] below = tt
  past_answered x is (y ∷ ys) below =
      let le : place_of x ≤ place_of y = lex_le (place_of x) x.caller x.ordinal (place_of y) y.caller y.ordinal below.0 in
      let px : place_of x ≡ 2 * x.position + 1 = rw is (omega arith) in
      let lt : 2 * x.position < place_of y = omega arith in
      (lt, past_answered x is ys below.1)

  room_at : (position : ℕ) → position ≤ length es → (l : Line) (ls : List Line) → IsRising (l ∷ ls) → AllByRecursion (IsRight first es) (l ∷ ls) → AllByRecursion (IsPast position) (l ∷ ls)
      → ((q : ℕ) → q ≤ length es → AllByRecursion (IsPast q) ls → count ls + q ≤ length es)
      → (b : Bool) → l.installed ≡ b → MatchBool b (IsInstalled first es l) (IsAnswered first es l) → count (l ∷ ls) + position ≤ length es
  room_at position le l ls up rights pasts more true is right =
      let within : l.position - 1 < length es = slice_get_within es (l.position - 1) (entry_of l) right.entry in
      let above = right.above in
      let rest = more l.position (omega arith) (past l is right ls up.0 rights.1) in
      let place : place_of l ≡ 2 * l.position = rw is (omega arith) in
      let here = pasts.0 in
      let one : count (l ∷ ls) ≡ 1 + count ls = rw is refl in
      omega arith
  room_at position le l ls up rights pasts more false is right =
      let rest = more position le pasts.1 in
      let one : count (l ∷ ls) ≡ 0 + count ls = rw is refl in
      omega arith

  -- above a position there is room for no more lines that installed than the history has entries there
  room : (position : ℕ) → position ≤ length es → (ls : List Line) → IsRising ls → AllByRecursion (IsRight first es) ls → AllByRecursion (IsPast position) ls → count ls + position ≤ length es
  room position le [] up rights pasts = omega arith
  room position le (l ∷ ls) up rights pasts = room_at position le l ls up rights pasts (λ q le' past'. room q le' ls up.1 rights.1 past') l.installed refl rights.0

  -- from a position on the lines fit, leave what all entries make, and have at each position what the entries up to it make
  pub record Walks (position : ℕ) (ls : List Line) : Type 0 where
    pub steps : FitsFrom (made_at first es position) position ls
    pub last : last_value (made_at first es position) ls ≡ made first es
    pub values : (k : ℕ) → position ≤ k → k ≤ length es → value_at (made_at first es position) ls k ≡ made_at first es k

  walk_at : (position : ℕ) → position ≤ length es → (l : Line) (ls : List Line) → IsRising (l ∷ ls) → AllByRecursion (IsRight first es) (l ∷ ls) → AllByRecursion (IsPast position) (l ∷ ls) → count (l ∷ ls) + position ≡ length es
      → ((q : ℕ) → q ≤ length es → AllByRecursion (IsPast q) ls → count ls + q ≡ length es → Walks q ls)
      → (b : Bool) → l.installed ≡ b → MatchBool b (IsInstalled first es l) (IsAnswered first es l) → Walks position (l ∷ ls)
  walk_at position le l ls up rights pasts full more true is right =
      let within : l.position - 1 < length es = slice_get_within es (l.position - 1) (entry_of l) right.entry in
      let above = right.above in
      let pasts' = past l is right ls up.0 rights.1 in
      let rest : count ls + l.position ≤ length es = room l.position (omega arith) ls up.1 rights.1 pasts' in
      let place : place_of l ≡ 2 * l.position = rw is (omega arith) in
      let here = pasts.0 in
      let one : count (l ∷ ls) ≡ 1 + count ls = rw is refl in
      let next : l.position ≡ position + 1 = omega arith in
      let back : l.position - 1 ≡ position = omega arith in
      let entry : slice_get es position ≡ Some (entry_of l) = rw back at right.entry in
      let leads : after l.call (made_at first es position) ≡ made_at first es l.position = rw next (sym (made_at_next first es position (entry_of l) entry)) in
      let past_it : (if l.installed then after l.call (made_at first es position) else made_at first es position) ≡ made_at first es l.position = rw is leads in
      let mark : installs l.call (made_at first es position) ≡ true = rw back at right.mark in
      let reply : l.reply ≡ reply_of l.call (made_at first es position) = rw back at right.reply in
      let tail = more l.position (omega arith) pasts' (omega arith) in
      let step : Fits (made_at first es position) position l = record { installed = is ∙ sym mark; reply = reply; position = rw is next } in
      record { steps = (step, rw leads tail.steps); last = rw past_it tail.last; values = λ k low high. chosen k low high next leads tail (nat_le l.position k) refl }
    where
      chosen : (k : ℕ) → position ≤ k → k ≤ length es → l.position ≡ position + 1 → after l.call (made_at first es position) ≡ made_at first es l.position → Walks l.position ls
          → (b : Bool) → nat_le l.position k ≡ b → value_at (if l.installed && b then after l.call (made_at first es position) else made_at first es position) ls k ≡ made_at first es k
      chosen k low high next leads tail true far =
          let reached : l.position ≤ k = grind (arith, nat_tests) in
          rw is (ap (λ v. value_at v ls k) leads ∙ tail.values k reached high)
      chosen k low high next leads tail false near =
          let short : k < l.position = grind (arith, nat_tests) in
          let here : position ≡ k = omega arith in
          rw is (value_before (made_at first es position) (made_at first es l.position) l.position ls k tail.steps (omega arith) ∙ ap (made_at first es) here)
  walk_at position le l ls up rights pasts full more false is right =
      let within = right.within in
      let pasts' = past_answered l is ls up.0 in
      let rest : count ls + l.position ≤ length es = room l.position within ls up.1 rights.1 pasts' in
      let place : place_of l ≡ 2 * l.position + 1 = rw is (omega arith) in
      let here = pasts.0 in
      let one : count (l ∷ ls) ≡ 0 + count ls = rw is refl in
      let same : l.position ≡ position = omega arith in
      let past_it : (if l.installed then after l.call (made_at first es position) else made_at first es position) ≡ made_at first es l.position = rw (is, same) refl in
      let mark : installs l.call (made_at first es position) ≡ false = rw same at right.mark in
      let leads : after l.call (made_at first es position) ≡ made_at first es l.position = unchanged (cell l.call (made_at first es position)).installs (made_at first es position) mark ∙ ap (made_at first es) (sym same) in
      let reply : l.reply ≡ reply_of l.call (made_at first es position) = rw same at right.reply in
      let tail = more l.position within pasts' (omega arith) in
      let step : Fits (made_at first es position) position l = record { installed = is ∙ sym mark; reply = reply; position = rw is same } in
      record {
        steps = (step, rw leads tail.steps);
        last = rw past_it tail.last;
        values = λ k low high. rw is (ap (λ p. value_at (made_at first es p) ls k) (sym same) ∙ tail.values k (omega arith) high);
      }

  -- such lines lead from the position on
  pub walk : (position : ℕ) → position ≤ length es → (ls : List Line) → IsRising ls → AllByRecursion (IsRight first es) ls → AllByRecursion (IsPast position) ls → count ls + position ≡ length es → Walks position ls
  walk position le [] up rights pasts full =
      let whole : take position es ≡ es = take_whole es position (omega arith) in
      record { steps = tt; last = ap (made first) whole; values = λ k low high. let same : position ≡ k = omega arith in ap (made_at first es) same }
  walk position le (l ∷ ls) up rights pasts full = walk_at position le l ls up rights pasts full (λ q le' past' full'. walk q le' ls up.1 rights.1 past' full') l.installed refl rights.0
