-- What a cell ends with is one history of what its workers noted.
use Rattle.std.proofs.Common.{◌≡◌, ℕ, suc, ◌+◌, ◌<◌, ◌≤◌, Bool, true, false, MatchBool, List, [], length, get_or, take, map, refl, ap, sym, ◌∙◌, arith, length-append}
use Rattle.std.specs.List.{AllByRecursion}
use mathlib.Core.Option.{some}
use lib.ListN.{get_elem?}
use Rattle.atomic_table.proofs.Lists.{at_last}
use Rattle.plain_model.specs.declared.plain.Plain.{Plain}
use Rattle.plain_model.specs.declared.commands.PlainCall.{PlainCall}
use Rattle.plain_model.specs.declared.history.Line.{Line}
use Rattle.version_slots.specs.declared.view.Line.{Line as Version}
use Rattle.version_slots.specs.declared.view.View.{View}
use Rattle.version_slots.specs.declared.tokens.Front.{Front}
use Rattle.version_slots.specs.Histories.{StartsWith}
use Rattle.interlocked.specs.declared.entry.Entry.{Entry}
use Rattle.interlocked.specs.declared.entry.Kept.{Kept}
use Rattle.interlocked.specs.Entries.{added}
use Rattle.interlocked.specs.Known.{Known, Shared}
use Rattle.interlocked.specs.Rights.{IsAnswered, IsInstalled, Shows}
use Rattle.interlocked.specs.Whole.{EndsWhole, made, new_pass}
use Rattle.interlocked.proofs.Rights.{answered_later, installed_later, shows_later, answered_at, installed_at}
use Rattle.history_merge.specs.Logs.{AreLogs, IsLog, IsRight, entries_by, entry_of, made_at}
use Rattle.history_merge.specs.Lines.{installed_of}
use Rattle.history_merge.proofs.Bridges.{answered_line, installed_line, take_front}
use Rattle.seats.specs.Logs.{StandsIn}
use Rattle.workers.specs.Hands.{Handed}
use Rattle.workers.specs.Closed.{AreLogged}
use Rattle.workers.proofs.Lists.{all_there, all_weaker, elem_is, elem_there, index_map, length_map, some_there}

module _ (n : ℕ) (c : Shared) (column : Handed) (are : AreLogged n c column) (front : Front) (kept : Kept) (whole : EndsWhole c.first (map (λ p. p.view) column.passes) front kept) where
  abbrev hist : List (Version Kept)
  hist = whole.ends.hist

  -- the view of a pass is at its place
  view_at : (k : ℕ) (q : Known) → k < n → get_elem? (map (λ (p : Known). p.view) column.passes) k ≡ some (get_or column.passes k q).view
  view_at k q lt =
      let within : k < length column.passes = let e = are.passes in omega arith in
      let many = length_map (λ (p : Known). p.view) column.passes in
      elem_there (map (λ (p : Known). p.view) column.passes) k q.view (omega arith) ∙ ap (λ v. some v) (index_map (λ (p : Known). p.view) column.passes k q q.view within)

  begins : (k : ℕ) (q : Known) → k < n → StartsWith hist (get_or column.passes k q).view.seen
  begins k q lt = whole.ends.seen k (get_or column.passes k q).view (view_at k q lt)

  number : (k : ℕ) (q : Known) → k < n → (get_or column.passes k q).view.number ≡ k + 1
  number k q lt = (are.each k q lt).later.number

  -- what stands right in what a pass had seen is right among the entries
  right : (seen : List (Version Kept)) → StartsWith hist seen → (l : Line) → StandsIn seen l → IsRight c.first.value kept.entries l
  right seen starts l h = split l.installed h
    where
      split : (b : Bool) → MatchBool b (IsInstalled seen l.caller l.ordinal l.call l.reply l.position) (IsAnswered seen l.call l.reply l.position)
          → MatchBool b (Rattle.history_merge.specs.Logs.IsInstalled c.first.value kept.entries l) (Rattle.history_merge.specs.Logs.IsAnswered c.first.value kept.entries l)
      split true h = installed_line c.first.value kept.entries l (installed_at c.first hist kept.entries whole.adds l.caller l.ordinal l.call l.reply l.position (installed_later hist seen starts l.caller l.ordinal l.call l.reply l.position h))
      split false h = answered_line c.first.value kept.entries l (answered_at c.first hist kept.entries whole.adds l.call l.reply l.position (answered_later hist seen starts l.call l.reply l.position h))

  -- the entries of a worker are those that its lines say
  mine : (k : ℕ) (q : Known) → k < n → map entry_of (installed_of (get_or column.logs k [])) ≡ entries_by (k + 1) kept.entries
  mine k q lt =
      let v = (get_or column.passes k q).view in
      sym (are.each k q lt).mine ∙ (ap added (sym (whole.ends.mine k v (view_at k q lt)))
      ∙ (ap (λ m. added (Rattle.version_slots.specs.Histories.lines_of m hist)) (number k q lt) ∙ sym (whole.adds.own (k + 1))))

  -- each entry is of one of the workers
  callers : AllByRecursion (λ e. (0 < e.caller) × (e.caller ≤ length column.logs)) kept.entries
  callers = all_there (λ (e : Entry PlainCall). (0 < e.caller) × (e.caller ≤ length column.logs)) kept.entries one
    where
      one : (i : ℕ) (e : Entry PlainCall) → get_elem? kept.entries i ≡ some e → (0 < e.caller) × (e.caller ≤ length column.logs)
      one i e at =
          let high : i < length kept.entries = (elem_is kept.entries i e e at).0 in
          let long = whole.adds.count in
          let there = some_there hist (suc i) (omega arith) in
          let by : e.caller ≡ there.0.number = whole.adds.callers i there.0 e there.1 at in
          let own = whole.ends.numbered i there.0 there.1 in
          let j : ℕ = own.0 in
          let v : View Kept = own.1 in
          let found = elem_is (map (λ (p : Known). p.view) column.passes) j v v own.2 in
          let many = length_map (λ (p : Known). p.view) column.passes in
          let low : j < n = let a = found.0 in let b = are.passes in omega arith in
          let q : Known = record { table = c.table; view = v; last = 0; kind = c.first.value.kind } in
          let same : v ≡ (get_or column.passes j q).view = found.1 ∙ index_map (λ (p : Known). p.view) column.passes j q v (let b = are.passes in omega arith) in
          let is : v.number ≡ j + 1 = ap (λ (u : View Kept). u.number) same ∙ number j q low in
          let number_is : v.number ≡ there.0.number = own.3 in
          let logs_are = are.logs in
          (omega arith, omega arith)

  pub are_logs : AreLogs c.first.value kept.entries column.logs
  are_logs = record {
    each = λ k lt.
        let low : k < n = let e = are.logs in omega arith in
        let q : Known = new_pass c.table c.passes c.first k in
        let its = are.each k q low in
        record {
          mine = mine k q low;
          by = its.by;
          right = all_weaker (right (get_or column.passes k q).view.seen (begins k q low)) (get_or column.logs k []) its.right;
          rising = its.rising;
        };
    callers = callers;
  }

  -- what a pass had seen at a position is what the entries make up to there
  pub shown : (k : ℕ) (q : Known) → k < n → (position : ℕ) (got : Plain) → Shows (get_or column.passes k q).view.seen position got → (position ≤ length kept.entries) × (made_at c.first.value kept.entries position ≡ got)
  shown k q lt position got h =
      let s = shows_later hist (get_or column.passes k q).view.seen (begins k q lt) position got h in
      let b = whole.adds.begins position s.line s.at in
      let es = s.line.value.entries in
      let front : take position kept.entries ≡ es = ap (λ i. take i kept.entries) (sym b.0) ∙ (ap (take (length es)) b.1.1 ∙ take_front es b.1.0) in (
        let a = ap length b.1.1 ∙ length-append es b.1.0 in let e = b.0 in omega arith,
        ap (made c.first.value) front ∙ (sym (whole.adds.makes position s.line s.at) ∙ s.value),
      )

  -- the last value is what all entries make
  pub last : kept.value ≡ made c.first.value kept.entries
  last =
      let e = whole.ends in
      let at : get_elem? hist (length e.ends.0) ≡ some e.last = ap (λ h. get_elem? h (length e.ends.0)) e.ends.1 ∙ at_last e.ends.0 e.last (length e.ends.0) refl in
      ap (λ (k : Kept). k.value) e.value_is ∙ (whole.adds.makes (length e.ends.0) e.last at ∙ ap (λ (k : Kept). made c.first.value k.entries) (sym e.value_is))
