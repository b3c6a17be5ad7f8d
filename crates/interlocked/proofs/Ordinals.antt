-- The entries of a pass in what it has seen are those of its own lines, so a new ordinal is above them.
use Rattle.std.proofs.Common.{◌≡◌, ℕ, zero, suc, ◌+◌, ◌<◌, ◌==◌, cond, Bool, true, false, List, [], ◌∷◌, ◌++◌, length, sym, refl, ap, ◌∙◌, subst, ⊎_elim, arith, eq-eqb, Some}
use mathlib.Core.Option.{some, some-injective, some-ne-none}
use lib.ListN.{get_elem?}
use Rattle.plain_model.specs.declared.plain.Plain.{Plain}
use Rattle.plain_model.specs.declared.commands.PlainCall.{PlainCall}
use Rattle.plain_model.specs.declared.history.Reply.{Reply}
use Rattle.plain_model.specs.Cell.{Outcome, cell, install_and_reply}
use Rattle.version_slots.specs.declared.view.Line.{Line}
use Rattle.version_slots.specs.declared.view.View.{View}
use Rattle.version_slots.specs.declared.tokens.Front.{Front}
use Rattle.version_slots.specs.Histories.{Placed, Linked, lines_of}
use Rattle.version_slots.proofs.Seats.{in_range, ends_at}
use Rattle.version_slots.proofs.Shares.{at_end}
use Rattle.interlocked.specs.declared.entry.Kept.{Kept}
use Rattle.interlocked.specs.declared.entry.Entry.{Entry}
use Rattle.interlocked.specs.Entries.{entry, AreBelow, Extends, position_of}
use Rattle.interlocked.specs.Tries.{Visits, Wins, version_line}
use Rattle.interlocked.specs.Retries.{EndsIn, MineBelow, grown}
use Rattle.interlocked.proofs.Proposals.{last_of}

pub earlier : {B : Type 0} (l : List B) (i : ℕ) (b : B) → get_elem? l (suc i) ≡ some b → (a : B) × (get_elem? l i ≡ some a)
earlier [] i b e = absurd (some-ne-none b (sym e))
earlier (x ∷ xs) zero b e = (x, refl)
earlier (x ∷ xs) (suc i) b e = earlier xs i b e

-- a line of this number is among those of this number
pub kept_line : {A : Type 0} (number : ℕ) (hist : List (Line A)) (i : ℕ) (l : Line A) → get_elem? hist i ≡ some l → l.number ≡ number → (k : ℕ) × (get_elem? (lines_of number hist) k ≡ some l)
kept_line number [] i l e is = absurd (some-ne-none l (sym e))
kept_line {A = A} number (x ∷ xs) zero l e is = let same : x ≡ l = some-injective x l e in
    let test : (x.number == number) ≡ true = eq-eqb x.number number (ap (λ (y : Line A). y.number) same ∙ is) in
    (0, ap (λ (b : Bool). get_elem? (cond b (x ∷ lines_of number xs) (lines_of number xs)) 0) test ∙ ap (λ (y : Line A). some y) same)
kept_line {A = A} number (x ∷ xs) (suc i) l e is = let t = kept_line number xs i l e is in deeper (x.number == number) t.0 t.1
  where
    deeper : (b : Bool) (k : ℕ) → get_elem? (lines_of number xs) k ≡ some l → (j : ℕ) × (get_elem? (cond b (x ∷ lines_of number xs) (lines_of number xs)) j ≡ some l)
    deeper true k f = (suc k, f)
    deeper false k f = (k, f)

pub seen_below : (v : View Kept) (ordinal : ℕ) → Linked Extends v.seen → Placed position_of v.seen → lines_of v.number v.seen ≡ v.mine → MineBelow v ordinal
    → (i : ℕ) (l : Line Kept) → get_elem? v.seen i ≡ some l → AreBelow v.number ordinal l.value.entries
seen_below v ordinal linked placed own below zero l e j x f is = let none = placed.0 0 l e in let some_at = in_range l.value.entries j x f in absurd (omega arith)
seen_below v ordinal linked placed own below (suc i) l e j x f is = let m = earlier v.seen i l e in let h = linked i m.0 l m.1 e in
    ⊎_elim
    (λ (before : get_elem? m.0.value.entries j ≡ some x). seen_below v ordinal linked placed own below i m.0 m.1 j x before is)
    (λ (last : (j ≡ length m.0.value.entries) × (entry l.number h.ordinal h.call ≡ x)).
    let mine = kept_line v.number v.seen (suc i) l e (ap (λ (y : Entry PlainCall). y.caller) last.1 ∙ is) in
    below mine.0 l (ap (λ (ls : List (Line Kept)). get_elem? ls mine.0) (sym own) ∙ mine.1) j x f is)
    (at_end m.0.value.entries (entry l.number h.ordinal h.call) x j (ap (λ (es : List (Entry PlainCall)). get_elem? es j) (sym h.entries) ∙ f))

pub visit_ends : (old : View Kept) (front : Front) (kept : Kept) (new : View Kept) → Visits old front kept new → EndsIn new.seen front kept
visit_ends old front kept new h = (h.before, h.number, h.ends)

-- what the pass had called before is below the ordinal in the version that was pinned
pub kept_below : (old new : View Kept) (front : Front) (kept : Kept) (ordinal : ℕ) → Visits old front kept new → MineBelow old ordinal → Linked Extends new.seen → Placed position_of new.seen
    → lines_of new.number new.seen ≡ new.mine → MineBelow new ordinal × AreBelow new.number ordinal kept.entries
kept_below old new front kept ordinal h below linked placed own =
    let number : new.number ≡ old.number = ap (λ (u : View Kept). u.number) h.same in
    let mine : new.mine ≡ old.mine = ap (λ (u : View Kept). u.mine) h.same in
    let below' : MineBelow new ordinal = λ i l e. subst (λ (n : ℕ). AreBelow n ordinal l.value.entries) (sym number) (below i l (ap (λ (ls : List (Line Kept)). get_elem? ls i) (sym mine) ∙ e)) in
    (below', seen_below new ordinal linked placed own below' (length h.before) (last_of h.number front kept) (ends_at new.seen (last_of h.number front kept) (h.before, h.ends)))

-- what a call installs on a version that was pinned may be proposed
pub may_install : (old new : View Kept) (front : Front) (kept next : Kept) (ordinal : ℕ) (call : PlainCall) (value : Plain) (reply : Reply) → Visits old front kept new
    → MineBelow old ordinal → Linked Extends new.seen → Placed position_of new.seen → lines_of new.number new.seen ≡ new.mine
    → cell call kept.value ≡ install_and_reply value reply → next ≡ grown kept old.number ordinal call value → value.kind ≡ kept.value.kind → Extends new.number kept next
may_install old new front kept next ordinal call value reply h below linked placed own outcome is kind =
    let number : new.number ≡ old.number = ap (λ (u : View Kept). u.number) h.same in
    record {
      ordinal = ordinal;
      call = call;
      above = (kept_below old new front kept ordinal h below linked placed own).1;
      entries = ap (λ (k : Kept). k.entries) is ∙ ap (λ (n : ℕ). kept.entries ++ entry n ordinal call ∷ []) (sym number);
      installs = ap (λ (o : Outcome). o.installs) outcome ∙ ap (λ (k : Kept). Some k.value) (sym is);
      kind = ap (λ (k : Kept). k.value.kind) is ∙ kind;
    }

less_than : (number ordinal : ℕ) (es : List (Entry PlainCall)) → AreBelow number ordinal es → AreBelow number (ordinal + 1) es
less_than number ordinal es h i e at is = let a = h i e at is in omega arith

-- calls below an ordinal are below the next one, also where the pass is a later one with the same lines
pub below_same : (old new : View Kept) (ordinal : ℕ) → new.number ≡ old.number → new.mine ≡ old.mine → MineBelow old ordinal → MineBelow new ordinal
below_same old new ordinal number mine h i l e = subst (λ (n : ℕ). AreBelow n ordinal l.value.entries) (sym number) (h i l (ap (λ (ls : List (Line Kept)). get_elem? ls i) (sym mine) ∙ e))

pub below_next : (v : View Kept) (ordinal : ℕ) → MineBelow v ordinal → MineBelow v (ordinal + 1)
below_next v ordinal h i l e = less_than v.number ordinal l.value.entries (h i l e)

pub below_later : (v : View Kept) (last ordinal : ℕ) → last < ordinal → MineBelow v (last + 1) → MineBelow v ordinal
below_later v last ordinal less h i l e j x f is = let a = h i l e j x f is in omega arith

-- with the version that was installed
pub below_won : (old : View Kept) (base : Front) (kept : Kept) (front : Front) (new : View Kept) (ordinal : ℕ) (call : PlainCall) (value : Plain) → Wins old base (grown kept old.number ordinal call value) front new
    → MineBelow old ordinal → AreBelow old.number ordinal kept.entries → MineBelow new (ordinal + 1)
below_won old base kept front new ordinal call value w below above i l e =
    let number : new.number ≡ old.number = ap (λ (u : View Kept). u.number) w.same in let next = version_line old front (grown kept old.number ordinal call value) in
    subst (λ (n : ℕ). AreBelow n (ordinal + 1) l.value.entries) (sym number)
    (⊎_elim (λ (before : get_elem? old.mine i ≡ some l). less_than old.number ordinal l.value.entries (below i l before))
    (λ (last : (i ≡ length old.mine) × (next ≡ l)). subst (λ (m : Line Kept). AreBelow old.number (ordinal + 1) m.value.entries) last.1 grown_below)
    (at_end old.mine next l i (ap (λ (u : View Kept). get_elem? u.mine i) (sym w.same) ∙ e)))
  where
    grown_below : AreBelow old.number (ordinal + 1) (kept.entries ++ entry old.number ordinal call ∷ [])
    grown_below j x f is = ⊎_elim (λ (b : get_elem? kept.entries j ≡ some x). less_than old.number ordinal kept.entries above j x b is)
        (λ (b : (j ≡ length kept.entries) × (entry old.number ordinal call ≡ x)). let o = ap (λ (y : Entry PlainCall). y.ordinal) b.1 in omega arith)
        (at_end kept.entries (entry old.number ordinal call) x j f)
