-- What a try answers stands in the history.
use Rattle.std.proofs.Common.{◌≡◌, ℕ, suc, ◌+◌, List, [], ◌∷◌, ◌++◌, length, length-append, sym, refl, ap, ◌∙◌, subst, arith}
use mathlib.Core.Option.{some}
use lib.ListN.{get_elem?}
use Rattle.plain_model.specs.declared.plain.Plain.{Plain}
use Rattle.plain_model.specs.declared.commands.PlainCall.{PlainCall}
use Rattle.plain_model.specs.declared.history.Reply.{Reply}
use Rattle.plain_model.specs.Cell.{cell}
use Rattle.version_slots.proofs.Seats.{in_range}
use Rattle.atomic_table.proofs.Lists.{at_longer, at_last}
use Rattle.version_slots.specs.declared.view.Line.{Line}
use Rattle.version_slots.specs.declared.view.View.{View}
use Rattle.version_slots.specs.declared.tokens.Front.{Front}
use Rattle.version_slots.specs.Histories.{StartsWith}
use Rattle.interlocked.specs.declared.entry.Kept.{Kept}
use Rattle.interlocked.specs.declared.entry.Entry.{Entry}
use Rattle.interlocked.specs.declared.answers.Stamp.{Stamp}
use Rattle.interlocked.specs.Entries.{entry, added, position_of}
use Rattle.interlocked.specs.Tries.{Visits, version_line}
use Rattle.interlocked.specs.Retries.{Answers, Installs, Tries, grown}
use Rattle.std.proofs.Common.{Bool, true, false, MatchBool, ◌<◌, ◌≤◌}
use Rattle.interlocked.specs.declared.answers.Attempt.TheVariants.{Done}
use Rattle.interlocked.proofs.Own.{won_entries}
use Rattle.interlocked.specs.Rights.{Made, IsAnswered, IsInstalled, AnsweredAt, InstalledAt, Shows}
use Rattle.interlocked.specs.Whole.{Adds}
use Rattle.interlocked.proofs.Proposals.{last_of}

pub visited : (old : View Kept) (front : Front) (kept : Kept) (new : View Kept) (h : Visits old front kept new) → get_elem? new.seen (position_of kept) ≡ some (last_of h.number front kept)
visited old front kept new h = ap (λ (l : List (Line Kept)). get_elem? l (position_of kept)) h.ends ∙ at_last h.before (last_of h.number front kept) (position_of kept) h.place

pub answered : (old : View Kept) (call : PlainCall) (reply : Reply) (stamp : Stamp) (new : View Kept) → Answers old call reply stamp new → IsAnswered new.seen call reply stamp.position
answered old call reply stamp new h = record {
  line = last_of h.visits.number stamp.front h.kept;
  at = ap (get_elem? new.seen) h.position ∙ visited old stamp.front h.kept new h.visits;
  outcome = h.outcome;
}

pub installed : (old : View Kept) (ordinal : ℕ) (call : PlainCall) (reply : Reply) (stamp : Stamp) (new : View Kept) → Installs old ordinal call reply stamp new → IsInstalled new.seen old.number ordinal call reply stamp.position
installed old ordinal call reply stamp new h = let p : ℕ = position_of h.kept in let w = h.wins in let v = h.visits in
    let seen : new.seen ≡ h.between.seen ++ version_line h.between stamp.front (grown h.kept old.number ordinal call h.value) ∷ [] = ap (λ (u : View Kept). u.seen) w.same in
    let long : length h.between.seen ≡ suc p = let a = ap length v.ends ∙ length-append v.before (last_of v.number h.base h.kept ∷ []) in let b = v.place in omega arith in record {
      before = p;
      line = last_of v.number h.base h.kept;
      next = version_line h.between stamp.front (grown h.kept old.number ordinal call h.value);
      value = h.value;
      place = let e : p + 1 ≡ suc p = omega arith in h.position ∙ e;
      at = ap (λ (l : List (Line Kept)). get_elem? l p) seen ∙ at_longer h.between.seen (version_line h.between stamp.front (grown h.kept old.number ordinal call h.value) ∷ []) p (last_of v.number h.base h.kept) (visited old h.base h.kept h.between v);
      there = ap (λ (l : List (Line Kept)). get_elem? l (suc p)) seen ∙ at_last h.between.seen (version_line h.between stamp.front (grown h.kept old.number ordinal call h.value)) (suc p) long;
      caller_is = ap (λ (u : View Kept). u.number) v.same;
      grows = refl;
      outcome = h.outcome;
    }

module _ (hist seen : List (Line Kept)) (begins : StartsWith hist seen) where
  longer : (i : ℕ) (l : Line Kept) → get_elem? seen i ≡ some l → get_elem? hist i ≡ some l
  longer i l e = ap (λ (h : List (Line Kept)). get_elem? h i) begins.1 ∙ at_longer seen begins.0 i l e

  pub answered_later : (call : PlainCall) (reply : Reply) (position : ℕ) → IsAnswered seen call reply position → IsAnswered hist call reply position
  answered_later call reply position h = record { line = h.line; at = longer position h.line h.at; outcome = h.outcome }

  pub installed_later : (caller ordinal : ℕ) (call : PlainCall) (reply : Reply) (position : ℕ) → IsInstalled seen caller ordinal call reply position → IsInstalled hist caller ordinal call reply position
  installed_later caller ordinal call reply position h = record {
    before = h.before;
    line = h.line;
    next = h.next;
    value = h.value;
    place = h.place;
    at = longer h.before h.line h.at;
    there = longer (suc h.before) h.next h.there;
    caller_is = h.caller_is;
    grows = h.grows;
    outcome = h.outcome;
  }

  pub shows_later : (position : ℕ) (got : Plain) → Shows seen position got → Shows hist position got
  shows_later position got h = record { line = h.line; at = longer position h.line h.at; value = h.value }

module _ (first : Kept) (hist : List (Line Kept)) (entries : List (Entry PlainCall)) (adds : Adds first hist entries) where
  pub answered_at : (call : PlainCall) (reply : Reply) (position : ℕ) → IsAnswered hist call reply position → AnsweredAt first.value entries call reply position
  answered_at call reply position h = let t = adds.begins position h.line h.at in record {
    before = h.line.value.entries;
    rest = t.1.0;
    split = t.1.1;
    place = t.0;
    outcome = ap (cell call) (sym (adds.makes position h.line h.at)) ∙ h.outcome;
  }

  pub installed_at : (caller ordinal : ℕ) (call : PlainCall) (reply : Reply) (position : ℕ) → IsInstalled hist caller ordinal call reply position → InstalledAt first.value entries caller ordinal call reply position
  installed_at caller ordinal call reply position h = let t = adds.begins h.before h.line h.at in let u = adds.begins (suc h.before) h.next h.there in record {
    before = h.line.value.entries;
    rest = u.1.0;
    value = h.value;
    split = u.1.1 ∙ ap (λ (k : Kept). k.entries ++ u.1.0) h.grows;
    place = h.place ∙ (let a = t.0 in (omega arith));
    outcome = ap (cell call) (sym (adds.makes h.before h.line h.at)) ∙ h.outcome;
  }

-- what was seen before is not longer
pub long : (hist seen : List (Line Kept)) → StartsWith hist seen → length seen ≤ length hist
long hist seen h = let a = ap length h.1 ∙ length-append seen h.0 in omega arith

visit_behind : (old : View Kept) (front : Front) (kept : Kept) (new : View Kept) → Visits old front kept new → (length old.seen ≤ position_of kept + 1) × (new.mine ≡ old.mine)
visit_behind old front kept new h = let a = ap length h.ends ∙ length-append h.before (last_of h.number front kept ∷ []) in let b = long new.seen old.seen h.later in let c = h.place in
    ((omega arith), ap (λ (u : View Kept). u.mine) h.same)

made_answered : (old : View Kept) (ordinal : ℕ) (call : PlainCall) (reply : Reply) (stamp : Stamp) (new : View Kept) (b : Bool) → stamp.installed ≡ b → Answers old call reply stamp new
    → b ≡ false → Made old new ordinal call reply stamp
made_answered old ordinal call reply stamp new b is h other = let flag : stamp.installed ≡ false = is ∙ other in let v = visit_behind old stamp.front h.kept new h.visits in record {
  within = in_range new.seen stamp.position (answered old call reply stamp new h).line (answered old call reply stamp new h).at;
  stands = subst (λ (x : Bool). MatchBool x (IsInstalled new.seen old.number ordinal call reply stamp.position) (IsAnswered new.seen call reply stamp.position)) (sym flag) (answered old call reply stamp new h);
  behind = subst (λ (x : Bool). MatchBool x (length old.seen ≤ stamp.position) (length old.seen ≤ stamp.position + 1)) (sym flag) (let a = h.position in let c = v.0 in let d : length old.seen ≤ stamp.position + 1 = omega arith in d);
  mine = subst (λ (x : Bool). MatchBool x (added new.mine ≡ added old.mine ++ entry old.number ordinal call ∷ []) (new.mine ≡ old.mine)) (sym flag) v.1;
}

made_installed : (old : View Kept) (ordinal : ℕ) (call : PlainCall) (reply : Reply) (stamp : Stamp) (new : View Kept) (b : Bool) → stamp.installed ≡ b → Installs old ordinal call reply stamp new
    → b ≡ true → Made old new ordinal call reply stamp
made_installed old ordinal call reply stamp new b is h one = let flag : stamp.installed ≡ true = is ∙ one in let v = visit_behind old h.base h.kept h.between h.visits in record {
  within = let i = installed old ordinal call reply stamp new h in let a = in_range new.seen (suc i.before) i.next i.there in let b = i.place in (let d : stamp.position < length new.seen = omega arith in d);
  stands = subst (λ (x : Bool). MatchBool x (IsInstalled new.seen old.number ordinal call reply stamp.position) (IsAnswered new.seen call reply stamp.position)) (sym flag) (installed old ordinal call reply stamp new h);
  behind = subst (λ (x : Bool). MatchBool x (length old.seen ≤ stamp.position) (length old.seen ≤ stamp.position + 1)) (sym flag) (let a = h.position in let c = v.0 in let d : length old.seen ≤ stamp.position = omega arith in d);
  mine = subst (λ (x : Bool). MatchBool x (added new.mine ≡ added old.mine ++ entry old.number ordinal call ∷ []) (new.mine ≡ old.mine)) (sym flag)
      (won_entries h.between h.base h.kept stamp.front new old.number ordinal call h.value h.wins ∙ ap (λ ls. added ls ++ entry old.number ordinal call ∷ []) v.1);
}

made_by : (old : View Kept) (ordinal : ℕ) (call : PlainCall) (reply : Reply) (stamp : Stamp) (new : View Kept) (b : Bool) → stamp.installed ≡ b
    → MatchBool b (Installs old ordinal call reply stamp new) (Answers old call reply stamp new) → Made old new ordinal call reply stamp
made_by old ordinal call reply stamp new true is h = made_installed old ordinal call reply stamp new true is h refl
made_by old ordinal call reply stamp new false is h = made_answered old ordinal call reply stamp new false is h refl

-- a call that a try did stands in the history
pub made_of : (old : View Kept) (ordinal : ℕ) (call : PlainCall) (reply : Reply) (stamp : Stamp) (new : View Kept) → Tries old ordinal call new (Done reply stamp) → Made old new ordinal call reply stamp
made_of old ordinal call reply stamp new h = made_by old ordinal call reply stamp new stamp.installed refl h

-- the same, where the pass had made no call since it was that of an earlier view
pub made_since : (older old : View Kept) (ordinal : ℕ) (call : PlainCall) (reply : Reply) (stamp : Stamp) (new : View Kept) → old.number ≡ older.number → old.mine ≡ older.mine → StartsWith old.seen older.seen
    → Made old new ordinal call reply stamp → Made older new ordinal call reply stamp
made_since older old ordinal call reply stamp new number mine begins h = let shorter = long old.seen older.seen begins in record {
  within = h.within;
  stands = subst (λ (n : ℕ). MatchBool stamp.installed (IsInstalled new.seen n ordinal call reply stamp.position) (IsAnswered new.seen call reply stamp.position)) number h.stands;
  behind = less stamp.installed shorter h.behind;
  mine = subst (λ (x : ℕ × List (Line Kept)). MatchBool stamp.installed (added new.mine ≡ added x.1 ++ entry x.0 ordinal call ∷ []) (new.mine ≡ x.1)) (λ k. (number k, mine k)) h.mine;
}
  where
    less : (b : Bool) → length older.seen ≤ length old.seen → MatchBool b (length old.seen ≤ stamp.position) (length old.seen ≤ stamp.position + 1) → MatchBool b (length older.seen ≤ stamp.position) (length older.seen ≤ stamp.position + 1)
    less true a h = let d : length older.seen ≤ stamp.position = omega arith in d
    less false a h = let d : length older.seen ≤ stamp.position + 1 = omega arith in d
