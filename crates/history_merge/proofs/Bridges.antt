-- A line that stands among a cell's entries is right there.
use Rattle.std.proofs.Common.{◌≡◌, ℕ, zero, suc, ◌+◌, ◌-◌, ◌<◌, ◌≤◌, Bool, true, false, MatchBool, List, [], ◌∷◌, ◌++◌, length, take, Some, slice_get, refl, ap, sym, subst, ◌∙◌, arith, length-append}
use Rattle.std.specs.Prelude.{is_some}
use Rattle.plain_model.specs.declared.plain.Plain.{Plain}
use Rattle.plain_model.specs.declared.commands.PlainCall.{PlainCall}
use Rattle.plain_model.specs.declared.history.Line.{Line}
use Rattle.plain_model.specs.Cell.{Outcome, cell}
use Rattle.interlocked.specs.declared.entry.Entry.{Entry}
use Rattle.interlocked.specs.Entries.{entry}
use Rattle.interlocked.specs.Rights.{AnsweredAt, InstalledAt}
use Rattle.interlocked.specs.Whole.{made}
use Rattle.history_merge.specs.Lines.{installs, reply_of}
use Rattle.history_merge.specs.Logs.{IsInstalled, IsAnswered, made_at, entry_of}

pub take_front : (xs ys : List (Entry PlainCall)) → take (length xs) (xs ++ ys) ≡ xs
take_front [] ys = refl
take_front (x ∷ xs) ys = ap (λ zs. x ∷ zs) (take_front xs ys)

get_after : (xs : List (Entry PlainCall)) (e : Entry PlainCall) (ys : List (Entry PlainCall)) → slice_get ((xs ++ e ∷ []) ++ ys) (length xs) ≡ Some e
get_after [] e ys = refl
get_after (x ∷ xs) e ys = get_after xs e ys

push : (xs : List (Entry PlainCall)) (x : Entry PlainCall) (ys : List (Entry PlainCall)) → (xs ++ x ∷ []) ++ ys ≡ xs ++ x ∷ ys
push [] x ys = refl
push (z ∷ xs) x ys = ap (λ zs. z ∷ zs) (push xs x ys)

pub answered_line : (first : Plain) (es : List (Entry PlainCall)) (l : Line) → AnsweredAt first es l.call l.reply l.position → IsAnswered first es l
answered_line first es l h =
    let value : made_at first es l.position ≡ made first h.before = ap (made first) (ap (λ k. take k es) (sym h.place) ∙ (ap (take (length h.before)) h.split ∙ take_front h.before h.rest)) in
    record {
      within = let a = ap length h.split ∙ length-append h.before h.rest in let b = h.place in omega arith;
      mark = ap (λ v. is_some (cell l.call v).installs) value ∙ ap (λ (o : Outcome). is_some o.installs) h.outcome;
      reply = sym (ap (λ v. (cell l.call v).reply) value ∙ ap (λ (o : Outcome). o.reply) h.outcome);
    }

pub installed_line : (first : Plain) (es : List (Entry PlainCall)) (l : Line) → InstalledAt first es l.caller l.ordinal l.call l.reply l.position → IsInstalled first es l
installed_line first es l h =
    let at : l.position - 1 ≡ length h.before = let a = h.place in omega arith in
    let whole : es ≡ h.before ++ entry_of l ∷ h.rest = h.split ∙ push h.before (entry_of l) h.rest in
    let value : made_at first es (l.position - 1) ≡ made first h.before = ap (made first) (ap (λ k. take k es) at ∙ (ap (take (length h.before)) whole ∙ take_front h.before (entry_of l ∷ h.rest))) in
    record {
      above = let a = h.place in omega arith;
      entry = ap (slice_get es) at ∙ (ap (λ xs. slice_get xs (length h.before)) h.split ∙ get_after h.before (entry_of l) h.rest);
      mark = ap (λ v. is_some (cell l.call v).installs) value ∙ ap (λ (o : Outcome). is_some o.installs) h.outcome;
      reply = sym (ap (λ v. (cell l.call v).reply) value ∙ ap (λ (o : Outcome). o.reply) h.outcome);
    }
