-- What is read stands in the history.
use Rattle.std.proofs.Common.{◌≡◌, ℕ, Bool, true, false, MatchBool, List, refl, ap, sym, subst, ◌∙◌}
use lib.ListN.{get_elem?}
use Rattle.plain_model.specs.declared.plain.Plain.{Plain}
use Rattle.plain_model.specs.declared.commands.PlainCall.{PlainCall}
use Rattle.plain_model.specs.declared.history.Reply.{Reply}
use Rattle.plain_model.specs.Cell.{cell, reply_only}
use Rattle.version_slots.specs.declared.view.Line.{Line}
use Rattle.version_slots.specs.declared.view.View.{View}
use Rattle.interlocked.specs.declared.entry.Kept.{Kept}
use Rattle.interlocked.specs.declared.answers.Stamp.{Stamp}
use Rattle.interlocked.specs.Known.{Known, IsStill, Reads}
use Rattle.interlocked.specs.Retries.{Answers, Installs}
use Rattle.interlocked.specs.Rights.{Made, ReadsAt}
use Rattle.interlocked.proofs.Proposals.{last_of}
use Rattle.interlocked.proofs.Rights.{visited, made_of, made_since}

pub answers : (old new : View Kept) (got : Plain) (stamp : Stamp) (call : PlainCall) (reply : Reply) → Reads old got stamp new → cell call got ≡ reply_only reply → Answers old call reply stamp new
answers old new got stamp call reply r is = record { kept = r.kept; visits = r.visits; outcome = ap (cell call) (sym r.value) ∙ is; position = r.position }

pub reads_at : (old new : View Kept) (got : Plain) (stamp : Stamp) → Reads old got stamp new → ReadsAt old new got stamp
reads_at old new got stamp r = record {
  there = record {
    line = last_of r.visits.number stamp.front r.kept;
    at = ap (get_elem? new.seen) r.position ∙ visited old stamp.front r.kept new r.visits;
    value = sym r.value;
  };
  answers = λ ordinal call reply is. made_of old ordinal call reply stamp new
      (subst (λ (x : Bool). MatchBool x (Installs old ordinal call reply stamp new) (Answers old call reply stamp new)) (sym r.installed) (answers old new got stamp call reply r is));
}

-- the same, where the pass had made no call since it was that of an earlier view
pub reads_since : (p b q : Known) (got : Plain) (stamp : Stamp) → IsStill p b → ReadsAt b.view q.view got stamp → ReadsAt p.view q.view got stamp
reads_since p b q got stamp still r = record {
  there = r.there;
  answers = λ ordinal call reply is. made_since p.view b.view ordinal call reply stamp q.view still.later.number still.mine still.later.seen (r.answers ordinal call reply is);
}
