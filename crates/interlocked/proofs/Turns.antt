-- What a call comes to at a version.
use Rattle.std.proofs.Common.{◌≡◌, sym, subst, Some}
use Rattle.imm_base.specs.declared.val.Edit.{Edit}
use Rattle.imm_base.specs.declared.val.Edit.TheVariants.{New}
use Rattle.plain_model.specs.declared.plain.Plain.{Plain}
use Rattle.plain_model.specs.declared.history.Reply.{Reply}
use Rattle.plain_model.specs.Cell.{Outcome, install_and_reply}
use Rattle.interlocked.specs.Outcomes.{Edits}

pub installs_new : {C : Type 0} (plain : C → Plain) (o : Outcome) (e : Edit C) (v : C) (r : Reply) → Edits plain o.installs e → e ≡ New v → r ≡ o.reply → o ≡ install_and_reply (plain v) r
installs_new plain o e v r edits is reply = let h : o.installs ≡ Some (plain v) = subst (Edits plain o.installs) is edits in λ k. record { installs = h k; reply = sym reply k }
