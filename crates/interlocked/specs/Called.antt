-- What a looping call comes to.
use Rattle.std.specs.Prelude.{◌≡◌, ℕ}
use Rattle.plain_model.specs.declared.commands.PlainCall.{PlainCall}
use Rattle.plain_model.specs.declared.history.Reply.{Reply}
use Rattle.plain_model.specs.declared.plain.Plain.{Plain}
use Rattle.interlocked.specs.declared.answers.Stamp.{Stamp}
use Rattle.interlocked.specs.Known.{Calls, IsLater, IsStill, Known, Knows, Reads}
use Rattle.interlocked.specs.Retries.{OnlyVisits}
use Rattle.interlocked.specs.Rights.{Made, ReadsAt}

-- The call is done, in the last of some tries: it stands in the history that was seen, and is the last call of the pass
pub record IsDone (p : Known) (ordinal : ℕ) (call : PlainCall) (q : Known) (reply : Reply) (stamp : Stamp) : Type 0 where
  pub later : IsLater p q
  pub knows : Knows q.view
  pub calls : Calls p ordinal call q reply stamp
  pub made : Made p.view q.view ordinal call reply stamp
  pub last : q.last ≡ ordinal

-- The value was read, in the last of some tries, and has the kind of the cell; no call was made
pub record IsRead (p : Known) (got : Plain) (q : Known) (stamp : Stamp) : Type 0 where
  pub still : IsStill p q
  pub knows : Knows q.view
  pub reads : (between : Known) × IsStill p between × Reads between.view got stamp q.view
  pub made : ReadsAt p.view q.view got stamp
  pub kind : got.kind ≡ p.kind

-- There was no memory in the last of some tries, after a version was pinned and let go; no call was made
pub record IsOutOfMemory (p q : Known) : Type 0 where
  pub still : IsStill p q
  pub knows : Knows q.view
  pub met : (between : Known) × IsStill p between × OnlyVisits between.view q.view
