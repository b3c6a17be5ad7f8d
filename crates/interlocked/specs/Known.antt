-- What a cell and its passes are to their callers.
use Rattle.std.specs.Prelude.{◌≡◌, ℕ, ◌+◌, false}
use Rattle.atomic_table.specs.Seated.{TableId}
use Rattle.version_slots.specs.declared.view.View.{View}
use Rattle.version_slots.specs.Histories.{StartsWith, Placed, Linked, lines_of}
use Rattle.version_slots.specs.Cells.{IsIdle}
use Rattle.version_slots.specs.Refusals.{PinRefusal}
use Rattle.plain_model.specs.declared.plain.Kind.{Kind}
use Rattle.plain_model.specs.declared.plain.Plain.{Plain}
use Rattle.interlocked.specs.declared.entry.Kept.{Kept}
use Rattle.interlocked.specs.declared.answers.Stamp.{Stamp}
use Rattle.interlocked.specs.declared.answers.Attempt.{Attempt}
use Rattle.interlocked.specs.declared.answers.Attempt.TheVariants.{Done, Again}
use Rattle.interlocked.specs.declared.answers.PeekFault.{PeekFault}
use Rattle.interlocked.specs.declared.answers.PeekFault.TheVariants as peeks
use Rattle.interlocked.specs.Entries.{Extends, position_of, kind_in, IsBegun}
use Rattle.interlocked.specs.Tries.{Visits}
use Rattle.interlocked.specs.Retries.{MineBelow, OnlyVisits, Tries}
use Rattle.plain_model.specs.declared.commands.PlainCall.{PlainCall}
use Rattle.plain_model.specs.declared.history.Reply.{Reply}

-- a cell: how many passes it has, and what it began with
pub record Shared : Type 0 where
  pub table : TableId
  pub passes : ℕ
  pub first : Kept

-- a pass: of which cell it is, what it knows, the ordinal of its last call, and the kind of the values that the cell has
pub record Known : Type 0 where
  pub table : TableId
  pub view : View Kept
  pub last : ℕ
  pub kind : Kind

-- a pass that has made no call
abbrev pub uncalled : TableId → View Kept → Known
uncalled table view = record { table = table; view = view; last = 0; kind = kind_in view.seen }

-- of which cell a pass is, and what it knows
abbrev pub pair : TableId → View Kept → TableId × View Kept
pair table view = (table, view)

-- the same pass later
pub record IsLater (p q : Known) : Type 0 where
  pub table : q.table ≡ p.table
  pub number : q.view.number ≡ p.view.number
  pub seen : StartsWith q.view.seen p.view.seen
  pub kind : q.kind ≡ p.kind

-- what a pass has seen is a history, in which its own lines are those that it installed
pub record Knows (v : View Kept) : Type 0 where
  pub linked : Linked Extends v.seen
  pub placed : Placed position_of v.seen
  pub own : lines_of v.number v.seen ≡ v.mine

-- between two calls a pass pins and proposes nothing, its calls have ordinals up to the last one, and it has seen the first version
pub record IsReady (v : View Kept) (last : ℕ) : Type 0 where
  pub idle : IsIdle v
  pub begun : IsBegun v.seen
  pub below : MineBelow v (last + 1)

-- the same pass later, which has made no call since
pub record IsStill (p q : Known) : Type 0 where
  pub later : IsLater p q
  pub mine : q.view.mine ≡ p.view.mine
  pub last : q.last ≡ p.last

-- a pass has made the call with this ordinal, or none
abbrev pub Moves : Known → ℕ → Known → Attempt → Type 0
Moves p ordinal q (Done reply stamp) = q.last ≡ ordinal
Moves p ordinal q (Again retry) = IsStill p q

-- the call was done in the last of some tries, before which no call was made
abbrev pub Calls : Known → ℕ → PlainCall → Known → Reply → Stamp → Type 0
Calls p ordinal call q reply stamp = (between : Known) × IsStill p between × Tries between.view ordinal call q.view (Done reply stamp)

-- a value was read: it is that of the version at the stamp
pub record Reads (old : View Kept) (got : Plain) (stamp : Stamp) (new : View Kept) : Type 0 where
  pub kept : Kept
  pub visits : Visits old stamp.front kept new
  pub value : got ≡ kept.value
  pub position : stamp.position ≡ position_of kept
  pub installed : stamp.installed ≡ false

-- why no value was read
abbrev pub Unread : View Kept → View Kept → PeekFault → Type 0
Unread old new (peeks.Pin fault) = PinRefusal old new fault
Unread old new peeks.Memory = OnlyVisits old new
