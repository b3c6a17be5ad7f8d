-- A worker's seat at cells that several workers share: a pass and a log for each.
use Rattle.std.specs.Prelude.{◌≡◌, ℕ, ◌<◌, ◌++◌, List, [], ◌∷◌, Some, None, Option, IfSome, length, slice_index_or, slice_set}
use Rattle.imm_base.specs.declared.val.Val.{Val}
use Rattle.plain_model.specs.declared.commands.Probe.{Probe}
use Rattle.plain_model.specs.declared.plain.Plain.{Plain}
use Rattle.plain_model.specs.declared.history.Line.{Line}
use Rattle.plain_model.specs.declared.history.Reply.{Reply}
use Rattle.plain_model.specs.History.{probe_of}
use Rattle.interlocked.specs.declared.answers.Stamp.{Stamp}
use Rattle.interlocked.specs.Factories.{Probes}
use Rattle.interlocked.specs.Known.{Known, Shared, IsLater}
use Rattle.interlocked.specs.Rights.{Made, Shows}
use Rattle.runs.specs.Notes.{Note}

-- the cells, the worker's pass and log of each, and the ordinal of its last call or read
pub record Seated : Type 0 where
  pub cells : List Shared
  pub passes : List Known
  pub logs : List (List Line)
  pub last : ℕ

-- each pass is of the cell at its place and has made no call from this ordinal on, and each has a log
pub record IsReadyFor (s : Seated) (o : ℕ) : Type 0 where
  pub passes : length s.passes ≡ length s.cells
  pub logs : length s.logs ≡ length s.cells
  pub table : (k : ℕ) (p : Known) (c : Shared) → k < length s.cells → (slice_index_or s.passes k p).table ≡ (slice_index_or s.cells k c).table
  pub below : (k : ℕ) (p : Known) → k < length s.cells → (slice_index_or s.passes k p).last < o
  pub last : s.last < o

-- whether the factory of a call ran, where it has one, and where the call looked
abbrev pub HasProbed : Known → Reply → Known → Stamp → Option (Val × Probe) → Type 0
HasProbed p reply q stamp None = Unit {0}
HasProbed p reply q stamp (Some (key, probe)) = Probes p key reply q stamp probe

-- a pass made the call of this line, or the read with this value
pub record IsLineOf (p q : Known) (l : Line) (read : Option Plain) : Type 0 where
  pub stamp : Stamp
  pub later : IsLater p q
  pub position : stamp.position ≡ l.position
  pub installed : stamp.installed ≡ l.installed
  pub caller : l.caller ≡ p.view.number
  pub made : Made p.view q.view l.ordinal l.call l.reply stamp
  pub probe : HasProbed p l.reply q stamp (probe_of l.call)
  pub value : IfSome read (Shows q.view.seen l.position)

-- one call or read on the cell at a place: its line stands behind those of the log there
pub record CallsAt (s : Seated) (n : Note) (t : Seated) : Type 0 where
  pub before : Known
  pub after : Known
  pub log : List Line
  pub within : n.place < length s.cells
  pub pass_at : before ≡ slice_index_or s.passes n.place before
  pub log_at : log ≡ slice_index_or s.logs n.place log
  pub line : IsLineOf before after n.line n.value
  pub above : s.last < n.line.ordinal
  pub next : t ≡ record {
    cells = s.cells;
    passes = slice_set s.passes n.place after;
    logs = slice_set s.logs n.place (log ++ n.line ∷ []);
    last = n.line.ordinal;
  }
