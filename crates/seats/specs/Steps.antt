-- One call of a worker, and its line.
use Rattle.std.specs.Prelude.{◌≡◌, ℕ, ◌+◌, ◌<◌, ◌++◌, List, [], ◌∷◌, Option, map}
use Rattle.plain_model.specs.declared.commands.PlainCall.{PlainCall}
use Rattle.plain_model.specs.declared.history.Line.{Line}
use Rattle.plain_model.specs.declared.history.Reply.{Reply}
use Rattle.plain_model.specs.declared.plain.Kind.{Kind}
use Rattle.plain_model.specs.declared.plain.Plain.{Plain}
use Rattle.plain_model.specs.History.{numbered}
use Rattle.interlocked.specs.declared.answers.Stamp.{Stamp}
use Rattle.interlocked.specs.Called.{IsDone}
use Rattle.interlocked.specs.Known.{Known, Shared}
use Rattle.runs.specs.Notes.{Makes}
use Rattle.seats.specs.declared.places.Places.{Places}
use Rattle.seats.specs.Seats.{Seated, IsReadyFor, IsLineOf, CallsAt}

abbrev pub seated : List Shared → Places → Seated
seated cells p = record { cells = cells; passes = p.passes.items; logs = p.logs.items; last = p.last }

-- the kinds of the cells
abbrev pub kinds_in : List Known → List Kind
kinds_in passes = map (λ p. p.kind) passes

-- the line of a call with this stamp
abbrev pub stamped_line : ℕ → ℕ → PlainCall → Reply → Stamp → Line
stamped_line caller o call reply stamp = record {
  position = stamp.position;
  caller = caller;
  ordinal = o;
  call = call;
  reply = reply;
  installed = stamp.installed;
}

-- a pass did this call, and its line stands behind the log
pub record IsDoneAndNoted (p : Known) (log : List Line) (o : ℕ) (call : PlainCall) (q : Known) (log' : List Line) : Type 0 where
  pub reply : Reply
  pub stamp : Stamp
  pub done : IsDone p o call q reply stamp
  pub grown : log' ≡ log ++ stamped_line p.view.number o call reply stamp ∷ []

-- a pass made this call, or read this value, and the log has one line more
pub record IsCalled (p : Known) (log : List Line) (o : ℕ) (call : PlainCall) (read : Option Plain) (q : Known) (log' : List Line) : Type 0 where
  pub line : Line
  pub is_numbered : numbered line ≡ record { ordinal = o; call = call }
  pub grown : log' ≡ log ++ line ∷ []
  pub below : q.last < o + 1
  pub is : IsLineOf p q line read

-- so did the worker on the cell at a place, and may go on
pub record HasCalledAt (s : Seated) (place o : ℕ) (call : PlainCall) (read : Option Plain) (t : Seated) : Type 0 where
  pub kinds : kinds_in t.passes ≡ kinds_in s.passes
  pub ready : IsReadyFor t (o + 1)
  pub makes : Makes CallsAt s place o call read t
