-- What one thread does with its pass.
use Rattle.std.specs.Prelude.{◌≡◌, ◌⊎◌, ℕ, ◌<◌, List, [], ◌∷◌, ◌++◌, length, map, slice_index_or, MatchOption, Option, None}
use Rattle.plain_model.specs.declared.plain.Plain.{Plain}
use Rattle.plain_model.specs.declared.commands.PlainCall.{PlainCall}
use Rattle.version_slots.specs.declared.view.Line.{Line}
use Rattle.version_slots.specs.declared.view.View.{View}
use Rattle.interlocked.specs.declared.entry.Kept.{Kept}
use Rattle.interlocked.specs.Entries.{entry, added}
use Rattle.version_slots.specs.declared.tokens.Front.{Front}
use Rattle.interlocked.specs.Known.{Known, Shared}
use Rattle.interlocked.specs.Whole.{EndsWhole, new_passes}
use Rattle.registry.specs.declared.requests.Request.{Request}
use Rattle.registry.specs.declared.requests.Request.TheVariants.{Change}
use Rattle.registry.specs.declared.requests.Response.{Response}
use Rattle.registry.specs.declared.requests.Seat.{Seat}
use Rattle.registry.specs.Requests.{Has, IsMade}

-- a pass at its seat, where nothing is answered yet
abbrev pub seat : {C : Type 0} → Known → Seat Known (Response C)
seat pass = record { pass = pass; response = None }

-- the values of these versions
abbrev pub values : List (Line Kept) → List Plain
values lines = map (λ (l : Line Kept). l.value.value) lines

module _ {C X : Type 0} (plain : C → Plain) (meaning : X → PlainCall) where
  -- the pass installed nothing further, or once, by this request
  abbrev pub AddsAtMost : Request X → View Kept → View Kept → Type 0
  AddsAtMost request old new =
      (added new.mine ≡ added old.mine)
      ⊎ ((change : X) × (request ≡ Change change) × (added new.mine ≡ added old.mine ++ entry old.number 1 (meaning change) ∷ []))

  -- A request was made by this pass, or there was no memory. What it was answered stands in what the pass has seen
  pub record Makes (request : Request X) (p q : Known) (response : Option (Response C)) : Type 0 where
    pub table : q.table ≡ p.table
    pub number : q.view.number ≡ p.view.number
    pub adds : AddsAtMost request p.view q.view
    pub made : MatchOption response (Unit {0}) (λ r. IsMade plain meaning (values q.view.seen) request r)

  -- the request of this number was made at this seat
  pub record MadeAt (requests : List (Request X)) (index : ℕ) (old new : Seat Known (Response C)) : Type 0 where
    pub made : (request : Request X) → Has requests index request → Makes request old.pass new.pass new.response

  -- Each request was made at a seat of its own by a pass of the cell that was new, and these are the passes then and what they were answered
  pub record AllMade (cell : Shared) (requests : List (Request X)) (passes : List Known) (responses : List (Option (Response C))) : Type 0 where
    pub olds : List (Seat Known (Response C))
    pub news : List (Seat Known (Response C))
    pub many : length requests ≡ cell.passes
    pub start : olds ≡ map seat (new_passes cell.table cell.passes cell.first)
    pub same : length news ≡ length olds
    pub each : (k : ℕ) (d : Seat Known (Response C)) → k < length olds → MadeAt requests k (slice_index_or olds k d) (slice_index_or news k d)
    pub their_passes : passes ≡ map (λ (s : Seat Known (Response C)). s.pass) news
    pub their_responses : responses ≡ map (λ (s : Seat Known (Response C)). s.response) news

-- A cell that began with `first` ended with this value, where these are its passes
pub record EndsWith (first : Kept) (views : List (View Kept)) (last : Plain) : Type 0 where
  pub front : Front
  pub kept : Kept
  pub whole : EndsWhole first views front kept
  pub value : last ≡ kept.value
