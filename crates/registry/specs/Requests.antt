-- What requests to one cell are answered, where threads make them at once.
use Rattle.std.specs.Prelude.{◌≡◌, ℕ, ◌+◌, ◌≤◌, suc, List, [], ◌∷◌, ◌++◌, length, Option, Some}
use mathlib.Core.Option.{some}
use lib.ListN.{get_elem?}
use Rattle.plain_model.specs.declared.plain.Plain.{Plain}
use Rattle.plain_model.specs.declared.commands.PlainCall.{PlainCall}
use Rattle.plain_model.specs.Cell.{cell, after}
use Rattle.registry.specs.declared.requests.Request.{Request}
use Rattle.registry.specs.declared.requests.Request.TheVariants.{Change, Read}
use Rattle.plain_model.specs.declared.history.Reply.{Reply}
use Rattle.plain_model.specs.declared.history.Reply.TheVariants as replies
use Rattle.registry.specs.declared.requests.Told.{Told}
use Rattle.registry.specs.declared.requests.Told.TheVariants as tells
use Rattle.registry.specs.declared.requests.Response.{Response}
use Rattle.registry.specs.declared.requests.Response.TheVariants as responses

-- the list has this element at this place
abbrev pub Has : {A : Type 0} → List A → ℕ → A → Type 0
Has xs place x = get_elem? xs place ≡ some x

-- a reply in short
abbrev pub in_short : Reply → Told
in_short (replies.Value value) = tells.Value value
in_short (replies.Taken value) = tells.Taken value
in_short replies.Missing = tells.Missing
in_short _ = tells.Refused

-- what a collection is as a plain one, and what a change means
module _ {C X : Type 0} (plain : C → Plain) (meaning : X → PlainCall) where
  -- the response is that to the request, made where the cell has this value
  abbrev pub Responds : Request X → Plain → Response C → Type 0
  Responds (Change change) value (responses.Reply reply) = reply ≡ in_short (cell (meaning change) value).reply
  Responds Read value (responses.Value got) = plain got ≡ value
  Responds request value response = ⊥

  -- the value that the cell has after the request
  abbrev pub next : Request X → Plain → Plain
  next (Change change) value = after (meaning change) value
  next Read value = value

  -- The request was made where the history has some value, and the response is that to it. The value after it stands there too, or at the next place
  pub record IsMade (history : List Plain) (request : Request X) (response : Response C) : Type 0 where
    pub place : ℕ
    pub value : Plain
    pub there : Has history place value
    pub responds : Responds request value response
    pub later : ℕ
    pub soon : (place ≤ later) × (later ≤ place + 1)
    pub makes : Has history later (next request value)

  -- Threads made these requests at once, each of them one, and these came of them, where there was memory. There is one history of the cell's values: it goes from the first one to the last one, each request was made at a place of it, and each step is what one of the requests makes
  pub record AreMade (first last : Plain) (requests : List (Request X)) (answers : List (Option (Response C))) : Type 0 where
    pub history : List Plain
    pub opens : Has history 0 first
    pub ends : (before : List Plain) × (history ≡ before ++ last ∷ [])
    pub count : length answers ≡ length requests
    pub each : (k : ℕ) (request : Request X) (response : Response C) → Has requests k request → Has answers k (Some response) → IsMade history request response
    pub steps : (i : ℕ) (value value' : Plain) → Has history i value → Has history (suc i) value' → (k : ℕ) × (request : Request X) × Has requests k request × (value' ≡ next request value)
    pub kinds : (i : ℕ) (value : Plain) → Has history i value → value.kind ≡ first.kind
