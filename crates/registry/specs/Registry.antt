-- The registry as a plain map: what it answers to a command, and what a command makes of it.
use Rattle.std.specs.Prelude.{◌≡◌, ◌+◌, ◌≤◌, ℕ, suc, List, [], ◌∷◌, ◌++◌, length, Option, Some, None, if◌then◌else◌}
use Rattle.imm_base.specs.declared.val.Val.{Val}
use Rattle.imm_base.specs.declared.comparers.ValEq.{ValEq}
use Rattle.imm_base.specs.Edits.{is_over}
use Rattle.imm_base.specs.Order.{val_eq}
use Rattle.imm_dictionary.specs.Mapped.{Mapped}
use Rattle.plain_model.specs.declared.commands.Transform.TheVariants.{Set}
use Rattle.plain_model.specs.declared.plain.Plain.{Plain}
use Rattle.plain_model.specs.Cell.{value_in, with_value, without_value}
use Rattle.plain_model.specs.Plain.{count, pairs}
use Rattle.interlocked.specs.declared.dict.DictCall.{DictCall}
use Rattle.interlocked.specs.declared.dict.DictCall.TheVariants as calls
use Rattle.interlocked.specs.Meanings.{dict_plain}
use Rattle.registry.specs.declared.command.Command.{Command}
use Rattle.registry.specs.declared.command.Command.TheVariants as commands
use Rattle.registry.specs.declared.command.Answer.{Answer}
use Rattle.registry.specs.declared.command.Answer.TheVariants as answers
use Rattle.registry.specs.declared.requests.Request.{Request}
use Rattle.registry.specs.declared.requests.Request.TheVariants as requests
use Rattle.registry.specs.declared.requests.Response.{Response}
use Rattle.registry.specs.declared.requests.Response.TheVariants as responses
use Rattle.registry.specs.declared.requests.Told.{Told}
use Rattle.registry.specs.declared.requests.Told.TheVariants as tells
use Rattle.registry.specs.Requests.{Has}

-- ---- a plain map: names with addresses

-- by the address that the name has, if it has one
abbrev pub stored : Plain → Option Val → Answer
stored map (Some old) = answers.Stored
stored map None = if is_over (count map.values + 1) then answers.Full else answers.Stored

abbrev pub dropped : Option Val → Answer
dropped (Some old) = answers.Dropped old
dropped None = answers.Unknown

abbrev pub found : Option Val → Answer
found (Some address) = answers.Found address
found None = answers.Unknown

-- what the map answers to a command
abbrev pub answer : Command → Plain → Answer
answer (commands.Put name address) map = stored map (value_in name map)
answer (commands.Drop name) map = dropped (value_in name map)
answer (commands.Get name) map = found (value_in name map)
answer commands.List map = answers.Listed (pairs map.values)

abbrev pub put : Val → Val → Plain → Option Val → Plain
put name address map (Some old) = if val_eq address old then map else with_value name address map
put name address map None = if is_over (count map.values + 1) then map else with_value name address map

abbrev pub without : Val → Plain → Option Val → Plain
without name map (Some old) = without_value name map
without name map None = map

-- the map after a command
abbrev pub next : Command → Plain → Plain
next (commands.Put name address) map = put name address map (value_in name map)
next (commands.Drop name) map = without name map (value_in name map)
next (commands.Get name) map = map
next commands.List map = map

-- ---- commands that threads serve at once

-- The command was served where the history has some map, and the answer is that of this map. The map after it stands there too, or at the next place
pub record IsServed (history : List Plain) (command : Command) (given : Answer) : Type 0 where
  pub place : ℕ
  pub map : Plain
  pub there : Has history place map
  pub answers : given ≡ answer command map
  pub later : ℕ
  pub soon : (place ≤ later) × (later ≤ place + 1)
  pub makes : Has history later (next command map)

-- There is one history of the registry: it goes from the first map to the last one, each command was served at a place of it, and each step is what one of the commands makes
pub record AreServed (first last : Plain) (asked : List Command) (given : List Answer) : Type 0 where
  pub history : List Plain
  pub opens : Has history 0 first
  pub ends : (before : List Plain) × (history ≡ before ++ last ∷ [])
  pub count : length given ≡ length asked
  pub each : (k : ℕ) (command : Command) (one : Answer) → Has asked k command → Has given k one → IsServed history command one
  pub steps : (i : ℕ) (map map' : Plain) → Has history i map → Has history (suc i) map' → (k : ℕ) × (command : Command) × Has asked k command × (map' ≡ next command map)

-- ---- how a command is served by a cell

abbrev pub request_of : Command → Request DictCall
request_of (commands.Put name address) = requests.Change (calls.AddOrUpdate name address (Set address))
request_of (commands.Drop name) = requests.Change (calls.TryRemove name)
request_of (commands.Get name) = requests.Read
request_of commands.List = requests.Read

-- what a reply to a change tells
abbrev pub told : Told → Answer
told (tells.Value address) = answers.Stored
told (tells.Taken address) = answers.Dropped address
told tells.Missing = answers.Unknown
told tells.Refused = answers.Full

-- what a command tells of a registry that it has read
abbrev pub looked_up : Command → Mapped Val Val ValEq → Answer
looked_up (commands.Get name) map = found (value_in name (dict_plain map))
looked_up _ map = answers.Listed map.pairs

abbrev pub answer_to : Command → Response (Mapped Val Val ValEq) → Answer
answer_to command (responses.Reply reply) = told reply
answer_to command (responses.Value map) = looked_up command map

-- what a command was answered, where this came of its request
abbrev pub IsAnswerTo : Command → Option (Response (Mapped Val Val ValEq)) → Answer → Type 0
IsAnswerTo command came one = (response : Response (Mapped Val Val ValEq)) × (came ≡ Some response) × (one ≡ answer_to command response)

-- each of these answers is that to what came of the request of its number
pub record AreAnswers (asked : List Command) (came : List (Option (Response (Mapped Val Val ValEq)))) (given : List Answer) : Type 0 where
  pub each : (k : ℕ) (command : Command) (some : Option (Response (Mapped Val Val ValEq))) (one : Answer) → Has asked k command → Has came k some → Has given k one → IsAnswerTo command some one
