-- What a pass did, with the lines of its calls.
use Rattle.std.specs.Prelude.{◌≡◌, ℕ, Bool, true, false, ◌<◌, ◌≤◌, ◌*◌, ◌+◌, ◌++◌, List, [], ◌∷◌, MatchBool, Option, Some, None, is_some, length, map}
use Rattle.std.specs.List.{AllByRecursion}
use Rattle.imm_base.specs.declared.val.Val.{Val}
use Rattle.plain_model.specs.declared.commands.Probe.{Probe}
use Rattle.plain_model.specs.declared.commands.Probe.TheVariants.{Idle, Ran}
use Rattle.plain_model.specs.declared.history.Line.{Line}
use Rattle.plain_model.specs.declared.plain.Plain.{Plain}
use Rattle.plain_model.specs.Cell.{value_in}
use Rattle.plain_model.specs.History.{probe_of}
use Rattle.version_slots.specs.declared.view.Line.{Line as Version}
use Rattle.interlocked.specs.declared.entry.Kept.{Kept}
use Rattle.interlocked.specs.Entries.{added}
use Rattle.interlocked.specs.Known.{Known, IsLater}
use Rattle.interlocked.specs.Rights.{IsInstalled, IsAnswered, Shows}
use Rattle.history_merge.specs.Lines.{installed_of, place_of}
use Rattle.history_merge.specs.Logs.{IsRising, entry_of}

-- the line is right where it stands in a history of versions
abbrev pub StandsIn : List (Version Kept) → Line → Type 0
StandsIn seen l = MatchBool l.installed
    (IsInstalled seen l.caller l.ordinal l.call l.reply l.position)
    (IsAnswered seen l.call l.reply l.position)

-- each line has a lower ordinal than all that follow
abbrev pub HasRisingOrdinals : List Line → Type 0
HasRisingOrdinals [] = Unit {0}
HasRisingOrdinals (l ∷ log) = AllByRecursion (λ m. l.ordinal < m.ordinal) log × HasRisingOrdinals log

-- in the version at this position a key is there, or is not
pub record Looked (seen : List (Version Kept)) (position : ℕ) (key : Val) (there : Bool) : Type 0 where
  pub got : Plain
  pub shown : Shows seen position got
  pub found : is_some (value_in key got) ≡ there

-- A history of versions bears out what a line says of the factory of its call, where that has one: it did not run, and the key is in the value at the line; or it ran, and the key was absent at a position before that of the call
abbrev pub BearsOut : List (Version Kept) → Line → Option (Val × Probe) → Type 0
BearsOut seen l None = Unit {0}
BearsOut seen l (Some (key, Idle)) = Looked seen l.position key true
BearsOut seen l (Some (key, Ran position)) = Looked seen position key false × MatchBool l.installed (position < l.position) (position ≤ l.position)

-- a factory that ran did so since its call looked at a position that is not below k
abbrev pub LooksFrom : ℕ → Option (Val × Probe) → Type 0
LooksFrom k None = Unit {0}
LooksFrom k (Some (key, Idle)) = Unit {0}
LooksFrom k (Some (key, Ran position)) = k ≤ position

-- so it is of each line and the position of the one before it, where the first one is behind the position k
abbrev pub LookOnFrom : ℕ → List Line → Type 0
LookOnFrom k [] = Unit {0}
LookOnFrom k (l ∷ log) = LooksFrom k (probe_of l.call) × LookOnFrom l.position log

-- From one moment to another a pass made the calls of these lines and no others that installed: each line is the pass's, stands right in what the pass has seen, behind all that it had seen before; the lines rise; whether factories ran is borne out by what the pass has seen, and their calls looked behind all that it had seen before
pub record IsLogged (p q : Known) (log : List Line) : Type 0 where
  pub later : IsLater p q
  pub by : AllByRecursion (λ l. l.caller ≡ p.view.number) log
  pub right : AllByRecursion (StandsIn q.view.seen) log
  pub mine : added q.view.mine ≡ added p.view.mine ++ map entry_of (installed_of log)
  pub behind : AllByRecursion (λ l. 2 * length p.view.seen ≤ place_of l + 1) log
  pub rising : IsRising log
  pub ordinals : HasRisingOrdinals log
  pub probed : AllByRecursion (λ l. BearsOut q.view.seen l (probe_of l.call)) log
  pub looks : (k : ℕ) → k < length p.view.seen → LookOnFrom k log
