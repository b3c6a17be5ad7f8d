-- What a call whose value is made by a factory tells of its look.
use Rattle.std.specs.Prelude.{◌≡◌, ℕ, ◌+◌, ◌<◌, ◌≤◌, MatchBool, length, Option, Some, None}
use Rattle.imm_base.specs.declared.val.Val.{Val}
use Rattle.plain_model.specs.declared.plain.Plain.{Plain}
use Rattle.plain_model.specs.declared.commands.Probe.{Probe}
use Rattle.plain_model.specs.declared.commands.Probe.TheVariants.{Idle, Ran}
use Rattle.plain_model.specs.declared.history.Reply.{Reply}
use Rattle.plain_model.specs.declared.history.Reply.TheVariants.{Value}
use Rattle.plain_model.specs.Cell.{value_in}
use Rattle.interlocked.specs.declared.answers.Stamp.{Stamp}
use Rattle.interlocked.specs.Called.{IsRead}
use Rattle.interlocked.specs.Known.{Known}
use Rattle.interlocked.specs.Rights.{Shows}
use Rattle.interlocked.specs.Updates.{IsMap}

-- A read whose value is that of this key, if it has one
pub record Looks (p : Known) (key : Val) (found : Option Val) (q : Known) (stamp : Stamp) : Type 0 where
  pub got : Plain
  pub read : IsRead p got q stamp
  pub map : IsMap got
  pub value : value_in key got ≡ found

-- The factory did not run: the key was found in the value at the stamp, and the reply is its value there
pub record FoundAt (key : Val) (reply : Reply) (q : Known) (stamp : Stamp) : Type 0 where
  pub got : Plain
  pub there : Shows q.view.seen stamp.position got
  pub value : Val
  pub present : value_in key got ≡ Some value
  pub reply_is : reply ≡ Value value

-- The factory ran, since the call looked first and the key was absent at this position: that is not before what the pass had seen, not after the call's own place, and before it where the call installed
pub record RanAt (p : Known) (key : Val) (position : ℕ) (q : Known) (stamp : Stamp) : Type 0 where
  pub got : Plain
  pub there : Shows q.view.seen position got
  pub absent : value_in key got ≡ None
  pub behind : length p.view.seen ≤ position + 1
  pub before : MatchBool stamp.installed (position < stamp.position) (position ≤ stamp.position)

-- whether the factory ran, and where the call looked
abbrev pub Probes : Known → Val → Reply → Known → Stamp → Probe → Type 0
Probes p key reply q stamp Idle = FoundAt key reply q stamp
Probes p key reply q stamp (Ran position) = RanAt p key position q stamp
