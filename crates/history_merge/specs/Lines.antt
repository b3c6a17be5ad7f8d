-- Lines of a history, and their order.
use Rattle.std.specs.Prelude.{ℕ, ◌+◌, ◌*◌, ◌==◌, Bool, ◌||◌, ◌&&◌, if◌then◌else◌, List, nat_lt, filter, is_some}
use Rattle.plain_model.specs.declared.plain.Plain.{Plain}
use Rattle.plain_model.specs.declared.commands.PlainCall.{PlainCall}
use Rattle.plain_model.specs.declared.history.Line.{Line}
use Rattle.plain_model.specs.declared.history.Reply.{Reply}
use Rattle.plain_model.specs.Cell.{cell}

-- whether a call installs at a value
abbrev pub installs : PlainCall → Plain → Bool
installs call p = is_some (cell call p).installs

-- its reply there
abbrev pub reply_of : PlainCall → Plain → Reply
reply_of call p = (cell call p).reply

-- the lines of one caller
abbrev pub lines_by : ℕ → List Line → List Line
lines_by caller ls = filter (λ l. l.caller == caller) ls

-- those that installed
abbrev pub installed_of : List Line → List Line
installed_of ls = filter (λ l. l.installed) ls

-- twice the position, and 1 more where the call did not install
abbrev pub place_of : Line → ℕ
place_of l = 2 * l.position + (if l.installed then 0 else 1)

-- by position, what installed first, then by caller and ordinal
abbrev pub is_below : Line → Line → Bool
is_below x y = nat_lt (place_of x) (place_of y)
    || ((place_of x == place_of y) && (nat_lt x.caller y.caller || ((x.caller == y.caller) && nat_lt x.ordinal y.ordinal)))
