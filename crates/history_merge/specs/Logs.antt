-- What each caller of a cell wrote down, and how it is put together.
use Rattle.std.specs.Prelude.{◌≡◌, ℕ, Bool, ◌+◌, ◌-◌, ◌<◌, ◌≤◌, ◌==◌, true, false, if◌then◌else◌, List, [], ◌∷◌, length, map, filter, take, Some, slice_get, slice_index_or, MatchBool, fold}
use Rattle.std.specs.List.{AllByRecursion}
use Rattle.interlocked.specs.declared.entry.Entry.{Entry}
use Rattle.interlocked.specs.Whole.{made}
use Rattle.plain_model.specs.declared.plain.Plain.{Plain}
use Rattle.plain_model.specs.declared.commands.PlainCall.{PlainCall}
use Rattle.plain_model.specs.declared.history.Line.{Line}
use Rattle.plain_model.specs.History.{FitsFrom, InOrder, last_value, value_at}
use Rattle.history_merge.specs.Lines.{installs, reply_of, lines_by, installed_of, is_below}

abbrev pub entry_of : Line → Entry PlainCall
entry_of l = record { caller = l.caller; ordinal = l.ordinal; call = l.call }

-- what the first entries, so many of them, make of the first value
abbrev pub made_at : Plain → List (Entry PlainCall) → ℕ → Plain
made_at first entries position = made first (take position entries)

-- the line's entry stands before its position, and the line has the mark and the reply of the value there
pub record IsInstalled (first : Plain) (entries : List (Entry PlainCall)) (l : Line) : Type 0 where
  pub above : 0 < l.position
  pub entry : slice_get entries (l.position - 1) ≡ Some (entry_of l)
  pub mark : installs l.call (made_at first entries (l.position - 1)) ≡ true
  pub reply : l.reply ≡ reply_of l.call (made_at first entries (l.position - 1))

-- the line changed nothing at its position, and has the mark and the reply of the value there
pub record IsAnswered (first : Plain) (entries : List (Entry PlainCall)) (l : Line) : Type 0 where
  pub within : l.position ≤ length entries
  pub mark : installs l.call (made_at first entries l.position) ≡ false
  pub reply : l.reply ≡ reply_of l.call (made_at first entries l.position)

abbrev pub IsRight : Plain → List (Entry PlainCall) → Line → Type 0
IsRight first entries l = MatchBool l.installed (IsInstalled first entries l) (IsAnswered first entries l)

-- each line is below all that follow
abbrev pub IsRising : List Line → Type 0
IsRising [] = Unit {0}
IsRising (x ∷ xs) = AllByRecursion (λ y. is_below x y ≡ true) xs × IsRising xs

abbrev pub entries_by : ℕ → List (Entry PlainCall) → List (Entry PlainCall)
entries_by caller es = filter (λ e. e.caller == caller) es

-- what one caller wrote down: each line is right and the caller's, they rise, and those that installed are the caller's entries
pub record IsLog (first : Plain) (entries : List (Entry PlainCall)) (caller : ℕ) (log : List Line) : Type 0 where
  pub mine : map entry_of (installed_of log) ≡ entries_by caller entries
  pub by : AllByRecursion (λ l. l.caller ≡ caller) log
  pub right : AllByRecursion (IsRight first entries) log
  pub rising : IsRising log

-- the logs of the callers 1, 2 and so on, and the entries have no other callers
pub record AreLogs (first : Plain) (entries : List (Entry PlainCall)) (logs : List (List Line)) : Type 0 where
  pub each : (k : ℕ) → k < length logs → IsLog first entries (k + 1) (slice_index_or logs k [])
  pub callers : AllByRecursion (λ e. (0 < e.caller) × (e.caller ≤ length logs)) entries

-- x goes before what is above it, and then comes the rest
abbrev pub weave_in : Line → (List Line → List Line) → List Line → List Line
weave_in x rest [] = x ∷ rest []
weave_in x rest (y ∷ ys) = if is_below y x then y ∷ weave_in x rest ys else x ∷ rest (y ∷ ys)

-- two lists put together, each time the lower of the two first lines
abbrev pub weave : List Line → List Line → List Line
weave [] = λ ys. ys
weave (x ∷ xs) = weave_in x (weave xs)

abbrev pub woven : List (List Line) → List Line
woven logs = fold weave [] logs

-- one history of all callers: each line fits, they are in order, each position has what the entries up to it make, each caller's log stands whole, and there are no other lines
pub record IsMerged (first : Plain) (entries : List (Entry PlainCall)) (logs : List (List Line)) (lines : List Line) : Type 0 where
  pub steps : FitsFrom first 0 lines
  pub order : InOrder lines
  pub last : last_value first lines ≡ made first entries
  pub values : (k : ℕ) → k ≤ length entries → value_at first lines k ≡ made_at first entries k
  pub whole : (k : ℕ) → k < length logs → lines_by (k + 1) lines ≡ slice_index_or logs k []
  pub callers : AllByRecursion (λ l. (0 < l.caller) × (l.caller ≤ length logs)) lines
  pub all : (test : Line → Bool) → ((k : ℕ) → k < length logs → AllByRecursion (λ l. test l ≡ true) (slice_index_or logs k [])) → AllByRecursion (λ l. test l ≡ true) lines
