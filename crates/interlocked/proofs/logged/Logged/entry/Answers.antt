use Rattle.std.proofs.Common.{◌≡◌, ℕ, ◌+◌, ◌-◌, ◌<◌, ◌≤◌, List, map, reverse, length, Option, Some, None, option_map, slice_get, sym, refl, ap, ◌∙◌, arith}
use Rattle.std.specs.Option.{option_copied}
use Rattle.interlocked.specs.declared.entry.Entry.{Entry}
use Rattle.interlocked.specs.Entries.{entry}
use Rattle.interlocked.proofs.Entries.{found_at, none_at, copied_map}
use Rattle.interlocked.proofs.logged.Logged.entry.Goals as goal

pub returns-in-Some : goal.returns-in-Some
returns-in-Some g c = let f = λ (e : Entry g.row.X.Denot). entry e.caller e.ordinal (g.X.Change.meaning e.call) in let xs : List (Entry g.row.X.Denot) = c.args.self.now.entries in
    let count = c.count.ensures.count in let some_position = c.if-position-eq0.false in let sub = c.in-Some.ensures in
    let place : c.in-Some.index ≡ length xs - c.args.position = sub.1 ∙ ap (λ (n : ℕ). n - c.args.position) count in let near = sub.0 in
    copied_map f c.at.result ∙ (ap (option_map f) c.at.ensures ∙ (ap (λ (i : ℕ). option_map f (slice_get xs i)) place ∙ found_at f xs c.args.position (omega arith) (omega arith)))

pub returns-in-None : goal.returns-in-None
returns-in-None g c = let f = λ (e : Entry g.row.X.Denot). entry e.caller e.ordinal (g.X.Change.meaning e.call) in let xs : List (Entry g.row.X.Denot) = c.args.self.now.entries in
    let count = c.count.ensures.count in let far = c.in-None.ensures in none_at f xs c.args.position (let e : length xs < c.args.position = omega arith in e)
