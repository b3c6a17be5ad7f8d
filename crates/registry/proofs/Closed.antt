-- What the calls of all threads come to, from the new passes to the end of the cell.
use Rattle.std.proofs.Common.{◌≡◌, ℕ, ◌<◌, All, List, Option, length, map, get_or, sym, ap, ◌∙◌, subst}
use Rattle.plain_model.specs.declared.plain.Plain.{Plain}
use Rattle.plain_model.specs.declared.commands.PlainCall.{PlainCall}
use Rattle.atomic_table.specs.Seated.{TableId}
use Rattle.version_slots.specs.Cells.{AreAll}
use Rattle.version_slots.specs.Views.{counting}
use Rattle.interlocked.specs.declared.entry.Entry.{Entry}
use Rattle.interlocked.specs.declared.entry.Kept.{Kept}
use Rattle.interlocked.specs.Known.{Known, Shared}
use Rattle.interlocked.specs.Whole.{EndsWhole, new_pass, new_passes}
use Rattle.registry.specs.declared.requests.Request.{Request}
use Rattle.registry.specs.declared.requests.Response.{Response}
use Rattle.registry.specs.declared.requests.Seat.{Seat}
use Rattle.registry.specs.Requests.{AreMade}
use Rattle.registry.specs.Seats.{AllMade, EndsWith, MadeAt, seat}
use Rattle.registry.proofs.Places.{counts, map_length}
use Rattle.registry.proofs.Whole.{long, all_new, all_of_cell, are_all, are_made}

-- the passes of a cell, where its number of passes and its first version have other names
pub renamed : (table : TableId) (n m : ℕ) (first other : Kept) (passes : List Known) → passes ≡ new_passes table n first → m ≡ n → other ≡ first → passes ≡ new_passes table m other
renamed table n m first other passes are count same = are ∙ (ap (λ (k : ℕ). new_passes table k first) (sym count) ∙ ap (λ (k : Kept). new_passes table m k) (sym same))

pub passes_long : (table : TableId) (n : ℕ) (first : Kept) (passes : List Known) → passes ≡ new_passes table n first → length passes ≡ n
passes_long table n first passes new = ap length new ∙ (map_length (new_pass table n first) (counting 1 n) ∙ counts 1 n)

module _ {C : Type 0} (cell : Shared) (passes : List Known) (new : passes ≡ new_passes cell.table cell.passes cell.first) (olds : List (Seat Known (Response C))) (seats : olds ≡ map (λ (p : Known). seat p) passes) where
  start : olds ≡ map (λ (p : Known). seat p) (new_passes cell.table cell.passes cell.first)
  start = seats ∙ ap (map (λ (p : Known). seat p)) new

  pub seats_long : length olds ≡ cell.passes
  seats_long = long cell.table cell.passes cell.first olds start

  pub seats_new : All (λ (s : Seat Known (Response C)). (s.pass.table ≡ cell.table) × (s.pass.last ≡ 0)) olds
  seats_new = all_new cell.table cell.passes cell.first olds start

  pub all_made : {X : Type 0} (plain : C → Plain) (meaning : X → PlainCall) (requests : List (Request X)) (news : List (Seat Known (Response C))) (after : List Known) (responses : List (Option (Response C))) → length requests ≡ cell.passes
      → length news ≡ length olds → ((k : ℕ) (d : Seat Known (Response C)) → k < length olds → MadeAt plain meaning requests k (get_or olds k d) (get_or news k d))
      → after ≡ map (λ (s : Seat Known (Response C)). s.pass) news → responses ≡ map (λ (s : Seat Known (Response C)). s.response) news → AllMade plain meaning cell requests after responses
  all_made plain meaning requests news after responses many same each back came =
      record { olds = olds; news = news; many = many; start = start; same = same; each = each; their_passes = back; their_responses = came }

module _ {C X : Type 0} (plain : C → Plain) (meaning : X → PlainCall) (cell : Shared) (requests : List (Request X)) (passes : List Known) (responses : List (Option (Response C))) (h : AllMade plain meaning cell requests passes responses) where
  pub of_cell : All (λ (p : Known). p.table ≡ cell.table) passes
  of_cell = subst (λ (l : List Known). All (λ (p : Known). p.table ≡ cell.table) l) (sym h.their_passes) (all_of_cell cell.table cell.passes cell.first h.olds h.start plain meaning requests h.many h.news h.same h.each)

  pub all_numbers : AreAll cell.passes (map (λ (p : Known). p.view) passes)
  all_numbers = subst (λ (l : List Known). AreAll cell.passes (map (λ (p : Known). p.view) l)) (sym h.their_passes) (are_all cell.table cell.passes cell.first h.olds h.start plain meaning requests h.many h.news h.same h.each)

  whole : (last : Plain) → EndsWith cell.first (map (λ (p : Known). p.view) passes) last → AreMade plain meaning cell.first.value last requests responses
  whole last e =
      are_made cell.table cell.passes cell.first h.olds h.start plain meaning requests h.many h.news h.same h.each e.front e.kept
      (subst (λ (l : List Known). EndsWhole cell.first (map (λ (p : Known). p.view) l) e.front e.kept) h.their_passes e.whole) responses h.their_responses last e.value

  pub whole_made : (value last : Plain) (entries : List (Entry PlainCall)) → cell.first ≡ record { value = value; entries = entries } → EndsWith cell.first (map (λ (p : Known). p.view) passes) last
      → AreMade plain meaning value last requests responses
  whole_made value last entries begins e = subst (λ (k : Kept). AreMade plain meaning k.value last requests responses) begins (whole last e)
