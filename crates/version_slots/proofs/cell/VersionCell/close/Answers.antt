use Rattle.std.proofs.Common.{arith, ℕ, ◌*◌, map, sym, ap, ◌∙◌, subst}
use Rattle.std.specs.Mem.Slots.{slots_items, slots_counts}
use mathlib.Core.Option.{some}
use lib.ListN.{get_elem?}
use Rattle.version_slots.specs.declared.view.View.{View}
use Rattle.version_slots.specs.declared.tokens.Pass.{Pass}
use Rattle.version_slots.specs.Closing.{Closing}
use Rattle.version_slots.specs.Cells.{AreAll}
use Rattle.version_slots.proofs.Rows.{map_at}
use Rattle.version_slots.proofs.Closes.{closes, all_names, word_at, ends_as, some_length}
use Rattle.version_slots.proofs.cell.VersionCell.close.Given as given
use Rattle.version_slots.proofs.cell.VersionCell.close.Goals as goal

pub gather-seat-requires-clause-some_pass : goal.gather-seat-requires-clause-some_pass
gather-seat-requires-clause-some_pass g c = let B : Type 0 = Pass g.row.P.Denot g.row.P-Plain.Denot g.P.Payload in
    let t = c.requires.all 1 (omega arith) (let few = c.args.self.few in omega arith) in let p = map_at (λ (p : B). p.place.me.0) c.args.passes.items t.0 t.1 t.2 in some_length c.args.passes.items t.0 p.0 p.1

-- what the closed table has
ended : (g : given.Over) (c : goal.After-close_with-board g)
    → Closing g.P.Payload.plain g.P.Payload.follows c.args.self.table.shared.key.passes (g.P.Payload.plain c.args.self.table.shared.key.payload.value) c.gather-seat.result.me.0 (slots_items c.close_with-board.result.words) (slots_items c.close_with-board.result.slots)
ended g c = let all : AreAll c.args.self.table.shared.key.passes _ = subst (λ (n : ℕ). AreAll n (map (λ (p : Pass g.row.P.Denot g.row.P-Plain.Denot g.P.Payload). p.place.me.0) c.args.passes.items)) c.args.self.key c.requires.all in
    closes g.P.Payload.plain g.P.Payload.follows c.args.self.table.shared.key.passes (g.P.Payload.plain c.args.self.table.shared.key.payload.value) c.gather-seat.result.id c.gather-seat.result.me.0 _ _
    c.gather-seat.ensures.seat.1.1 (all_names _ _ c.gather-seat.result.me.0 c.gather-seat.ensures.all all) c.close_with-board.ensures.values.2

pub take_last-requires-clause-last : goal.take_last-requires-clause-last
take_last-requires-clause-last g c = let k = ended g c in let counts = (slots_counts c.close_with-board.result.words).0 in let words = c.args.self.words in let places = c.close_with-board.ensures.counts.0 in (
  k.last.ticket,
  k.last.slot,
  k.payload,
  word_at (slots_items c.close_with-board.result.words) 0 (omega arith) ∙ ap (λ (n : ℕ). some n) k.head,
  k.near,
  ap (λ (n : ℕ). get_elem? (slots_items c.close_with-board.result.slots) (k.last.slot * n)) c.args.self.key ∙ k.there,
)

pub returns-clause-last : goal.returns-clause-last
returns-clause-last g c = let B : Type 0 = Pass g.row.P.Denot g.row.P-Plain.Denot g.P.Payload in let k = ended g c.before in
    let all : AreAll c.args.self.table.shared.key.passes _ = subst (λ (n : ℕ). AreAll n (map (λ (p : B). p.place.me.0) c.args.passes.items)) c.args.self.key c.requires.all in
    ends_as g.P.Payload.plain g.P.Payload.follows c.args.self.table.shared.key.passes _ c.gather-seat.result.me.0 _ _ k (map (λ (p : B). p.place.me.0) c.args.passes.items) c.take_last.result.front c.take_last.result.payload
    c.gather-seat.ensures.all
    (λ i w e z. let t = map_at (λ (p : B). p.place.me.0) c.args.passes.items i w e in t.0.some_number (sym t.0.numbered ∙ (ap (λ (v : View g.row.P-Plain.Denot). v.number) t.2 ∙ z)))
    all c.take_last.ensures.front.0 c.take_last.ensures.front.1
    (ap (λ (n : ℕ). get_elem? (slots_items c.close_with-board.result.slots) (c.take_last.result.front.slot * n)) (sym c.args.self.key) ∙ c.take_last.ensures.payload)
