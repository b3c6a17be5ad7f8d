use Rattle.std.proofs.Common.{rules, ◌≡◌, List, [], ◌∷◌, ◌++◌, map, sym, ap, ◌∙◌, subst, append_assoc, Some}
use Rattle.std.proofs.lemmas.List.Elements.{All-pop}
use Rattle.version_slots.specs.declared.view.View.{View}
use Rattle.version_slots.specs.declared.tokens.Pass.{Pass}
use Rattle.version_slots.specs.Views.{joined}
use Rattle.version_slots.specs.Tokens.{hand_at}
use Rattle.version_slots.specs.Cells.{IsIdle, AreIn, olds_of}
use Rattle.version_slots.proofs.Shares.{joins}
use Rattle.version_slots.proofs.Gathers.{first_in, next_in}
use Rattle.version_slots.proofs.closing.gather.Goals as goal

pub loop-pass-init : goal.loop-pass-init
loop-pass-init g c = let V : Type 0 = View g.row.P-Plain.Denot in let B : Type 0 = Pass g.row.P.Denot g.row.P-Plain.Denot g.P.Payload in
    let items = c.in-Some.ensures.items in let last : B = c.in-Some.last in let same : c.into_place-seat.result ≡ last.place = c.into_place-seat.ensures in
    let view : c.into_place-seat.result.me.0 ≡ last.place.me.0 = ap (λ p. p.me.0) same in
    let tables = All-pop (λ (p : B). p.place.table_id ≡ c.args.top.now.table_id) c.args.passes.items c.pop.new.self.items (Some last) items c.requires.table.1 in
    let idle = All-pop (λ (p : B). IsIdle p.place.me.0) c.args.passes.items c.pop.new.self.items (Some last) items c.requires.idle in record {
      table = ap (λ p. p.table_id) same ∙ tables.1;
      idle = subst (λ (v : V). IsIdle v) (sym view) idle.1;
      tables = tables.0;
      others_idle = idle.0;
      all = (last ∷ [], items, first_in c.into_place-seat.result.me.0 last.place.me.0 view);
    }

pub join_seat-requires : goal.join_seat-requires
join_seat-requires g c = let V : Type 0 = View g.row.P-Plain.Denot in let B : Type 0 = Pass g.row.P.Denot g.row.P-Plain.Denot g.P.Payload in
    let inv = c.loop-pass.invariant in let items = c.in-Some-pop.ensures.items in let pass : B = c.in-Some-pop.pass in let same : c.into_place.result ≡ pass.place = c.into_place.ensures in
    let tables = All-pop (λ (p : B). p.place.table_id ≡ c.args.top.now.table_id) c.loop-pass.passes.items c.pop-in-loop-pass.new.self.items (Some pass) items inv.tables in
    let idle = (All-pop (λ (p : B). IsIdle p.place.me.0) c.loop-pass.passes.items c.pop-in-loop-pass.new.self.items (Some pass) items inv.others_idle).1 in (
      inv.table,
      ap (λ p. p.table_id) same ∙ tables.1,
      ap (λ p. p.me.1) same ∙ (pass.hand ∙ ap (hand_at pass.place.me.0.passes pass.place.me.0.number) idle.1),
      c.requires.table.0,
      joins g.P.Payload.plain g.P.Payload.follows _ _ _ _ _ _ (ap (λ p. p.me.0.hold) same ∙ idle.0) (ap (λ p. p.me.0.pin) same ∙ idle.1),
    )

pub loop-pass-preserved : goal.loop-pass-preserved
loop-pass-preserved g c = let V : Type 0 = View g.row.P-Plain.Denot in let B : Type 0 = Pass g.row.P.Denot g.row.P-Plain.Denot g.P.Payload in
    let inv = c.loop-pass.invariant in let items = c.in-Some-pop.ensures.items in let pass : B = c.in-Some-pop.pass in let same : c.into_place.result ≡ pass.place = c.into_place.ensures in
    let tables = All-pop (λ (p : B). p.place.table_id ≡ c.args.top.now.table_id) c.loop-pass.passes.items c.pop-in-loop-pass.new.self.items (Some pass) items inv.tables in
    let idle = All-pop (λ (p : B). IsIdle p.place.me.0) c.loop-pass.passes.items c.pop-in-loop-pass.new.self.items (Some pass) items inv.others_idle in
    let v : V = c.loop-pass.seat.me.0 in let view : c.join_seat.new.seat.me.0 ≡ joined v pass.place.me.0 = ap (λ m. m.0) c.join_seat.ensures.2 ∙ ap (λ p. joined v p.me.0) same in
    let done : List B = inv.all.0 in record {
      table = c.join_seat.ensures.0 ∙ inv.table;
      idle = subst (λ (u : V). IsIdle u) (sym view) inv.idle;
      tables = tables.0;
      others_idle = idle.0;
      all = (
        pass ∷ done,
        inv.all.1 ∙ (ap (λ (l : List B). l ++ done) items ∙ append_assoc c.pop-in-loop-pass.new.self.items (pass ∷ []) done),
        subst (λ (u : V). AreIn (pass.place.me.0 ∷ map (λ (p : B). p.place.me.0) done) (olds_of u)) (sym view) (next_in v pass.place.me.0 (map (λ (p : B). p.place.me.0) done) inv.all.2),
      );
    }

pub returns-clause-all : goal.returns-clause-all
returns-clause-all g c = let B : Type 0 = Pass g.row.P.Denot g.row.P-Plain.Denot g.P.Payload in let inv = c.loop-pass.invariant in let done : List B = inv.all.0 in
    let none_left : c.loop-pass.passes.items ≡ [] = search rules in
    subst (λ (l : List B). AreIn (map (λ (p : B). p.place.me.0) l) (olds_of c.loop-pass.seat.me.0)) (sym (inv.all.1 ∙ ap (λ (l : List B). l ++ done) none_left)) inv.all.2
