use Rattle.std.proofs.Common.{◌≡◌, refl, None, Some, ap, sym, subst, ◌∙◌}
use Rattle.plain_model.specs.History.{Numbered}
use Rattle.plain_model.specs.declared.plain.Plain.{Plain}
use Rattle.runs.specs.OneThread.{IsSoFar}
use Rattle.runs.proofs.OneSteps.{kinds_set, within_of, kind_at, all_set}
use Rattle.runs.proofs.one_thread.OneThreadCells.read.Goals as goal

pub returns-clause-kinds : goal.returns-clause-kinds
returns-clause-kinds c =
    let one = c.in_ok-value.ensures.called in
    let before = c.index_mut.result.now in
    kinds_set c.args.self.now.cells.items c.args.place c.read.new.self before (within_of c.args.self.now.cells.items c.args.place c.requires.place) c.index_mut.ensures.value one.goes_on.decl

pub returns-clause-ready : goal.returns-clause-ready
returns-clause-ready c =
    let one = c.in_ok-value.ensures.called in
    record { each = all_set c.args.self.now.cells.items c.args.place c.read.new.self c.args.ordinal c.requires.ready.each one.so_far }

pub returns-clause-makes : goal.returns-clause-makes
returns-clause-makes c =
    let one = c.in_ok-value.ensures.called in
    let before = c.index_mut.result.now in
    let o = ap (λ (n : Numbered). n.ordinal) one.numbered in
    record {
      note = record { place = c.args.place; line = one.line; value = Some c.in_ok-value.value };
      place = refl;
      numbered = one.numbered;
      value = refl;
      made = record {
        before = before;
        after = c.read.new.self;
        within = (within_of c.args.self.now.cells.items c.args.place c.requires.place);
        at = c.index_mut.ensures.value;
        cells = refl;
        so_far = subst (λ n. IsSoFar n before) (sym o) (subst (λ x. IsSoFar c.args.ordinal x) (sym c.index_mut.ensures.value) (c.requires.ready.each c.args.place before (within_of c.args.self.now.cells.items c.args.place c.requires.place)));
        caller = one.caller;
        goes_on = one.goes_on;
        read = (c.in_ok-value.ensures.value, ap (λ (n : Numbered). n.call) one.numbered);
      };
    }

pub returns-clause-kind : goal.returns-clause-kind
returns-clause-kind c =
    let before = c.index_mut.result.now in
    let there = c.requires.ready.each c.args.place before (within_of c.args.self.now.cells.items c.args.place c.requires.place) in
    kind_at c.args.self.now.cells.items c.args.place before (within_of c.args.self.now.cells.items c.args.place c.requires.place)
    ∙ (ap (λ k. Some k) (sym there.kind) ∙ (ap (λ x. Some x.value.kind) (sym c.index_mut.ensures.value) ∙ ap (λ (v : Plain). Some v.kind) (sym c.in_ok-value.ensures.value)))
