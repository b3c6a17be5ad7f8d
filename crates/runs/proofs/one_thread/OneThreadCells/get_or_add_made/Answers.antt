use Rattle.std.proofs.Common.{◌≡◌, true, refl, ap, sym, subst, ◌∙◌}
use Rattle.plain_model.specs.declared.commands.PlainCall.TheVariants as calls
use Rattle.plain_model.specs.declared.plain.Kind.{Kind}
use Rattle.plain_model.specs.Cell.{is_map}
use Rattle.plain_model.specs.Plain.{shape_of}
use Rattle.runs.proofs.OneSteps.{kind_of, kinds_set, kind_is, index_of, all_set, call_is_made}
use Rattle.runs.proofs.one_thread.OneThreadCells.get_or_add_made.Goals as goal

pub get_or_add_made-requires-clause-map : goal.get_or_add_made-requires-clause-map
get_or_add_made-requires-clause-map c =
    let cells = c.args.self.now.cells.items in
    let before = c.index_mut.result.now in
    let keys = c.requires.keys in
    subst (λ (k : Kind). is_map (shape_of k) ≡ true) (kind_is cells c.args.place before keys.kind keys.at ∙ ap kind_of (sym c.index_mut.ensures.value)) keys.map

pub returns-clause-kinds : goal.returns-clause-kinds
returns-clause-kinds c =
    let cells = c.args.self.now.cells.items in
    let one = c.in_ok-probe.ensures in
    let within = index_of cells c.args.place c.requires.keys.kind c.requires.keys.at in
    kinds_set cells c.args.place c.get_or_add_made.new.self c.index_mut.result.now within c.index_mut.ensures.value one.goes_on.decl

pub returns-clause-ready : goal.returns-clause-ready
returns-clause-ready c =
    let one = c.in_ok-probe.ensures in
    record { each = all_set c.args.self.now.cells.items c.args.place c.get_or_add_made.new.self c.args.ordinal c.requires.ready.each one.so_far }

pub returns-clause-makes : goal.returns-clause-makes
returns-clause-makes c =
    let s = c.args.self.now in
    let within = index_of s.cells.items c.args.place c.requires.keys.kind c.requires.keys.at in
    call_is_made s _ c.args.place c.args.ordinal (calls.GetOrAddMade c.args.key c.args.make c.in_ok-probe.probe) c.index_mut.result.now c.get_or_add_made.new.self c.requires.ready within c.index_mut.ensures.value c.in_ok-probe.ensures refl
