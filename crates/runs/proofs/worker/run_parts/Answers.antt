use Rattle.std.proofs.Common.{◌≡◌, ◌+◌, ◌*◌, List, [], ◌∷◌, ◌++◌, ◌<◌, ◌≤◌, length, take, ap, sym, ◌∙◌, subst, refl, arith}
use Rattle.std.proofs.lemmas.List.{take_all}
use Rattle.plain_model.specs.declared.report.Part.{Part}
use Rattle.plain_model.specs.Locals.{no_locals}
use Rattle.runs.specs.Needs.{CanDoAll}
use Rattle.runs.specs.Works.{WorkIsDone, ordinal_after}
use Rattle.runs.proofs.Parts.{work_begins, work_goes_on, work_ends, after_on, at_index, parts_for, parts_more, few_for, can_for}
use Rattle.runs.proofs.worker.run_parts.Goals as goal

pub loop-part-init : goal.loop-part-init
loop-part-init g c = record {
  place = refl;
  low = omega arith;
  next = refl;
  kinds = c.requires.kinds;
  ready = c.requires.ready;
  done = subst (λ ls. WorkIsDone g.T.Cells.makes c.args.decls.now [] c.args.cells.now c.args.cells.now ls) (sym c.new-2.ensures) (work_begins g.T.Cells.makes c.args.decls.now c.args.cells.now);
}

pub loop-part-preserved : goal.loop-part-preserved
loop-part-preserved g c =
    let l = c.loop-part in
    let i = l.part-index in
    let w = c.args.number in
    let n = c.args.workers in
    let parts = c.args.parts.now in
    let x = c.part-item.result in
    let cs = c.commands_for-commands.result.now in
    let ps = parts_for w n 1 (take i parts) in
    let within : i < length parts = omega arith in
    let all : length x.commands ≤ 4096 = subst (λ (p : Part). length p.commands ≤ 4096) (sym c.part-item.is) (at_index (λ p. length p.commands ≤ 4096) parts i x c.requires.few within) in
    let few : length cs ≤ 4096 = subst (λ ds. length ds ≤ 4096) (sym c.commands_for-commands.ensures) (few_for w n l.place x 4096 all) in
    let low : l.ordinal ≤ i * 4096 + 1 = l.invariant.low in
    let more : parts_for w n 1 (take (i + 1) parts) ≡ ps ++ cs ∷ [] =
    parts_more w n l.place i parts x within c.part-item.is l.invariant.place ∙ ap (λ ds. ps ++ ds ∷ []) (sym c.commands_for-commands.ensures) in
    record {
      place = let at = l.invariant.place in omega arith;
      low = omega arith;
      next = ap (λ m. m + length cs) l.invariant.next ∙ sym (ap (ordinal_after 1) more ∙ after_on 1 ps cs);
      kinds = c.in_ok-run_part.ensures.kinds;
      ready = c.in_ok-run_part.ensures.ready;
      done = subst (λ qs. WorkIsDone g.T.Cells.makes c.args.decls.now qs c.args.cells.now c.run_part.new.cells c.run_part.new.worker.lines) (sym more)
          (work_goes_on g.T.Cells.makes c.args.decls.now c.args.cells.now ps cs l.cells c.run_part.new.cells l.worker.lines c.run_part.new.worker.lines l.ordinal l.invariant.next l.invariant.done c.in_ok-run_part.ensures.done);
    }

pub run_part-requires : goal.run_part-requires
run_part-requires g c =
    let l = c.loop-part in
    let i = l.part-index in
    let w = c.args.number in
    let n = c.args.workers in
    let x = c.part-item.result in
    let cs = c.commands_for-commands.result.now in
    let within : i < length c.args.parts.now = omega arith in
    let all : length x.commands ≤ 4096 = subst (λ (p : Part). length p.commands ≤ 4096) (sym c.part-item.is) (at_index (λ p. length p.commands ≤ 4096) c.args.parts.now i x c.requires.few within) in
    let few : length cs ≤ 4096 = subst (λ ds. length ds ≤ 4096) (sym c.commands_for-commands.ensures) (few_for w n l.place x 4096 all) in
    let can = subst (λ (p : Part). CanDoAll c.args.decls.now p.commands no_locals) (sym c.part-item.is) (at_index (λ p. CanDoAll c.args.decls.now p.commands no_locals) c.args.parts.now i x c.requires.can within) in
    let low : l.ordinal ≤ i * 4096 + 1 = l.invariant.low in
    record {
      apart = c.requires.apart;
      kinds = l.invariant.kinds;
      ready = l.invariant.ready;
      fits = omega (arith, c.requires.count);
      can = subst (λ ds. CanDoAll c.args.decls.now ds no_locals) (sym c.commands_for-commands.ensures) (can_for c.args.decls.now w n l.place x can);
    }

pub returns-clause-done : goal.returns-clause-done
returns-clause-done g c =
    let l = c.loop-part in
    let parts = c.args.parts.now in
    work_ends g.T.Cells.makes c.args.decls.now c.args.number c.args.workers parts c.args.cells.now l.cells l.worker.lines
    (subst (λ (ps : List Part). WorkIsDone g.T.Cells.makes c.args.decls.now (parts_for c.args.number c.args.workers 1 ps) c.args.cells.now l.cells l.worker.lines) (take_all l.part-index parts c.loop-part-test.false) l.invariant.done)
