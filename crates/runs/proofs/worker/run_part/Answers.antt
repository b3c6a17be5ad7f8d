use Rattle.std.proofs.Common.{◌≡◌, ◌+◌, ◌∷◌, ◌++◌, drop, ap, sym, ◌∙◌, subst, refl, arith}
use Rattle.std.proofs.lemmas.List.{drop_more, drop_all}
use Rattle.runs.proofs.Parts.{InPart, part_begins, part_goes_on, part_ends}
use Rattle.runs.proofs.worker.run_part.Goals as goal

pub loop-command-init : goal.loop-command-init
loop-command-init g c = record {
  next = omega arith;
  kinds = c.requires.kinds;
  ready = c.requires.ready;
  on = part_begins g.T.Cells.makes c.args.decls.now c.args.ordinal c.args.commands.now c.args.cells.now c.args.worker.now.lines _ c.new.ensures refl c.requires.can;
}

pub loop-command-preserved : goal.loop-command-preserved
loop-command-preserved g c =
    let l = c.loop-command in
    let cs = c.args.commands.now in
    let i = l.command-index in
    let x = c.command-item.result in
    let rest : drop i cs ≡ x ∷ drop (i + 1) cs = drop_more cs i x (omega arith) ∙ ap (λ y. y ∷ drop (i + 1) cs) (sym c.command-item.is) in
    record {
      next = omega (arith, l.invariant.next);
      kinds = c.in_ok-run_command.ensures.kinds;
      ready = c.in_ok-run_command.ensures.ready;
      on = part_goes_on g.T.Cells.makes c.args.decls.now c.args.ordinal cs c.args.cells.now c.args.worker.now.lines x (drop (i + 1) cs) l.next l.worker c.run_command.new.worker l.cells c.run_command.new.cells
          (subst (λ ys. InPart g.T.Cells.makes c.args.decls.now c.args.ordinal cs ys c.args.cells.now c.args.worker.now.lines l.next l.cells l.worker) rest l.invariant.on) c.in_ok-run_command.ensures.done;
    }

pub run_command-requires-clause-can : goal.run_command-requires-clause-can
run_command-requires-clause-can g c =
    let l = c.loop-command in
    let cs = c.args.commands.now in
    let i = l.command-index in
    let x = c.command-item.result in
    let rest : drop i cs ≡ x ∷ drop (i + 1) cs = drop_more cs i x (omega arith) ∙ ap (λ y. y ∷ drop (i + 1) cs) (sym c.command-item.is) in
    let p = subst (λ ys. InPart g.T.Cells.makes c.args.decls.now c.args.ordinal cs ys c.args.cells.now c.args.worker.now.lines l.next l.cells l.worker) rest l.invariant.on in
    p.can.0

pub returns-clause-done : goal.returns-clause-done
returns-clause-done g c =
    let l = c.loop-command in
    let cs = c.args.commands.now in
    part_ends g.T.Cells.makes c.args.decls.now c.args.ordinal cs c.args.cells.now c.args.worker.now.lines l.next l.cells l.worker
    (subst (λ ys. InPart g.T.Cells.makes c.args.decls.now c.args.ordinal cs ys c.args.cells.now c.args.worker.now.lines l.next l.cells l.worker) (drop_all l.command-index cs c.loop-command-test.false) l.invariant.on)
