use Rattle.std.proofs.Common.{◌≡◌, ◌+◌, [], ◌∷◌, ◌++◌, drop, length, get_or, map, ap, sym, subst, ◌∙◌, arith, append_assoc, length-append, suc, List}
use Rattle.plain_model.specs.declared.report.CellDecl.{CellDecl}
use Rattle.plain_model.specs.declared.report.CellReport.{CellReport}
use Rattle.interlocked.specs.Known.{Shared}
use Rattle.workers.specs.Closed.{AreClosedTo, AreLogged}
use Rattle.workers.specs.Hands.{Handed, columns_of}
use Rattle.workers.specs.Opened.{IsOpened}
use Rattle.workers.proofs.Ends.{closed_snoc, column_here, columns_within, middle_there, next_there, none_left}
use Rattle.workers.proofs.Lists.{length_map}
use Rattle.workers.proofs.closing.close_all.Goals as goal

pub unreachable-requires : goal.unreachable-requires
unreachable-requires c =
    let inv = c.loop-cell.invariant in
    let here = middle_there c.loop-cell.yielded c.in-Some.cell c.next.new.self.rest.items c.args.cells.items c.loop-cell.place c.in-Some.cell inv.place (ap (λ xs. c.loop-cell.yielded ++ xs) (sym c.in-Some.ensures.steps.0) ∙ inv.left) in
    let many = c.requires.logged.many in
    let both = columns_within (map (λ its. its.items) c.args.passes.items) (map (λ its. its.items) c.args.logs.items) c.loop-cell.place (omega (arith, here.0, many)) in
    let long = length_map (λ its. its.items) c.args.passes.items in
    let none = none_left c.args.passes.items c.loop-cell.place (ap length (sym inv.passes) ∙ (inv.passes_count ∙ c.in-None-next.ensures.cases.0)) in
    omega (arith, both.0, long, none)

pub unreachable-requires-in-None-next-2 : goal.unreachable-requires-in-None-next-2
unreachable-requires-in-None-next-2 c =
    let inv = c.loop-cell.invariant in
    let here = middle_there c.loop-cell.yielded c.in-Some.cell c.next.new.self.rest.items c.args.cells.items c.loop-cell.place c.in-Some.cell inv.place (ap (λ xs. c.loop-cell.yielded ++ xs) (sym c.in-Some.ensures.steps.0) ∙ inv.left) in
    let many = c.requires.logged.many in
    let both = columns_within (map (λ its. its.items) c.args.passes.items) (map (λ its. its.items) c.args.logs.items) c.loop-cell.place (omega (arith, here.0, many)) in
    let long = length_map (λ its. its.items) c.args.logs.items in
    let none = none_left c.args.logs.items c.loop-cell.place (ap length (sym inv.logs) ∙ (inv.logs_count ∙ c.in-None-next-2.ensures.cases.0)) in
    omega (arith, both.1, long, none)

pub close_one-requires-clause-opened : goal.close_one-requires-clause-opened
close_one-requires-clause-opened c =
    let inv = c.loop-cell.invariant in
    let cell = c.in-Some.cell in
    let decl = c.index-decls-place.result in
    let here = middle_there c.loop-cell.yielded cell c.next.new.self.rest.items c.args.cells.items c.loop-cell.place cell inv.place (ap (λ xs. c.loop-cell.yielded ++ xs) (sym c.in-Some.ensures.steps.0) ∙ inv.left) in
    subst (λ (d : CellDecl). IsOpened c.args.workers d cell) (sym c.index-decls-place.is)
    (subst (λ (s : Shared). IsOpened c.args.workers (get_or c.args.decls.now c.loop-cell.place decl) s) here.1 (c.requires.cells.each c.loop-cell.place decl cell here.0))

pub close_one-requires-clause-logged : goal.close_one-requires-clause-logged
close_one-requires-clause-logged c =
    let inv = c.loop-cell.invariant in
    let cell = c.in-Some.cell in
    let place = c.loop-cell.place in
    let its : Handed = record { passes = c.in-Some-next.its_passes.items; logs = c.in-Some-next-2.its_logs.items } in
    let here = middle_there c.loop-cell.yielded cell c.next.new.self.rest.items c.args.cells.items place cell inv.place (ap (λ xs. c.loop-cell.yielded ++ xs) (sym c.in-Some.ensures.steps.0) ∙ inv.left) in
    let column = column_here (λ its. its.items) (λ its. its.items) c.args.passes.items c.args.logs.items place c.in-Some-next.its_passes c.next-in-loop-cell.new.self.rest.items c.in-Some-next-2.its_logs c.next-in-loop-cell-2.new.self.rest.items its
    (sym inv.passes ∙ c.in-Some-next.ensures.items) (sym inv.logs ∙ c.in-Some-next-2.ensures.items) in
    subst (λ (s : Shared). AreLogged c.args.workers s its) here.1
    (subst (λ (h : Handed). AreLogged c.args.workers (get_or c.args.cells.items place cell) h) column (c.requires.logged.each place cell its here.0))

pub loop-cell-preserved : goal.loop-cell-preserved
loop-cell-preserved c =
    let inv = c.loop-cell.invariant in
    let cell = c.in-Some.cell in
    let place = c.loop-cell.place in
    let decl = c.index-decls-place.result in
    let its : Handed = record { passes = c.in-Some-next.its_passes.items; logs = c.in-Some-next-2.its_logs.items } in
    let step = c.in-Some.ensures.steps in
    let count = ap length step.0 in
    let is = ap (λ xs. c.loop-cell.yielded ++ xs) (sym step.0) ∙ inv.left in
    let here = middle_there c.loop-cell.yielded cell c.next.new.self.rest.items c.args.cells.items place cell inv.place is in
    let passes = next_there c.args.passes.items place c.in-Some-next.its_passes c.next-in-loop-cell.new.self.rest.items c.in-Some-next.its_passes (sym inv.passes ∙ c.in-Some-next.ensures.items) in
    let logs = next_there c.args.logs.items place c.in-Some-next-2.its_logs c.next-in-loop-cell-2.new.self.rest.items c.in-Some-next-2.its_logs (sym inv.logs ∙ c.in-Some-next-2.ensures.items) in
    let column = column_here (λ its. its.items) (λ its. its.items) c.args.passes.items c.args.logs.items place c.in-Some-next.its_passes c.next-in-loop-cell.new.self.rest.items c.in-Some-next-2.its_logs c.next-in-loop-cell-2.new.self.rest.items its
    (sym inv.passes ∙ c.in-Some-next.ensures.items) (sym inv.logs ∙ c.in-Some-next-2.ensures.items) in
    let next : place + 1 ≡ suc place = omega arith in
    let many = c.requires.cells.many in
    let all = c.requires.logged.many in record {
      left = append_assoc c.loop-cell.yielded (cell ∷ []) c.next.new.self.rest.items ∙ is;
      count = omega (arith, inv.count, step.1, count);
      place = ap (λ n. n + 1) inv.place ∙ sym (length-append c.loop-cell.yielded (cell ∷ []));
      passes = sym passes.2 ∙ ap (λ n. drop n c.args.passes.items) (sym next);
      passes_count = let l = c.in-Some-next.ensures.len in let i = ap length c.in-Some-next.ensures.items in omega (arith, inv.passes_count, l, i);
      logs = sym logs.2 ∙ ap (λ n. drop n c.args.logs.items) (sym next);
      logs_count = let l = c.in-Some-next-2.ensures.len in let i = ap length c.in-Some-next-2.ensures.items in omega (arith, inv.logs_count, l, i);
      closed = subst (λ (rs : List CellReport). AreClosedTo (place + 1) c.args.decls.now c.args.cells.items (columns_of (map (λ its. its.items) c.args.passes.items) (map (λ its. its.items) c.args.logs.items)) rs) (sym c.in_ok-push.ensures.ok)
          (closed_snoc place c.args.decls.now c.args.cells.items (columns_of (map (λ its. its.items) c.args.passes.items) (map (λ its. its.items) c.args.logs.items)) c.loop-cell.reports decl cell its c.in_ok-report.report
          inv.closed (omega (arith, here.0, many)) here.0 (omega (arith, here.0, all)) c.index-decls-place.is (sym here.1) (sym column) c.in_ok-report.ensures);
    }
