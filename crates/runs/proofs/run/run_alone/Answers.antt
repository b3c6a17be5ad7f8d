use Rattle.std.proofs.Common.{◌≡◌, ◌≤◌, List, [], ◌∷◌, ◌++◌, length, ap, sym, subst, ◌∙◌, arith}
use Rattle.std.specs.Prelude.{map}
use Rattle.std.specs.List.{AllByRecursion}
use Rattle.plain_model.specs.declared.report.CellReport.{CellReport}
use Rattle.plain_model.specs.declared.report.LocalLine.{LocalLine}
use Rattle.plain_model.specs.declared.report.Part.{Part}
use Rattle.plain_model.specs.declared.limits.TheConstants.{COMMANDS_LIMIT, PARTS_LIMIT}
use Rattle.plain_model.specs.Lawful.{Lawful, parts_of}
use Rattle.plain_model.specs.Locals.{no_locals}
use Rattle.runs.specs.declared.one_thread.OneThread.{OneThread}
use Rattle.runs.specs.Places.{AreApart, kinds_of}
use Rattle.runs.specs.Needs.{CanDoAll, CanBegin}
use Rattle.runs.specs.Works.{WorkIsDone}
use Rattle.runs.specs.OneThread.{IsSoFar, CallsOne, report_of}
use Rattle.runs.proofs.OneSteps.{kinds_declared}
use Rattle.runs.proofs.OneRun.{by_index, run_is_lawful}
use Rattle.runs.proofs.run.run_alone.Goals as goal

pub run_parts-requires : goal.run_parts-requires
run_parts-requires c =
    let script = c.args.script.now in
    let decls = c.as_slice-decls.ensures in
    let parts = c.as_slice-parts.ensures in
    let runs = c.in_ok-runs.runs.items in
    record {
      apart = subst AreApart (sym decls) c.requires.apart;
      kinds = kinds_declared runs ∙ ap kinds_of c.in_ok-runs.ensures.decls;
      ready = record { each = by_index (IsSoFar 1) runs c.in_ok-runs.ensures.so_far };
      workers = omega arith;
      count = subst (λ (ps : List Part). length ps ≤ PARTS_LIMIT) (sym parts) c.requires.count;
      few = subst (AllByRecursion (λ (p : Part). length p.commands ≤ COMMANDS_LIMIT)) (sym parts) c.requires.few;
      can = subst (AllByRecursion (λ (p : Part). CanDoAll c.as_slice-decls.result.now p.commands no_locals)) (sym parts)
          (subst (λ ds. AllByRecursion (λ (p : Part). CanDoAll ds p.commands no_locals) script.parts) (sym decls) c.requires.can);
    }

pub returns : goal.returns
returns c =
    let script = c.args.script.now in
    let s : OneThread = record { cells = c.in_ok-runs.runs } in
    let t = c.run_parts.new.cells in
    let lines = c.in_ok-lines.lines in
    let decls = c.as_slice-decls.ensures in
    let parts = ap (parts_of 1 1) c.as_slice-parts.ensures in
    let far = c.in_ok-lines.ensures.ready in
    let work = subst (λ ps. WorkIsDone CallsOne script.cells ps s t lines) parts
    (subst (λ ds. WorkIsDone CallsOne ds (parts_of 1 1 c.as_slice-parts.result.now) s t lines) decls c.in_ok-lines.ensures.done) in
    let lawful = run_is_lawful script s t far.0 lines (c.in_ok-runs.ensures.decls ∙ decls) c.in_ok-runs.ensures.lines far.1 work in
    let locals : c.push.new.self ≡ lines ∷ [] = c.in_ok-push.ensures.ok ∙ ap (λ (ls : List (List LocalLine)). ls ++ lines ∷ []) c.new-locals.ensures in
    subst (λ (rs : List CellReport). Lawful script 1 (record { workers = 1; cells = rs; locals = c.push.new.self })) (sym c.in_ok-reports.ensures)
    (subst (λ (ls : List (List LocalLine)). Lawful script 1 (record { workers = 1; cells = map report_of t.cells.items; locals = ls })) (sym locals) lawful)
