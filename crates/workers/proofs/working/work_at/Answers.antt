use Rattle.std.proofs.Common.{◌≡◌, ℕ, ◌<◌, length, map, sym, subst, get_or, List}
use Rattle.std.specs.List.{AllByRecursion}
use Rattle.plain_model.specs.declared.history.Line.{Line}
use Rattle.plain_model.specs.declared.report.LocalLine.{LocalLine}
use Rattle.interlocked.specs.Known.{Known}
use Rattle.seats.specs.Seats.{Seated}
use Rattle.workers.specs.declared.lanes.Lane.{Lane}
use Rattle.workers.specs.Hands.{columns_of}
use Rattle.workers.specs.Lanes.{HasWorkedAt}
use Rattle.workers.specs.Opened.{seat_of}
use Rattle.workers.specs.Tables.{AreColumnsOf}
use Rattle.workers.specs.Worked.{AreGathered}
use Rattle.workers.proofs.Begins.{all_wide}
use Rattle.workers.proofs.Gathered.{all_gathered, all_ready, lanes_long, logs_wide, passes_wide}
use Rattle.workers.proofs.working.work_at.Goals as goal

abbrev WorkerLane : Type 0
WorkerLane = Lane Seated (List LocalLine)

pub transpose-requires : goal.transpose-requires
transpose-requires g c =
    subst (λ (ps : List (List Known)). AllByRecursion (λ row. length row ≡ c.args.workers) ps) (sym c.requires.passes)
    (all_wide c.args.workers c.args.script.now.cells c.args.cells.now c.requires.cells)

pub work_all-lanes-requires-clause-ready : goal.work_all-lanes-requires-clause-ready
work_all-lanes-requires-clause-ready g c κs within =
    let rows = map (λ row. row.items) c.in_ok-rows.rows.items in
    let dealt = subst (λ (ps : List (List Known)). AreColumnsOf c.args.workers ps rows) c.requires.passes c.in_ok-rows.ensures in
    let olds : List WorkerLane = c.in_ok-lanes.lanes.items in
    let seated : map (λ (l : WorkerLane). l.seat) olds ≡ map (seat_of c.args.cells.now) rows = c.in_ok-lanes.ensures in
    all_ready c.args.script.now c.args.workers c.args.cells.now c.requires.cells rows dealt olds seated

pub by_cell-requires-clause-passes : goal.by_cell-requires-clause-passes
by_cell-requires-clause-passes g c =
    let rows = map (λ row. row.items) c.in_ok-rows.rows.items in
    let dealt = subst (λ (ps : List (List Known)). AreColumnsOf c.args.workers ps rows) c.requires.passes c.in_ok-rows.ensures in
    let olds : List WorkerLane = c.in_ok-lanes.lanes.items in
    let news : List WorkerLane = c.work_all-lanes.result.items in
    let seated : map (λ (l : WorkerLane). l.seat) olds ≡ map (seat_of c.args.cells.now) rows = c.in_ok-lanes.ensures in
    let long = lanes_long c.args.script.now c.args.workers c.args.cells.now c.requires.cells rows dealt olds seated in
    let worked : (k : ℕ) (d : WorkerLane) → k < length olds → HasWorkedAt c.args.script.now c.args.workers k (get_or olds k d) (get_or news k d) =
    λ k d lt. subst (λ (n : ℕ). HasWorkedAt c.args.script.now n k (get_or olds k d) (get_or news k d)) long (c.work_all-lanes.ensures.worked k d lt) in
    subst (λ (ps : List (List Known)). AllByRecursion (λ row. length row ≡ length c.args.cells.now) ps) (sym c.in_ok-done.ensures.passes)
    (passes_wide c.args.script.now c.args.workers c.args.cells.now c.requires.cells rows dealt olds seated news c.work_all-lanes.ensures.many worked c.in_ok-done.done.locals c.in_ok-done.ensures.told)

pub by_cell-requires-clause-logs : goal.by_cell-requires-clause-logs
by_cell-requires-clause-logs g c =
    let rows = map (λ row. row.items) c.in_ok-rows.rows.items in
    let dealt = subst (λ (ps : List (List Known)). AreColumnsOf c.args.workers ps rows) c.requires.passes c.in_ok-rows.ensures in
    let olds : List WorkerLane = c.in_ok-lanes.lanes.items in
    let news : List WorkerLane = c.work_all-lanes.result.items in
    let seated : map (λ (l : WorkerLane). l.seat) olds ≡ map (seat_of c.args.cells.now) rows = c.in_ok-lanes.ensures in
    let long = lanes_long c.args.script.now c.args.workers c.args.cells.now c.requires.cells rows dealt olds seated in
    let worked : (k : ℕ) (d : WorkerLane) → k < length olds → HasWorkedAt c.args.script.now c.args.workers k (get_or olds k d) (get_or news k d) =
    λ k d lt. subst (λ (n : ℕ). HasWorkedAt c.args.script.now n k (get_or olds k d) (get_or news k d)) long (c.work_all-lanes.ensures.worked k d lt) in
    subst (λ (ls : List (List (List Line))). AllByRecursion (λ row. length row ≡ length c.args.cells.now) ls) (sym c.in_ok-done.ensures.logs)
    (logs_wide c.args.script.now c.args.workers c.args.cells.now c.requires.cells rows dealt olds seated news c.work_all-lanes.ensures.many worked c.in_ok-done.done.locals c.in_ok-done.ensures.told)

pub returns : goal.returns
returns g c =
    let rows = map (λ row. row.items) c.in_ok-rows.rows.items in
    let dealt = subst (λ (ps : List (List Known)). AreColumnsOf c.args.workers ps rows) c.requires.passes c.in_ok-rows.ensures in
    let olds : List WorkerLane = c.in_ok-lanes.lanes.items in
    let news : List WorkerLane = c.work_all-lanes.result.items in
    let seated : map (λ (l : WorkerLane). l.seat) olds ≡ map (seat_of c.args.cells.now) rows = c.in_ok-lanes.ensures in
    let long = lanes_long c.args.script.now c.args.workers c.args.cells.now c.requires.cells rows dealt olds seated in
    let worked : (k : ℕ) (d : WorkerLane) → k < length olds → HasWorkedAt c.args.script.now c.args.workers k (get_or olds k d) (get_or news k d) =
    λ k d lt. subst (λ (n : ℕ). HasWorkedAt c.args.script.now n k (get_or olds k d) (get_or news k d)) long (c.work_all-lanes.ensures.worked k d lt) in
    subst (λ (locals : List (List LocalLine)). AreGathered c.args.script.now c.args.workers c.args.cells.now (columns_of (map (λ its. its.items) c.in_ok-done-2.done.passes.items) (map (λ its. its.items) c.in_ok-done-2.done.logs.items)) locals)
    (sym c.in_ok-done-2.ensures.locals)
    (all_gathered c.args.script.now c.args.workers c.args.cells.now c.requires.cells rows dealt olds seated news c.work_all-lanes.ensures.many worked c.in_ok-done.done.locals c.in_ok-done.ensures.told
    (map (λ its. its.items) c.in_ok-done-2.done.passes.items) (map (λ its. its.items) c.in_ok-done-2.done.logs.items)
    (subst (λ (ps : List (List Known)). AreColumnsOf (length c.args.cells.now) ps (map (λ its. its.items) c.in_ok-done-2.done.passes.items)) c.in_ok-done.ensures.passes c.in_ok-done-2.ensures.passes)
    (subst (λ (ls : List (List (List Line))). AreColumnsOf (length c.args.cells.now) ls (map (λ its. its.items) c.in_ok-done-2.done.logs.items)) c.in_ok-done.ensures.logs c.in_ok-done-2.ensures.logs))
