-- The summaries of two generated scripts, by computation.
use Rattle.std.specs.Prelude.{◌≡◌, ℕ, pos, ◌+◌, ◌*◌, ◌%◌, ◌≤◌, List, [], ◌∷◌, ◌++◌, length, map, fold, codes, decimal}
use Rattle.std.specs.List.{flat_map}
use Rattle.std.specs.Fmt.{digits}
use Rattle.std.proofs.Common.{refl, ap, sym, ◌∙◌, arith}
use Rattle.imm_base.specs.declared.TheConstants.{LIMIT}
use Rattle.imm_base.specs.declared.val.Val.{Val}
use Rattle.imm_base.specs.declared.val.Val.TheVariants.{Int}
use Rattle.plain_model.specs.declared.commands.PlainOp.TheVariants as ops
use Rattle.plain_model.specs.declared.commands.PlainCall.{PlainCall}
use Rattle.plain_model.specs.declared.commands.PlainCall.TheVariants as calls
use Rattle.plain_model.specs.Frozen.{numbers_from}
use Rattle.plain_model.specs.Names.{Name}
use Rattle.plain_model.specs.Text.{line, end_line}
use Rattle.plain_model.specs.Generator.{generated, generated_cells, commands_in, cell_summary, summary_text, IsSummary}
use Rattle.worked_examples.specs.GeneratorExamples.{HasSummary, lines_text, summary_of_0, summary_of_7}
use Rattle.worked_examples.proofs.Generated.{generated_asks, generated_told, told, outcome}
use Rattle.worked_examples.proofs.GeneratedReport.{generated_report}
use Rattle.worked_examples.proofs.Counted.{count_call, counted, dict_of, counts_told}
use Rattle.worked_examples.proofs.GeneratedCells.{dict_cell, stack_cell, queue_cell, list_cell, stack_of, queue_of, list_of, on_top, pushed, enqueued, added}

-- the numbers of the commands whose place in turn is k, and as values
abbrev numbers_in_turn : ℕ → ℕ → List ℕ
numbers_in_turn n k = flat_map (λ p. map (λ i. (n + 7 * (4 * i + k) + 13 * p) % 100) (numbers_from 0 1000)) (numbers_from 0 4)

abbrev values_in_turn : ℕ → ℕ → List Val
values_in_turn n k = map (λ t. Int (pos t)) (numbers_in_turn n k)

abbrev add_call : Val → PlainCall
add_call v = calls.Update (ops.Add v)

-- ---- the summary of each cell

module _ (asks : Name → List PlainCall) where
  dict_told : (ts : List ℕ) → asks (codes "D") ≡ map count_call ts → length ts ≤ LIMIT → told asks dict_cell ≡ line (cell_summary dict_cell (0 + length ts) (dict_of (fold counted [] ts)))
  dict_told ts e fits = ap (λ cs. line (cell_summary dict_cell (outcome cs dict_cell).0 (outcome cs dict_cell).1)) e ∙ ap (λ r. line (cell_summary dict_cell r.0 r.1)) (counts_told ts fits)

  stack_told : (vs : List Val) → asks (codes "S") ≡ map calls.Push vs → length vs ≤ LIMIT → told asks stack_cell ≡ line (cell_summary stack_cell (0 + length vs) (stack_of (on_top [] vs)))
  stack_told vs e fits = ap (λ cs. line (cell_summary stack_cell (outcome cs stack_cell).0 (outcome cs stack_cell).1)) e ∙ ap (λ r. line (cell_summary stack_cell r.0 r.1)) (pushed vs fits)

  queue_told : (vs : List Val) → asks (codes "Q") ≡ map calls.Enqueue vs → length vs ≤ LIMIT → told asks queue_cell ≡ line (cell_summary queue_cell (0 + length vs) (queue_of vs))
  queue_told vs e fits = ap (λ cs. line (cell_summary queue_cell (outcome cs queue_cell).0 (outcome cs queue_cell).1)) e ∙ ap (λ r. line (cell_summary queue_cell r.0 r.1)) (enqueued vs fits)

  list_told : (vs : List Val) → asks (codes "L") ≡ map add_call vs → length vs ≤ LIMIT → told asks list_cell ≡ line (cell_summary list_cell (0 + length vs) (list_of vs))
  list_told vs e fits = ap (λ cs. line (cell_summary list_cell (outcome cs list_cell).0 (outcome cs list_cell).1)) e ∙ ap (λ r. line (cell_summary list_cell r.0 r.1)) (added vs fits)

  cells_told : (d s q l : List ℕ) → told asks dict_cell ≡ d → told asks stack_cell ≡ s → told asks queue_cell ≡ q → told asks list_cell ≡ l
      → flat_map (told asks) generated_cells ≡ d ++ (s ++ (q ++ (l ++ [])))
  cells_told d s q l ds ss qs ls =
      ap (λ t. t ++ (told asks stack_cell ++ (told asks queue_cell ++ (told asks list_cell ++ [])))) ds ∙ ap (λ t. d ++ (t ++ (told asks queue_cell ++ (told asks list_cell ++ [])))) ss
      ∙ ap (λ t. d ++ (s ++ (t ++ (told asks list_cell ++ [])))) qs ∙ ap (λ t. d ++ (s ++ (q ++ (t ++ [])))) ls

-- the lines round those of the cells
abbrev round : ℕ → List ℕ → List ℕ
round n t =
    line (codes "gen" ∷ decimal n ∷ []) ++ line (codes "commands" ∷ decimal (commands_in (generated n)) ∷ []) ++ t ++ line (codes "end" ∷ [])

-- ---- the script of the number 0

dict_calls_of_0 : generated_asks 0 (codes "D") ≡ map count_call (numbers_in_turn 0 0)
unfolding generated_asks
dict_calls_of_0 = refl

dict_of_0 : told (generated_asks 0) dict_cell ≡ codes "cell D dict ordinal installs 4000 final 100 first 0=40" ++ end_line
unfolding digits
dict_of_0 =
    let size : length (numbers_in_turn 0 0) ≡ 4000 = refl in
    dict_told (generated_asks 0) (numbers_in_turn 0 0) dict_calls_of_0 (omega (arith, size)) ∙ refl

stack_calls_of_0 : generated_asks 0 (codes "S") ≡ map calls.Push (values_in_turn 0 1)
unfolding generated_asks
stack_calls_of_0 = refl

stack_of_0 : told (generated_asks 0) stack_cell ≡ codes "cell S stack installs 4000 final 4000 first 18" ++ end_line
unfolding digits
stack_of_0 =
    let size : length (values_in_turn 0 1) ≡ 4000 = refl in
    stack_told (generated_asks 0) (values_in_turn 0 1) stack_calls_of_0 (omega (arith, size)) ∙ refl

queue_calls_of_0 : generated_asks 0 (codes "Q") ≡ map calls.Enqueue (values_in_turn 0 2)
unfolding generated_asks
queue_calls_of_0 = refl

queue_of_0 : told (generated_asks 0) queue_cell ≡ codes "cell Q queue installs 4000 final 4000 first 14" ++ end_line
unfolding digits
queue_of_0 =
    let size : length (values_in_turn 0 2) ≡ 4000 = refl in
    queue_told (generated_asks 0) (values_in_turn 0 2) queue_calls_of_0 (omega (arith, size)) ∙ refl

list_calls_of_0 : generated_asks 0 (codes "L") ≡ map add_call (values_in_turn 0 3)
unfolding generated_asks
list_calls_of_0 = refl

list_of_0 : told (generated_asks 0) list_cell ≡ codes "cell L list installs 4000 final 4000 first 21" ++ end_line
unfolding digits
list_of_0 =
    let size : length (values_in_turn 0 3) ≡ 4000 = refl in
    list_told (generated_asks 0) (values_in_turn 0 3) list_calls_of_0 (omega (arith, size)) ∙ refl

only_of_0 : (text : List ℕ) → IsSummary 0 text → text ≡ lines_text summary_of_0
unfolding digits
only_of_0 text s =
    s.same ∙ ap (round 0) (generated_told 0 s.report s.lawful ∙ cells_told (generated_asks 0) _ _ _ _ dict_of_0 stack_of_0 queue_of_0 list_of_0) ∙ refl

pub holds_of_0 : HasSummary 0 summary_of_0
holds_of_0 =
    let it = generated_report 0 in
    let its : List ℕ = summary_text 0 (generated 0) it.0 in
    record { has = record { report = it.0; lawful = it.1; same = sym (only_of_0 its (record { report = it.0; lawful = it.1; same = refl })) }; only = only_of_0 }

-- ---- the script of the number 7

dict_calls_of_7 : generated_asks 7 (codes "D") ≡ map count_call (numbers_in_turn 7 0)
unfolding generated_asks
dict_calls_of_7 = refl

dict_of_7 : told (generated_asks 7) dict_cell ≡ codes "cell D dict ordinal installs 4000 final 100 first 0=40" ++ end_line
unfolding digits
dict_of_7 =
    let size : length (numbers_in_turn 7 0) ≡ 4000 = refl in
    dict_told (generated_asks 7) (numbers_in_turn 7 0) dict_calls_of_7 (omega (arith, size)) ∙ refl

stack_calls_of_7 : generated_asks 7 (codes "S") ≡ map calls.Push (values_in_turn 7 1)
unfolding generated_asks
stack_calls_of_7 = refl

stack_of_7 : told (generated_asks 7) stack_cell ≡ codes "cell S stack installs 4000 final 4000 first 25" ++ end_line
unfolding digits
stack_of_7 =
    let size : length (values_in_turn 7 1) ≡ 4000 = refl in
    stack_told (generated_asks 7) (values_in_turn 7 1) stack_calls_of_7 (omega (arith, size)) ∙ refl

queue_calls_of_7 : generated_asks 7 (codes "Q") ≡ map calls.Enqueue (values_in_turn 7 2)
unfolding generated_asks
queue_calls_of_7 = refl

queue_of_7 : told (generated_asks 7) queue_cell ≡ codes "cell Q queue installs 4000 final 4000 first 21" ++ end_line
unfolding digits
queue_of_7 =
    let size : length (values_in_turn 7 2) ≡ 4000 = refl in
    queue_told (generated_asks 7) (values_in_turn 7 2) queue_calls_of_7 (omega (arith, size)) ∙ refl

list_calls_of_7 : generated_asks 7 (codes "L") ≡ map add_call (values_in_turn 7 3)
unfolding generated_asks
list_calls_of_7 = refl

list_of_7 : told (generated_asks 7) list_cell ≡ codes "cell L list installs 4000 final 4000 first 28" ++ end_line
unfolding digits
list_of_7 =
    let size : length (values_in_turn 7 3) ≡ 4000 = refl in
    list_told (generated_asks 7) (values_in_turn 7 3) list_calls_of_7 (omega (arith, size)) ∙ refl

only_of_7 : (text : List ℕ) → IsSummary 7 text → text ≡ lines_text summary_of_7
unfolding digits
only_of_7 text s =
    s.same ∙ ap (round 7) (generated_told 7 s.report s.lawful ∙ cells_told (generated_asks 7) _ _ _ _ dict_of_7 stack_of_7 queue_of_7 list_of_7) ∙ refl

pub holds_of_7 : HasSummary 7 summary_of_7
holds_of_7 =
    let it = generated_report 7 in
    let its : List ℕ = summary_text 7 (generated 7) it.0 in
    record { has = record { report = it.0; lawful = it.1; same = sym (only_of_7 its (record { report = it.0; lawful = it.1; same = refl })) }; only = only_of_7 }
