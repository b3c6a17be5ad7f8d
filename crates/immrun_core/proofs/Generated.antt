-- Each generated script can be run.
use Rattle.std.proofs.Common.{◌≡◌, ℕ, zero, suc, ◌+◌, ◌%◌, ◌*◌, ◌≤◌, List, [], ◌∷◌, length, map, None, refl, subst, sym, ap, ◌∙◌, arith}
use Rattle.std.specs.Prelude.{pos, Result, Ok, Err, IfOk}
use Rattle.std.specs.List.{AllByRecursion}
use Rattle.std.proofs.lemmas.List.{length-map}
use Rattle.imm_base.specs.declared.val.Val.{Val}
use Rattle.imm_base.specs.declared.val.Val.TheVariants.{Int}
use Rattle.plain_model.specs.declared.limits.TheConstants.{COMMANDS_LIMIT}
use Rattle.plain_model.specs.declared.commands.Command.{Command}
use Rattle.plain_model.specs.declared.report.Part.{Part}
use Rattle.plain_model.specs.declared.report.Script.{Script}
use Rattle.plain_model.specs.Frozen.{numbers_from}
use Rattle.plain_model.specs.Generator.{generated_cells, in_turn, generated_command, generated_part, generated}
use Rattle.script.specs.Commands.{binding, check}
use Rattle.script.specs.Ready.{AreReady, IsReady}

-- ---- commands

-- whatever the value, each turn is a call on a cell of its kind, which binds nothing
turn_ready : (turn : ℕ) (v : Val) (rest : List Command) → AreReady generated_cells [] rest → AreReady generated_cells [] (in_turn turn v ∷ rest)
unfolding check binding
turn_ready zero v rest ready = (record { bound = None; checked = refl; within = refl }, ready)
turn_ready (suc zero) v rest ready = (record { bound = None; checked = refl; within = refl }, ready)
turn_ready (suc (suc zero)) v rest ready = (record { bound = None; checked = refl; within = refl }, ready)
turn_ready (suc (suc (suc k))) v rest ready = (record { bound = None; checked = refl; within = refl }, ready)

commands_ready : (n p : ℕ) (js : List ℕ) → AreReady generated_cells [] (map (generated_command n p) js)
commands_ready n p [] = tt
commands_ready n p (j ∷ js) =
    turn_ready (j % 4) (Int (pos ((n + 7 * j + 13 * p) % 100))) (map (generated_command n p) js) (commands_ready n p js)

-- ---- parts

-- what holds of a generated part with any number of the script holds of all
each_part : (P : Part → Type 0) (n : ℕ) → ((p : ℕ) → P (generated_part n p)) → (ps : List ℕ) → AllByRecursion P (map (generated_part n) ps)
each_part P n each [] = tt
each_part P n each (p ∷ ps) = (each p, each_part P n each ps)

length-numbers_from : (first n : ℕ) → length (numbers_from first n) ≡ n
length-numbers_from first zero = refl
length-numbers_from first (suc n) = ap suc (length-numbers_from (first + 1) n)

few_commands : (n p : ℕ) → length (generated_part n p).commands ≤ COMMANDS_LIMIT
few_commands n p = few (length-map (numbers_from 0 4000) (generated_command n p) ∙ length-numbers_from 0 4000)
  where
    few : {k : ℕ} → k ≡ 4000 → k ≤ COMMANDS_LIMIT
    few e = omega (arith, e)

pub generated_ready : (n : ℕ) → IsReady (generated n)
generated_ready n = record {
  cells = omega arith;
  distinct = (refl, (refl, (refl, (refl, tt))));
  first = (record { first = refl; within = refl; made = refl }, (record { first = refl; within = refl; made = refl }, (record { first = refl; within = refl; made = refl }, (record { first = refl; within = refl; made = refl }, tt))));
  parts = omega arith;
  few = each_part (λ p. length p.commands ≤ COMMANDS_LIMIT) n (few_commands n) (numbers_from 0 4);
  ready = each_part (λ p. AreReady generated_cells [] p.commands) n (λ p. commands_ready n p (numbers_from 0 4000)) (numbers_from 0 4);
}

-- a script that is generated, where there is one
pub ready_where_made : {E : Type 0} (n : ℕ) (r : Result Script E) → IfOk r (λ script. script ≡ generated n) → IfOk r IsReady
ready_where_made n (Ok script) is = subst IsReady (sym is) (generated_ready n)
ready_where_made n (Err e) is = tt
