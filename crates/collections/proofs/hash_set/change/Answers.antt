use Rattle.std.proofs.Common.{List, sym, subst, ◌∙◌}
use Rattle.imm_base.specs.declared.val.Val.{Val}
use Rattle.imm_base.specs.Order.{val_eq, val_cmp, eq_same}
use Rattle.imm_base.specs.Sets.{set_intersect, set_except, set_symmetric_except}
use Rattle.imm_dictionary.specs.Answers.{SetAnswers}
use Rattle.plain_model.specs.declared.commands.PlainOp.{PlainOp}
use Rattle.plain_model.specs.Plain.{set_op}
use Rattle.collections.proofs.hash_set.change.Goals as goal

pub returns-in_ok-elements-in-Intersect : goal.returns-in_ok-elements-in-Intersect
returns-in_ok-elements-in-Intersect c =
    let s = c.args.set.now in
    let P : PlainOp → Type 0 = λ op. SetAnswers s.eq c.intersect_with.result (set_op val_cmp (eq_same s.eq) op s.items) in
    let Q : List Val → Type 0 = λ ys. SetAnswers s.eq c.intersect_with.result (set_intersect val_eq (eq_same s.eq) ys s.items) in
    subst P (sym c.in-Intersect.is) (subst Q (c.as_slice-in-Intersect.ensures.value ∙ c.in_ok-elements-in-Intersect.ensures) c.intersect_with.ensures)

pub returns-in_ok-elements-in-Except : goal.returns-in_ok-elements-in-Except
returns-in_ok-elements-in-Except c =
    let s = c.args.set.now in
    let P : PlainOp → Type 0 = λ op. SetAnswers s.eq c.except_with.result (set_op val_cmp (eq_same s.eq) op s.items) in
    let Q : List Val → Type 0 = λ ys. SetAnswers s.eq c.except_with.result (set_except val_eq (eq_same s.eq) ys s.items) in
    subst P (sym c.in-Except.is) (subst Q (c.as_slice-in-Except.ensures.value ∙ c.in_ok-elements-in-Except.ensures) c.except_with.ensures)

pub returns-in_ok-elements-in-SymExcept : goal.returns-in_ok-elements-in-SymExcept
returns-in_ok-elements-in-SymExcept c =
    let s = c.args.set.now in
    let P : PlainOp → Type 0 = λ op. SetAnswers s.eq c.sym_except_with.result (set_op val_cmp (eq_same s.eq) op s.items) in
    let Q : List Val → Type 0 = λ ys. SetAnswers s.eq c.sym_except_with.result (set_symmetric_except val_eq val_cmp (eq_same s.eq) ys s.items) in
    subst P (sym c.in-SymExcept.is) (subst Q (c.as_slice-in-SymExcept.ensures.value ∙ c.in_ok-elements-in-SymExcept.ensures) c.sym_except_with.ensures)
