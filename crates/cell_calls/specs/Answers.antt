-- What questions are answered.
use Rattle.std.specs.Prelude.{◌≡◌, true, Option, Some, None}
use Rattle.imm_base.specs.declared.val.Val.{Val}
use Rattle.imm_base.specs.Lists.{remove_first}
use Rattle.plain_model.specs.declared.plain.Plain.{Plain}
use Rattle.plain_model.specs.declared.commands.PlainOp.{PlainOp}
use Rattle.plain_model.specs.declared.commands.Query.TheVariants as queries
use Rattle.plain_model.specs.declared.report.Answer.{Answer}
use Rattle.plain_model.specs.declared.report.Answer.TheVariants as answers
use Rattle.plain_model.specs.Plain.{elements, of_list, plain}
use Rattle.plain_model.specs.Queries.{answer, list_answer}
use Rattle.plain_model.specs.Sources.{are_within, op_values}

-- the value that is the answer, if it is one
abbrev pub value_told : Answer → Option Val
value_told (answers.Value v) = Some v
value_told _ = None

-- the collection answers what its first element is, and the operation takes that off
pub record TakesFirst (op : PlainOp) (p : Plain) : Type 0 where
  pub within : are_within (op_values op) ≡ true
  pub peek : answer queries.Peek p ≡ list_answer queries.Peek (elements p.values)
  pub takes : plain op p ≡ of_list p (remove_first (elements p.values))
