-- What a call of a tree of buckets answers.
use Rattle.std.specs.Prelude.{List, Result}
use Rattle.imm_base.specs.declared.val.Edit.{Edit}
use Rattle.imm_base.specs.declared.val.Edit.TheVariants.{New}
use Rattle.imm_base.specs.Answers as base
use Rattle.imm_base.specs.Answers.{IsKept}
use Rattle.imm_base.specs.Edits.{Gives}
use Rattle.avl_node.specs.Answers.{tree_why}
use Rattle.avl_node.specs.declared.fault.TreeFault.{TreeFault}
use Rattle.hash_bucket.specs.Hashed.{Hashed}

-- the result is what the operation gives, under this equality, or want of memory
abbrev pub Answers : {T H : Type 0} → H → Result (Edit (Hashed T H)) TreeFault → Gives T (List T) → Type 0
Answers eq = base.Answers tree_why (IsKept (λ t. t.items) (λ t. t.eq) eq)

-- the same of a call that makes another tree in any case
abbrev pub AnswersNew : {T H : Type 0} → H → Result (Hashed T H) TreeFault → Gives T (List T) → Type 0
AnswersNew eq = base.Answers tree_why (λ t. IsKept (λ u. u.items) (λ u. u.eq) eq (New t))
