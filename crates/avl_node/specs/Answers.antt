-- What a changing call answers.
use Rattle.std.specs.Prelude.{List, Option, Some, None, Result}
use Rattle.imm_base.specs.Answers as base
use Rattle.imm_base.specs.Answers.{IsNew}
use Rattle.imm_base.specs.Edits.{Why, out_of_range, too_large, Gives}
use Rattle.avl_node.specs.Listed.{Listed}
use Rattle.avl_node.specs.declared.fault.TreeFault.{TreeFault}
use Rattle.avl_node.specs.declared.fault.TreeFault.TheVariants.{OutOfRange, TooLarge, Memory}

abbrev pub tree_why : {V : Type 0} → TreeFault → Option (Why V)
tree_why (OutOfRange i n) = Some (out_of_range i n)
tree_why (TooLarge n) = Some (too_large n)
tree_why Memory = None

-- the result is the list that the operation gives, or want of memory
abbrev pub Answers : {T : Type 0} → Result (Listed T) TreeFault → Gives T (List T) → Type 0
Answers = base.Answers tree_why (λ t. IsNew t.items)
