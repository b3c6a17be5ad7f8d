-- What a changing call does to a list that is changed in place.
use Rattle.std.specs.Prelude.{◌≡◌, List, Result, Ok, Err}
use Rattle.imm_base.specs.declared.val.Edit.TheVariants.{New}
use Rattle.imm_base.specs.Edits.{Gives}
use Rattle.imm_base.specs.Answers.{Tells}
use Rattle.avl_node.specs.Answers.{tree_why}
use Rattle.avl_node.specs.declared.fault.TreeFault.{TreeFault}

-- the list became the one that the operation gives, or it stayed, and the fault tells the refusal
-- or want of memory
abbrev pub Changes : {T : Type 0} → Result (Unit {0}) TreeFault → List T → List T
    → Gives T (List T) → Type 0
Changes (Ok _) old new gives = gives ≡ Ok (New new)
Changes (Err fault) old new gives = (new ≡ old) × Tells tree_why fault gives
