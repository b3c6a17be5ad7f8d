use Rattle.collection_builders.proofs.sorted_set.change.Goals as goal

pub returns-in_ok-elements-in-Intersect : goal.returns-in_ok-elements-in-Intersect
returns-in_ok-elements-in-Intersect c =
    rw c.in-Intersect.is (rw (c.as_slice-in-Intersect.ensures.value, c.in_ok-elements-in-Intersect.ensures) at c.intersect_with.ensures)

pub returns-in_ok-elements-in-Except : goal.returns-in_ok-elements-in-Except
returns-in_ok-elements-in-Except c =
    rw c.in-Except.is (rw (c.as_slice-in-Except.ensures.value, c.in_ok-elements-in-Except.ensures) at c.except_with.ensures)

pub returns-in_ok-elements-in-SymExcept : goal.returns-in_ok-elements-in-SymExcept
returns-in_ok-elements-in-SymExcept c =
    rw c.in-SymExcept.is (rw (c.as_slice-in-SymExcept.ensures.value, c.in_ok-elements-in-SymExcept.ensures) at c.sym_except_with.ensures)
