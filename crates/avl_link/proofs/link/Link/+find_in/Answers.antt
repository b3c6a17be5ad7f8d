use Rattle.std.proofs.Common.{◌≡◌, ◌∙◌, ◌++◌, ◌∷◌, sym, ap}
use Rattle.std.specs.Ordering.{is_lt}
use Rattle.avl_link.specs.Shape.{held}
use Rattle.avl_node.proofs.SideLemmas.{less_place, less_found, left_place, equal_found, greater_found}
use Rattle.avl_link.proofs.link.Link.+find_in.Goals as goal

pub returns-in-Less-clause-place : goal.returns-in-Less-clause-place
returns-in-Less-clause-place g t c = let node = c.deref-node.result.now in
    less_place _ _ node.left.items node.value node.right.items (sym (ap (λ s. s.items) c.self.view_is) ∙ ap (λ f. (held f).items) c.in-Owned.is ∙ ap (λ n. n.left.items ++ n.value ∷ n.right.items) (sym c.deref-node.ensures)) _ _ c.count-before.ensures (sym c.in-Less.ensures) c.find_in-place.ensures.place

pub returns-in-Less-clause-found : goal.returns-in-Less-clause-found
returns-in-Less-clause-found g t c = let node = c.deref-node.result.now in
    less_found _ _ node.left.items node.value node.right.items (sym (ap (λ s. s.items) c.self.view_is) ∙ ap (λ f. (held f).items) c.in-Owned.is ∙ ap (λ n. n.left.items ++ n.value ∷ n.right.items) (sym c.deref-node.ensures)) _ _ _ c.count-before.ensures c.find_in-place.ensures.found

pub returns-in-Equal-clause-place : goal.returns-in-Equal-clause-place
returns-in-Equal-clause-place g t c = let node = c.deref-node.result.now in
    left_place _ _ node.left.items node.value node.right.items (sym (ap (λ s. s.items) c.self.view_is) ∙ ap (λ f. (held f).items) c.in-Owned.is ∙ ap (λ n. n.left.items ++ n.value ∷ n.right.items) (sym c.deref-node.ensures)) _ (ap is_lt (sym c.in-Equal.ensures)) c.find_in-place-in-Equal.ensures.place

pub returns-in-Equal-clause-found : goal.returns-in-Equal-clause-found
returns-in-Equal-clause-found g t c = let node = c.deref-node.result.now in
    equal_found _ _ node.left.items node.value node.right.items (sym (ap (λ s. s.items) c.self.view_is) ∙ ap (λ f. (held f).items) c.in-Owned.is ∙ ap (λ n. n.left.items ++ n.value ∷ n.right.items) (sym c.deref-node.ensures)) _ (sym c.in-Equal.ensures) c.find_in-place-in-Equal.ensures.place

pub returns-in-Greater-clause-place : goal.returns-in-Greater-clause-place
returns-in-Greater-clause-place g t c = let node = c.deref-node.result.now in
    left_place _ _ node.left.items node.value node.right.items (sym (ap (λ s. s.items) c.self.view_is) ∙ ap (λ f. (held f).items) c.in-Owned.is ∙ ap (λ n. n.left.items ++ n.value ∷ n.right.items) (sym c.deref-node.ensures)) _ (ap is_lt (sym c.in-Greater.ensures)) c.find_in-in-Greater.ensures.place

pub returns-in-Greater-clause-found : goal.returns-in-Greater-clause-found
returns-in-Greater-clause-found g t c = let node = c.deref-node.result.now in
    greater_found _ _ node.left.items node.value node.right.items (sym (ap (λ s. s.items) c.self.view_is) ∙ ap (λ f. (held f).items) c.in-Owned.is ∙ ap (λ n. n.left.items ++ n.value ∷ n.right.items) (sym c.deref-node.ensures)) _ _ (sym c.in-Greater.ensures) c.find_in-in-Greater.ensures.place c.find_in-in-Greater.ensures.found
