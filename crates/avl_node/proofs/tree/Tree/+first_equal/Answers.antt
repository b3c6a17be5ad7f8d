use Rattle.std.proofs.Common.{◌∙◌, ◌++◌, ◌∷◌, length, sym, ap, subst}
use Rattle.std.specs.Option.{option_copied}
use Rattle.std.specs.Ordering.{is_lt}
use Rattle.avl_node.specs.Shape.{listed, IsAvl}
use Rattle.avl_node.proofs.SideLemmas.{less_place, less_element, left_place, equal_element, greater_element, map_or}
use Rattle.avl_node.proofs.tree.Tree.+first_equal.Goals as goal

pub returns-in-Less-clause-place : goal.returns-in-Less-clause-place
returns-in-Less-clause-place g t c =
    less_place _ _ c.deref-node.result.now.left.items c.deref-node.result.now.value c.deref-node.result.now.right.items (sym (ap (λ s. s.items) c.self.view_is) ∙ ap (λ r. (listed r).items) c.in-Fork.is ∙ ap (λ n. n.left.items ++ n.value ∷ n.right.items) (sym c.deref-node.ensures)) _ _ (ap (λ n. n.before) c.deref-node.ensures ∙ (subst (λ r. IsAvl r) c.in-Fork.is c.self.invariant).4 ∙ ap (λ n. length n.left.items) (sym c.deref-node.ensures)) (sym c.in-Less.ensures) c.first_equal-place.ensures.place

pub returns-in-Less-clause-element : goal.returns-in-Less-clause-element
returns-in-Less-clause-element g t c =
    less_element _ _ c.deref-node.result.now.left.items c.deref-node.result.now.value c.deref-node.result.now.right.items (sym (ap (λ s. s.items) c.self.view_is) ∙ ap (λ r. (listed r).items) c.in-Fork.is ∙ ap (λ n. n.left.items ++ n.value ∷ n.right.items) (sym c.deref-node.ensures)) _ _ _ (ap (λ n. n.before) c.deref-node.ensures ∙ (subst (λ r. IsAvl r) c.in-Fork.is c.self.invariant).4 ∙ ap (λ n. length n.left.items) (sym c.deref-node.ensures)) c.first_equal-place.ensures.element

pub returns-in-Equal-clause-place : goal.returns-in-Equal-clause-place
returns-in-Equal-clause-place g t c =
    left_place _ _ c.deref-node.result.now.left.items c.deref-node.result.now.value c.deref-node.result.now.right.items (sym (ap (λ s. s.items) c.self.view_is) ∙ ap (λ r. (listed r).items) c.in-Fork.is ∙ ap (λ n. n.left.items ++ n.value ∷ n.right.items) (sym c.deref-node.ensures)) _ (ap is_lt (sym c.in-Equal.ensures)) c.first_equal-place-in-Equal.ensures.place

pub returns-in-Equal-clause-element : goal.returns-in-Equal-clause-element
returns-in-Equal-clause-element g t c up =
    ap option_copied c.or.ensures ∙ map_or _ c.first_equal-place-in-Equal.result.1 _ ∙ equal_element _ _ c.deref-node.result.now.left.items c.deref-node.result.now.value c.deref-node.result.now.right.items (sym (ap (λ s. s.items) c.self.view_is) ∙ ap (λ r. (listed r).items) c.in-Fork.is ∙ ap (λ n. n.left.items ++ n.value ∷ n.right.items) (sym c.deref-node.ensures)) _ _ (sym c.in-Equal.ensures) c.first_equal-place-in-Equal.ensures.place c.first_equal-place-in-Equal.ensures.element up

pub returns-in-Greater-clause-place : goal.returns-in-Greater-clause-place
returns-in-Greater-clause-place g t c =
    left_place _ _ c.deref-node.result.now.left.items c.deref-node.result.now.value c.deref-node.result.now.right.items (sym (ap (λ s. s.items) c.self.view_is) ∙ ap (λ r. (listed r).items) c.in-Fork.is ∙ ap (λ n. n.left.items ++ n.value ∷ n.right.items) (sym c.deref-node.ensures)) _ (ap is_lt (sym c.in-Greater.ensures)) c.first_equal.ensures.place

pub returns-in-Greater-clause-element : goal.returns-in-Greater-clause-element
returns-in-Greater-clause-element g t c =
    greater_element _ _ c.deref-node.result.now.left.items c.deref-node.result.now.value c.deref-node.result.now.right.items (sym (ap (λ s. s.items) c.self.view_is) ∙ ap (λ r. (listed r).items) c.in-Fork.is ∙ ap (λ n. n.left.items ++ n.value ∷ n.right.items) (sym c.deref-node.ensures)) _ _ (sym c.in-Greater.ensures) c.first_equal.ensures.place c.first_equal.ensures.element
