use Rattle.std.proofs.Common.{ap, ◌∙◌}
use Rattle.plain_model.specs.Plain.{list_op, plain}
use Rattle.collections.specs.Changes.{change_map}
use Rattle.collections.specs.Kinds.{array_of, list_of}
use Rattle.collections.proofs.Arrays.{changed_as_list, few_as_list}
use Rattle.collections.proofs.array.change_as_list.Goals as goal

pub array_change-requires : goal.array_change-requires
array_change-requires c = λ other is.
    let xs = c.args.array.now in
    few_as_list c.args.op.now xs c.in_ok-change.change other c.as_slice.ensures.short
    (c.in_ok-change.ensures ∙ ap (λ ys. plain c.args.op.now (list_of ys)) (c.in_ok-list.ensures ∙ c.as_slice.ensures.elements)) is

pub returns : goal.returns
returns c =
    let xs = c.args.array.now in
    ap (λ d. change_map array_of d) c.in_ok-changed.ensures
    ∙ changed_as_list xs c.in_ok-change.change (list_op c.args.op.now xs)
    (c.in_ok-change.ensures ∙ ap (λ ys. plain c.args.op.now (list_of ys)) (c.in_ok-list.ensures ∙ c.as_slice.ensures.elements))
