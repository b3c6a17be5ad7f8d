-- A cell keeps its kind.
use Rattle.std.proofs.Common.{◌≡◌, ◌+◌, Bool, true, false, List, [], ◌∷◌, refl, sym, subst, Option, Some, None, Ok, Err}
use Rattle.std.specs.Prelude.{Result, IfOk, if◌then◌else◌}
use Rattle.imm_base.specs.declared.val.Val.{Val}
use Rattle.imm_base.specs.declared.val.Edit.{Edit}
use Rattle.imm_base.specs.declared.val.Edit.TheVariants.{Same, New}
use Rattle.imm_base.specs.Edits.{Gives, is_over}
use Rattle.imm_base.specs.Order.{val_eq}
use Rattle.plain_model.specs.declared.plain.Kind.{Kind}
use Rattle.plain_model.specs.declared.plain.Values.{Values}
use Rattle.plain_model.specs.declared.plain.Values.TheVariants as values
use Rattle.plain_model.specs.declared.plain.Plain.{Plain}
use Rattle.plain_model.specs.declared.commands.PlainOp.{PlainOp}
use Rattle.plain_model.specs.declared.commands.PlainOp.TheVariants as ops
use Rattle.plain_model.specs.declared.commands.Transform.{Transform}
use Rattle.plain_model.specs.declared.commands.Factory.{Factory}
use Rattle.plain_model.specs.declared.commands.Probe.{Probe}
use Rattle.plain_model.specs.declared.commands.Probe.TheVariants.{Idle, Ran}
use Rattle.plain_model.specs.declared.commands.PlainCall.{PlainCall}
use Rattle.plain_model.specs.declared.commands.PlainCall.TheVariants as calls
use Rattle.plain_model.specs.declared.history.Reply.{Reply}
use Rattle.plain_model.specs.Cell.{IfInstalls, add_if_room, add_or_update, cell, get_or_add, get_or_add_made, is_map, is_queue, is_stack, new_value, put_unless_equal, transformed, try_add, try_remove, try_take, try_update, update, update_by, value_in, where_it_is}
use Rattle.plain_model.specs.Cell as model
use Rattle.plain_model.specs.Plain.{Shape, list_like, stack_like, queue_like, set_like, map_like, shape_of, shape_op, Changed, IfChanged, of_list, of_pairs, list_op, stack_op, queue_op, set_op, map_op, order_of, same_of, elements, pairs, count, plain}
use Rattle.cell_calls.specs.declared.call.CellCall.{CellCall}
use Rattle.cell_calls.specs.declared.call.CellCall.TheVariants as cells
use Rattle.cell_calls.specs.declared.outcome.Outcome.{Outcome}
use Rattle.cell_calls.specs.Calls.{plain_call, PlainSuits, Suits}
use Rattle.cell_calls.specs.Outcomes.{installs_of, plain_outcome, KeepsKind}

-- ---- operations

-- another collection of the same kind, where there is one
abbrev pub ChangesWithin : Plain → Changed → Type 0
ChangesWithin p c = IfChanged c (λ q. q.kind ≡ p.kind)

list_keeps : (p : Plain) (g : Gives Val (List Val)) → ChangesWithin p (of_list p g)
list_keeps p (Ok Same) = tt
list_keeps p (Ok (New xs)) = refl
list_keeps p (Err why) = tt

pairs_keep : (p : Plain) (g : Gives Val (List (Val × Val))) → ChangesWithin p (of_pairs p g)
pairs_keep p (Ok Same) = tt
pairs_keep p (Ok (New ps)) = refl
pairs_keep p (Err why) = tt

shape_keeps : (s : Shape) (op : PlainOp) (p : Plain) → ChangesWithin p (shape_op s op p)
shape_keeps list_like op p = list_keeps p (list_op op (elements p.values))
shape_keeps stack_like op p = list_keeps p (stack_op op (elements p.values))
shape_keeps queue_like op p = list_keeps p (queue_op op (elements p.values))
shape_keeps set_like op p = list_keeps p (set_op (order_of p.kind) (same_of p.kind) op (elements p.values))
shape_keeps map_like op p = pairs_keep p (map_op (order_of p.kind) (same_of p.kind) op (pairs p.values))

-- an operation gives a collection of the same kind
pub plain_keeps : (op : PlainOp) (p : Plain) → ChangesWithin p (plain op p)
plain_keeps op p = shape_keeps (shape_of p.kind) op p

-- ---- calls

-- what is installed, if anything is, has this kind
abbrev pub InstallsWithin : Kind → model.Outcome → Type 0
InstallsWithin kind o = IfInstalls o (λ q. q.kind ≡ kind)

update_keeps : (p : Plain) (c : Changed) → ChangesWithin p c → InstallsWithin p.kind (update c)
update_keeps p (Ok Same) h = tt
update_keeps p (Ok (New q)) h = h
update_keeps p (Err r) h = tt

update_by_keeps : (op : PlainOp) (vs : Values) (p : Plain) → InstallsWithin p.kind (update_by op vs p)
update_by_keeps op values.Unset p = tt
update_by_keeps op (values.List xs) p = update_keeps p (plain op p) (plain_keeps op p)
update_by_keeps op (values.Pairs ps) p = update_keeps p (plain op p) (plain_keeps op p)
update_by_keeps op (values.Seq first n) p = update_keeps p (plain op p) (plain_keeps op p)

here_keeps : (kind : Kind) (b : Bool) (o : model.Outcome) → InstallsWithin kind o → InstallsWithin kind (where_it_is b o)
here_keeps kind true o h = h
here_keeps kind false o h = tt

-- a choice of outcomes
either_keeps : (kind : Kind) (b : Bool) (o u : model.Outcome) → InstallsWithin kind o → InstallsWithin kind u → InstallsWithin kind (if b then o else u)
either_keeps kind true o u h g = h
either_keeps kind false o u h g = g

room_keeps : (k v : Val) (r : Reply) (p : Plain) → InstallsWithin p.kind (add_if_room k v r p)
room_keeps k v r p = either_keeps p.kind (is_over (count p.values + 1)) _ _ tt refl

get_or_add_keeps : (k v : Val) (p : Plain) (found : Option Val) → InstallsWithin p.kind (get_or_add k v p found)
get_or_add_keeps k v p (Some u) = tt
get_or_add_keeps k v p None = room_keeps k v _ p

add_or_update_keeps : (k v : Val) (t : Transform) (p : Plain) (found : Option Val) → InstallsWithin p.kind (add_or_update k v t p found)
add_or_update_keeps k v t p (Some u) = either_keeps p.kind (val_eq (transformed t u) u) _ _ tt refl
add_or_update_keeps k v t p None = room_keeps k v _ p

try_add_keeps : (k v : Val) (p : Plain) (found : Option Val) → InstallsWithin p.kind (try_add k v p found)
try_add_keeps k v p (Some u) = tt
try_add_keeps k v p None = room_keeps k v _ p

try_update_keeps : (k v c : Val) (p : Plain) (found : Option Val) → InstallsWithin p.kind (try_update k v c p found)
try_update_keeps k v c p (Some u) = either_keeps p.kind (val_eq u c) _ _ refl tt
try_update_keeps k v c p None = tt

try_remove_keeps : (k : Val) (p : Plain) (found : Option Val) → InstallsWithin p.kind (try_remove k p found)
try_remove_keeps k p (Some u) = refl
try_remove_keeps k p None = tt

made_keeps : (k : Val) (make : Factory) (probe : Probe) (p : Plain) (found : Option Val) → InstallsWithin p.kind (get_or_add_made k make probe p found)
made_keeps k make Idle p (Some u) = tt
made_keeps k make Idle p None = tt
made_keeps k make (Ran position) p found = get_or_add_keeps k (new_value make k) p found

take_keeps : (p : Plain) (xs : List Val) → InstallsWithin p.kind (try_take p xs)
take_keeps p [] = tt
take_keeps p (x ∷ xs) = refl

plain_call_keeps : (call : PlainCall) (p : Plain) → PlainSuits call → InstallsWithin p.kind (cell call p)
plain_call_keeps (calls.Update op) p s = update_by_keeps op p.values p
plain_call_keeps calls.Read p s = tt
plain_call_keeps (calls.Publish q) p s = absurd s
plain_call_keeps (calls.GetOrAdd k v) p s = here_keeps p.kind (is_map (shape_of p.kind)) _ (get_or_add_keeps k v p (value_in k p))
plain_call_keeps (calls.AddOrUpdate k v t) p s = here_keeps p.kind (is_map (shape_of p.kind)) _ (add_or_update_keeps k v t p (value_in k p))
plain_call_keeps (calls.TryAdd k v) p s = here_keeps p.kind (is_map (shape_of p.kind)) _ (try_add_keeps k v p (value_in k p))
plain_call_keeps (calls.TryUpdate k v c) p s = here_keeps p.kind (is_map (shape_of p.kind)) _ (try_update_keeps k v c p (value_in k p))
plain_call_keeps (calls.TryRemove k) p s = here_keeps p.kind (is_map (shape_of p.kind)) _ (try_remove_keeps k p (value_in k p))
plain_call_keeps (calls.Push v) p s = update_keeps p (plain (ops.Push v) p) (plain_keeps (ops.Push v) p)
plain_call_keeps calls.TryPop p s = here_keeps p.kind (is_stack (shape_of p.kind)) _ (take_keeps p (elements p.values))
plain_call_keeps (calls.Enqueue v) p s = update_keeps p (plain (ops.Enqueue v) p) (plain_keeps (ops.Enqueue v) p)
plain_call_keeps calls.TryDequeue p s = here_keeps p.kind (is_queue (shape_of p.kind)) _ (take_keeps p (elements p.values))
plain_call_keeps (calls.Exchange xs) p s = absurd s
plain_call_keeps (calls.CompareExchange xs wanted) p s = absurd s
plain_call_keeps (calls.Initialize xs) p s = absurd s
plain_call_keeps (calls.GetOrAddMade k make probe) p s = here_keeps p.kind (is_map (shape_of p.kind)) _ (made_keeps k make probe p (value_in k p))
plain_call_keeps (calls.AddOrUpdateMade k make t) p s = here_keeps p.kind (is_map (shape_of p.kind)) _ (add_or_update_keeps k (new_value make k) t p (value_in k p))

-- a call that suits the kind installs a value of the kind
pub call_keeps : (call : CellCall) (p : Plain) → Suits call p.kind → InstallsWithin p.kind (cell (plain_call call) p)
call_keeps (cells.Plain call) p s = plain_call_keeps call p s
call_keeps (cells.Publish q) p s = s

edit_keeps : (kind : Kind) (e : Edit Plain) (r : Reply) (given : model.Outcome) → record { installs = installs_of e; reply = r } ≡ given → InstallsWithin kind given → KeepsKind kind e
edit_keeps kind Same r given is h = tt
edit_keeps kind (New q) r given is h = subst (InstallsWithin kind) (sym is) h

-- an outcome of the model keeps the kind
pub outcome_keeps : {E : Type 0} (kind : Kind) (r : Result Outcome E) (given : model.Outcome) → IfOk r (λ o. plain_outcome o ≡ given) → InstallsWithin kind given → IfOk r (λ o. KeepsKind kind o.edit)
outcome_keeps kind (Ok o) given is h = edit_keeps kind o.edit o.reply given is h
outcome_keeps kind (Err e) given is h = tt
