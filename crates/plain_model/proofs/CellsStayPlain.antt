-- What a call installs in a cell is well formed, and so is what a cell begins with.
use Rattle.std.proofs.Common.{◌≡◌, ℕ, suc, ◌+◌, ◌≤◌, Bool, true, false, not, ◌&&◌, List, [], ◌∷◌, length, None, Some, Ok, Err, inl, inr, refl, ap, sym, subst, ◌∙◌, arith}
use Rattle.std.specs.Prelude.{Option, Result, is_some, option_map, IfOk, if◌then◌else◌}
use Rattle.std.specs.declared.cmp.Ordering.{Ordering}
use Rattle.imm_base.specs.declared.TheConstants.{LIMIT}
use Rattle.imm_base.specs.declared.val.Val.{Val}
use Rattle.imm_base.specs.declared.val.Edit.TheVariants.{Same, New}
use Rattle.imm_base.specs.Order.{val_eq}
use Rattle.imm_base.specs.Edits.{is_over, Gives, too_large}
use Rattle.imm_base.specs.Maps.{Entries, entry_of, value_of, has_key, with_pair, without_key}
use Rattle.imm_base.specs.Kept.{CanKeep, IsPlainMap, IfNew}
use Rattle.imm_base.proofs.KeptMaps.{without_kept, map_with_kept}
use Rattle.plain_model.specs.declared.plain.Kind.{Kind}
use Rattle.plain_model.specs.declared.plain.Kind.TheVariants as kinds
use Rattle.plain_model.specs.declared.plain.Values.{Values}
use Rattle.plain_model.specs.declared.plain.Values.TheVariants as values
use Rattle.plain_model.specs.declared.plain.Plain.{Plain}
use Rattle.plain_model.specs.declared.commands.PlainOp.{PlainOp}
use Rattle.plain_model.specs.declared.commands.PlainOp.TheVariants as ops
use Rattle.plain_model.specs.declared.commands.Transform.{Transform}
use Rattle.plain_model.specs.declared.commands.Factory.{Factory}
use Rattle.plain_model.specs.declared.commands.Probe.{Probe}
use Rattle.plain_model.specs.declared.commands.Probe.TheVariants.{Idle, Ran}
use Rattle.plain_model.specs.declared.commands.PlainCall.{PlainCall}
use Rattle.plain_model.specs.declared.commands.PlainCall.TheVariants as calls
use Rattle.plain_model.specs.declared.history.Reply.{Reply}
use Rattle.plain_model.specs.declared.history.Reply.TheVariants.{Flag, Value, Refused}
use Rattle.plain_model.specs.declared.history.Refusal.{Refusal}
use Rattle.plain_model.specs.declared.history.Refusal.TheVariants as refusals
use Rattle.plain_model.specs.Plain.{Shape, shape_of, order_of, same_of, elements, pairs, count, is_unset, IsPlain, IsUnset, IsCellValue, unset_array, Changed, IfChanged, plain, made, BeginsPlain}
use Rattle.plain_model.specs.Cell.{Outcome, reply_only, install_and_reply, where_it_is, update, update_by, is_map, with_value, without_value, add_if_room, get_or_add, put_unless_equal, add_or_update, try_add, try_update, try_remove, value_in, new_value, get_or_add_made, is_stack, is_queue, try_take, is_array, arrays_eq, array_reply, with_array, compare_exchange, initialize, cell, BringsPlain, IfInstalls, InstallsPlain, transformed}
use Rattle.plain_model.proofs.StaysPlain.{of, by_order, by_equality, stays_plain, is_made_plain}

-- ---- operations

if_changed : (c : Changed) → IfChanged c IsPlain → IfInstalls (update c) IsPlain
if_changed (Ok Same) h = tt
if_changed (Ok (New q)) h = h
if_changed (Err r) h = tt

update_installs : (op : PlainOp) (kind : Kind) (vs : Values) → IsPlain (of kind vs) → IfInstalls (update_by op vs (of kind vs)) IsPlain
update_installs op kind (values.List xs) is = if_changed (plain op (of kind (values.List xs))) (stays_plain op (of kind (values.List xs)) is)
update_installs op kind (values.Pairs ps) is = if_changed (plain op (of kind (values.Pairs ps))) (stays_plain op (of kind (values.Pairs ps)) is)
update_installs op kind (values.Seq first n) is = if_changed (plain op (of kind (values.Seq first n))) (stays_plain op (of kind (values.Seq first n)) is)
update_installs op kind values.Unset is = tt

-- ---- calls on a key

-- what is known of the map that a call on a key meets
record IsMapOf (kind : Kind) (m : Entries Val Val) : Type 0 where
  keep : CanKeep (order_of kind) (same_of kind)
  map : IsPlainMap (order_of kind) (same_of kind) m
  plain : (n : Entries Val Val) → IsPlainMap (order_of kind) (same_of kind) n → IsPlain (of kind (values.Pairs n))

on_maps : (F : Kind → Values → Outcome) → ((kind : Kind) (m : Entries Val Val) → IsMapOf kind m → IfInstalls (F kind (values.Pairs m)) IsPlain)
    → (kind : Kind) (vs : Values) → IsPlain (of kind vs) → IfInstalls (where_it_is (is_map (shape_of kind)) (F kind vs)) IsPlain
on_maps F f kinds.List vs is = tt
on_maps F f kinds.Array vs is = tt
on_maps F f kinds.Stack vs is = tt
on_maps F f kinds.Queue vs is = tt
on_maps F f (kinds.SSet order) vs is = tt
on_maps F f (kinds.HSet eq) vs is = tt
on_maps F f (kinds.SMap order) (values.Pairs m) is =
    f (kinds.SMap order) m (record { keep = by_order order; map = record { fits = is.fits; set = is.kept }; plain = λ n h. record { fits = h.fits; kept = h.set } })
on_maps F f (kinds.SMap order) (values.List xs) is = absurd is.kept
on_maps F f (kinds.SMap order) (values.Seq first n) is = absurd is.kept
on_maps F f (kinds.SMap order) values.Unset is = absurd is.kept
on_maps F f (kinds.Dict eq) (values.Pairs m) is =
    f (kinds.Dict eq) m (record { keep = by_equality eq; map = record { fits = is.fits; set = is.kept }; plain = λ n h. record { fits = h.fits; kept = h.set } })
on_maps F f (kinds.Dict eq) (values.List xs) is = absurd is.kept
on_maps F f (kinds.Dict eq) (values.Seq first n) is = absurd is.kept
on_maps F f (kinds.Dict eq) values.Unset is = absurd is.kept

-- a pair in place of one that is there, and one that is new where there is room
replaced_plain : (kind : Kind) (m : Entries Val Val) (k v u : Val) → IsMapOf kind m → value_of (same_of kind) k m ≡ Some u
    → IsPlain (with_value k v (of kind (values.Pairs m)))
replaced_plain kind m k v u is e = is.plain (with_pair (order_of kind) (same_of kind) k v m)
    (subst (λ t. IfNew {V = Val} (if not t && is_over (length m + 1) then Err (too_large (length m)) else Ok (New (with_pair (order_of kind) (same_of kind) k v m))) (IsPlainMap (order_of kind) (same_of kind)))
    (present (entry_of (same_of kind) k m) e) (map_with_kept (order_of kind) (same_of kind) is.keep k v m is.map))
  where
    present : (x : Option (Val × Val)) → option_map (λ y. y.1) x ≡ Some u → is_some x ≡ true
    present None e = absurd (let f : None ≡ Some u = e in cc)
    present (Some y) e = refl

added_plain : (kind : Kind) (m : Entries Val Val) (k v : Val) (reply : Reply) → IsMapOf kind m → IfInstalls (add_if_room k v reply (of kind (values.Pairs m))) IsPlain
added_plain kind m k v reply is = at (is_over (length m + 1)) (map_with_kept (order_of kind) (same_of kind) is.keep k v m is.map)
  where
    at : (b : Bool) → IfNew {V = Val} (if not (has_key (same_of kind) k m) && b then Err (too_large (length m)) else Ok (New (with_pair (order_of kind) (same_of kind) k v m))) (IsPlainMap (order_of kind) (same_of kind))
        → IfInstalls (if b then reply_only (Refused (refusals.TooLarge (length m))) else install_and_reply (with_value k v (of kind (values.Pairs m))) reply) IsPlain
    at true h = tt
    at false h = is.plain (with_pair (order_of kind) (same_of kind) k v m) (new (has_key (same_of kind) k m) h)
      where
        new : (t : Bool) → IfNew {V = Val} (if not t && false then Err (too_large (length m)) else Ok (New (with_pair (order_of kind) (same_of kind) k v m))) (IsPlainMap (order_of kind) (same_of kind))
            → IsPlainMap (order_of kind) (same_of kind) (with_pair (order_of kind) (same_of kind) k v m)
        new true h = h
        new false h = h

if_else : (b : Bool) (o q : Outcome) → IfInstalls o IsPlain → IfInstalls q IsPlain → IfInstalls (if b then o else q) IsPlain
if_else true o q f g = f
if_else false o q f g = g

get_or_add_installs : (k v : Val) (kind : Kind) (m : Entries Val Val) → IsMapOf kind m → (found : Option Val) → IfInstalls (get_or_add k v (of kind (values.Pairs m)) found) IsPlain
get_or_add_installs k v kind m is None = added_plain kind m k v (Value v) is
get_or_add_installs k v kind m is (Some u) = tt

add_or_update_installs : (k v : Val) (t : Transform) (kind : Kind) (m : Entries Val Val) → IsMapOf kind m → (found : Option Val) → value_of (same_of kind) k m ≡ found
    → IfInstalls (add_or_update k v t (of kind (values.Pairs m)) found) IsPlain
add_or_update_installs k v t kind m is None e = added_plain kind m k v (Value v) is
add_or_update_installs k v t kind m is (Some u) e =
    if_else (val_eq (transformed t u) u) (reply_only (Value (transformed t u))) (install_and_reply (with_value k (transformed t u) (of kind (values.Pairs m))) (Value (transformed t u)))
    tt (replaced_plain kind m k (transformed t u) u is e)

try_add_installs : (k v : Val) (kind : Kind) (m : Entries Val Val) → IsMapOf kind m → (found : Option Val) → IfInstalls (try_add k v (of kind (values.Pairs m)) found) IsPlain
try_add_installs k v kind m is None = added_plain kind m k v (Flag true) is
try_add_installs k v kind m is (Some u) = tt

try_update_installs : (k v c : Val) (kind : Kind) (m : Entries Val Val) → IsMapOf kind m → (found : Option Val) → value_of (same_of kind) k m ≡ found
    → IfInstalls (try_update k v c (of kind (values.Pairs m)) found) IsPlain
try_update_installs k v c kind m is None e = tt
try_update_installs k v c kind m is (Some u) e =
    if_else (val_eq u c) (install_and_reply (with_value k v (of kind (values.Pairs m))) (Flag true)) (reply_only (Flag false)) (replaced_plain kind m k v u is e) tt

try_remove_installs : (k : Val) (kind : Kind) (m : Entries Val Val) → IsMapOf kind m → (found : Option Val) → IfInstalls (try_remove k (of kind (values.Pairs m)) found) IsPlain
try_remove_installs k kind m is None = tt
try_remove_installs k kind m is (Some u) = is.plain (without_key (same_of kind) k m) (without_kept (order_of kind) (same_of kind) k m is.map)

made_installs : (k : Val) (make : Factory) (probe : Probe) (kind : Kind) (m : Entries Val Val) → IsMapOf kind m → (found : Option Val)
    → IfInstalls (get_or_add_made k make probe (of kind (values.Pairs m)) found) IsPlain
made_installs k make Idle kind m is None = tt
made_installs k make Idle kind m is (Some u) = tt
made_installs k make (Ran position) kind m is found = get_or_add_installs k (new_value make k) kind m is found

-- ---- stacks and queues

fewer : (n : ℕ) → suc n ≤ LIMIT → n ≤ LIMIT
fewer n h = omega arith

take_installs : (kind : Kind) (xs : List Val) → ((ys : List Val) → length ys ≤ LIMIT → IsPlain (of kind (values.List ys))) → length xs ≤ LIMIT
    → IfInstalls (try_take (of kind (values.List xs)) xs) IsPlain
take_installs kind [] f h = tt
take_installs kind (x ∷ xs) f h = f xs (fewer (length xs) h)

pop_installs : (kind : Kind) (vs : Values) → IsPlain (of kind vs) → IfInstalls (where_it_is (is_stack (shape_of kind)) (try_take (of kind vs) (elements vs))) IsPlain
pop_installs kinds.Stack (values.List xs) is = take_installs kinds.Stack xs (λ ys h. record { fits = h; kept = tt }) is.fits
pop_installs kinds.Stack (values.Pairs ps) is = absurd is.kept
pop_installs kinds.Stack (values.Seq first n) is = absurd is.kept
pop_installs kinds.Stack values.Unset is = absurd is.kept
pop_installs kinds.List vs is = tt
pop_installs kinds.Array vs is = tt
pop_installs kinds.Queue vs is = tt
pop_installs (kinds.SSet order) vs is = tt
pop_installs (kinds.SMap order) vs is = tt
pop_installs (kinds.Dict eq) vs is = tt
pop_installs (kinds.HSet eq) vs is = tt

dequeue_installs : (kind : Kind) (vs : Values) → IsPlain (of kind vs) → IfInstalls (where_it_is (is_queue (shape_of kind)) (try_take (of kind vs) (elements vs))) IsPlain
dequeue_installs kinds.Queue (values.List xs) is = take_installs kinds.Queue xs (λ ys h. record { fits = h; kept = tt }) is.fits
dequeue_installs kinds.Queue (values.Pairs ps) is = absurd is.kept
dequeue_installs kinds.Queue (values.Seq first n) is = absurd is.kept
dequeue_installs kinds.Queue values.Unset is = absurd is.kept
dequeue_installs kinds.List vs is = tt
dequeue_installs kinds.Array vs is = tt
dequeue_installs kinds.Stack vs is = tt
dequeue_installs (kinds.SSet order) vs is = tt
dequeue_installs (kinds.SMap order) vs is = tt
dequeue_installs (kinds.Dict eq) vs is = tt
dequeue_installs (kinds.HSet eq) vs is = tt

-- ---- arrays

on_arrays : (kind : Kind) (vs : Values) (xs : List Val) → length xs ≤ LIMIT → (o : Outcome) → (((r : IsPlain (of kinds.Array (values.List xs))) → kind ≡ kinds.Array → IfInstalls o IsPlain))
    → IfInstalls (where_it_is (is_array kind) o) IsPlain
on_arrays kinds.Array vs xs h o f = f (record { fits = h; kept = tt }) refl
on_arrays kinds.List vs xs h o f = tt
on_arrays kinds.Stack vs xs h o f = tt
on_arrays kinds.Queue vs xs h o f = tt
on_arrays (kinds.SSet order) vs xs h o f = tt
on_arrays (kinds.SMap order) vs xs h o f = tt
on_arrays (kinds.Dict eq) vs xs h o f = tt
on_arrays (kinds.HSet eq) vs xs h o f = tt

-- the array that a call brings, in place of any value of an array cell
brought : (kind : Kind) (xs : List Val) → IsPlain (of kinds.Array (values.List xs)) → kind ≡ kinds.Array → IsPlain (of kind (values.List xs))
brought kind xs is e = subst (λ k. IsPlain (of k (values.List xs))) (sym e) is

exchange_installs : (kind : Kind) (vs : Values) (xs : List Val) → length xs ≤ LIMIT → IfInstalls (cell (calls.Exchange xs) (of kind vs)) IsPlain
exchange_installs kind vs xs h = on_arrays kind vs xs h (install_and_reply (with_array xs (of kind vs)) (array_reply vs)) (brought kind xs)

compare_installs : (kind : Kind) (vs : Values) (xs : List Val) (wanted : Values) → length xs ≤ LIMIT → IfInstalls (cell (calls.CompareExchange xs wanted) (of kind vs)) IsPlain
compare_installs kind vs xs wanted h = on_arrays kind vs xs h (compare_exchange xs wanted (of kind vs)) (λ is e.
    if_else (arrays_eq vs wanted) (install_and_reply (with_array xs (of kind vs)) (array_reply vs)) (reply_only (array_reply vs)) (brought kind xs is e) tt)

initialize_installs : (kind : Kind) (vs : Values) (xs : List Val) → length xs ≤ LIMIT → IfInstalls (cell (calls.Initialize xs) (of kind vs)) IsPlain
initialize_installs kind vs xs h = on_arrays kind vs xs h (initialize xs (of kind vs)) (λ is e.
    if_else (is_unset vs) (install_and_reply (with_array xs (of kind vs)) (Flag true)) (reply_only (Flag false)) (brought kind xs is e) tt)

-- ---- calls

installs_of : (call : PlainCall) (kind : Kind) (vs : Values) → IsPlain (of kind vs) → BringsPlain call → IfInstalls (cell call (of kind vs)) IsPlain
installs_of (calls.Update op) kind vs is brings = update_installs op kind vs is
installs_of calls.Read kind vs is brings = tt
installs_of (calls.Publish q) kind vs is brings = brings
installs_of (calls.GetOrAdd k v) kind vs is brings =
    on_maps (λ h us. get_or_add k v (of h us) (value_in k (of h us))) (λ h m map. get_or_add_installs k v h m map (value_of (same_of h) k m)) kind vs is
installs_of (calls.AddOrUpdate k v t) kind vs is brings =
    on_maps (λ h us. add_or_update k v t (of h us) (value_in k (of h us))) (λ h m map. add_or_update_installs k v t h m map (value_of (same_of h) k m) refl) kind vs is
installs_of (calls.TryAdd k v) kind vs is brings =
    on_maps (λ h us. try_add k v (of h us) (value_in k (of h us))) (λ h m map. try_add_installs k v h m map (value_of (same_of h) k m)) kind vs is
installs_of (calls.TryUpdate k v c) kind vs is brings =
    on_maps (λ h us. try_update k v c (of h us) (value_in k (of h us))) (λ h m map. try_update_installs k v c h m map (value_of (same_of h) k m) refl) kind vs is
installs_of (calls.TryRemove k) kind vs is brings =
    on_maps (λ h us. try_remove k (of h us) (value_in k (of h us))) (λ h m map. try_remove_installs k h m map (value_of (same_of h) k m)) kind vs is
installs_of (calls.Push v) kind vs is brings = if_changed (plain (ops.Push v) (of kind vs)) (stays_plain (ops.Push v) (of kind vs) is)
installs_of calls.TryPop kind vs is brings = pop_installs kind vs is
installs_of (calls.Enqueue v) kind vs is brings = if_changed (plain (ops.Enqueue v) (of kind vs)) (stays_plain (ops.Enqueue v) (of kind vs) is)
installs_of calls.TryDequeue kind vs is brings = dequeue_installs kind vs is
installs_of (calls.Exchange xs) kind vs is brings = exchange_installs kind vs xs brings
installs_of (calls.CompareExchange xs wanted) kind vs is brings = compare_installs kind vs xs wanted brings
installs_of (calls.Initialize xs) kind vs is brings = initialize_installs kind vs xs brings
installs_of (calls.GetOrAddMade k make probe) kind vs is brings =
    on_maps (λ h us. get_or_add_made k make probe (of h us) (value_in k (of h us))) (λ h m map. made_installs k make probe h m map (value_of (same_of h) k m)) kind vs is
installs_of (calls.AddOrUpdateMade k make t) kind vs is brings =
    on_maps (λ h us. add_or_update k (new_value make k) t (of h us) (value_in k (of h us))) (λ h m map. add_or_update_installs k (new_value make k) t h m map (value_of (same_of h) k m) refl) kind vs is

-- an unset array
installs_unset : (call : PlainCall) → BringsPlain call → IfInstalls (cell call unset_array) IsPlain
installs_unset (calls.Update op) brings = tt
installs_unset calls.Read brings = tt
installs_unset (calls.Publish q) brings = brings
installs_unset (calls.GetOrAdd k v) brings = tt
installs_unset (calls.AddOrUpdate k v t) brings = tt
installs_unset (calls.TryAdd k v) brings = tt
installs_unset (calls.TryUpdate k v c) brings = tt
installs_unset (calls.TryRemove k) brings = tt
installs_unset (calls.Push v) brings = tt
installs_unset calls.TryPop brings = tt
installs_unset (calls.Enqueue v) brings = tt
installs_unset calls.TryDequeue brings = tt
installs_unset (calls.Exchange xs) brings = exchange_installs kinds.Array values.Unset xs brings
installs_unset (calls.CompareExchange xs wanted) brings = compare_installs kinds.Array values.Unset xs wanted brings
installs_unset (calls.Initialize xs) brings = initialize_installs kinds.Array values.Unset xs brings
installs_unset (calls.GetOrAddMade k make probe) brings = tt
installs_unset (calls.AddOrUpdateMade k make t) brings = tt

pub installs_plain : InstallsPlain
installs_plain call p (inl is) brings = installs_of call p.kind p.values is brings
installs_plain call p (inr is) brings =
    subst (λ vs. IfInstalls (cell call (of p.kind vs)) IsPlain) (sym is.values)
    (subst (λ kind. IfInstalls (cell call (of kind values.Unset)) IsPlain) (sym is.kind) (installs_unset call brings))

-- ---- what a cell begins with

as_value : (r : Result Plain Refusal) → IfOk r IsPlain → IfOk r IsCellValue
as_value (Ok p) is = inl is
as_value (Err e) is = tt

pub begins_plain : BeginsPlain
begins_plain kinds.Array values.Unset = inr (record { kind = refl; values = refl })
begins_plain kinds.Array (values.List xs) = as_value (made kinds.Array (values.List xs)) (is_made_plain kinds.Array (values.List xs))
begins_plain kinds.Array (values.Pairs ps) = as_value (made kinds.Array (values.Pairs ps)) (is_made_plain kinds.Array (values.Pairs ps))
begins_plain kinds.Array (values.Seq first n) = as_value (made kinds.Array (values.Seq first n)) (is_made_plain kinds.Array (values.Seq first n))
begins_plain kinds.List src = as_value (made kinds.List src) (is_made_plain kinds.List src)
begins_plain kinds.Stack src = as_value (made kinds.Stack src) (is_made_plain kinds.Stack src)
begins_plain kinds.Queue src = as_value (made kinds.Queue src) (is_made_plain kinds.Queue src)
begins_plain (kinds.SSet order) src = as_value (made (kinds.SSet order) src) (is_made_plain (kinds.SSet order) src)
begins_plain (kinds.SMap order) src = as_value (made (kinds.SMap order) src) (is_made_plain (kinds.SMap order) src)
begins_plain (kinds.Dict eq) src = as_value (made (kinds.Dict eq) src) (is_made_plain (kinds.Dict eq) src)
begins_plain (kinds.HSet eq) src = as_value (made (kinds.HSet eq) src) (is_made_plain (kinds.HSet eq) src)
