-- What an operation gives of a well-formed collection is one, and so is a new one.
use Rattle.std.specs.Prelude.{◌≡◌, true, false, Bool, List, [], ◌∷◌, Ok, Err, IfOk, if◌then◌else◌, refl}
use Rattle.std.proofs.Common.{arith}
use Rattle.std.specs.declared.cmp.Ordering.{Ordering}
use Rattle.imm_base.specs.declared.val.Val.{Val}
use Rattle.imm_base.specs.declared.val.Edit.TheVariants.{Same, New}
use Rattle.imm_base.specs.declared.comparers.ValOrder.{ValOrder}
use Rattle.imm_base.specs.declared.comparers.ValEq.{ValEq}
use Rattle.imm_base.specs.Order.{val_cmp, val_eq, order_cmp, eq_same, test_holds}
use Rattle.imm_base.specs.OrderLaws.{val_cmp_total, val_exact, order_total, eq_equivalence}
use Rattle.imm_base.specs.Edits.{Gives, is_over}
use Rattle.imm_base.specs.Lists.{clear}
use Rattle.imm_base.specs.Maps.{Entries}
use Rattle.imm_base.specs.Kept.{IfNew, IsShort, IsPlainSet, IsPlainMap, CanKeep}
use Rattle.imm_base.proofs.KeptLists.{list_add_short, list_add_range_short, list_insert_short, list_insert_range_short, list_remove_at_short, list_remove_range_short, list_remove_short, list_remove_all_short, list_replace_short, list_set_item_short, list_get_range_short, list_reverse_short, list_sort_short, stack_push_short, remove_first_short}
use Rattle.imm_base.proofs.KeptSets.{fits, keep_by_order, keep_by_equality, set_of_union, set_add_kept, set_remove_kept, set_union_kept, set_intersect_kept, set_except_kept, set_symmetric_except_kept}
use Rattle.imm_base.proofs.KeptMaps.{set_all_map, map_add_kept, map_add_all_kept, map_set_kept, map_set_all_kept, map_remove_kept, map_remove_all_kept}
use Rattle.plain_model.specs.declared.plain.Kind.{Kind}
use Rattle.plain_model.specs.declared.plain.Kind.TheVariants as kinds
use Rattle.plain_model.specs.declared.plain.Values.{Values}
use Rattle.plain_model.specs.declared.plain.Values.TheVariants as values
use Rattle.plain_model.specs.declared.plain.Plain.{Plain}
use Rattle.plain_model.specs.declared.commands.PlainOp.{PlainOp}
use Rattle.plain_model.specs.declared.commands.PlainOp.TheVariants as ops
use Rattle.plain_model.specs.declared.history.Refusal.TheVariants as refusals
use Rattle.plain_model.specs.Plain.{shape_of, elements, pairs, count, IsOf, same_of, IsPlain, of_list, of_pairs, list_op, stack_op, queue_op, set_op, map_op, plain, filled, IfChanged, StaysPlain, IsMadePlain}

-- ---- the rows of each shape

clear_short : (xs : List Val) → IfNew {V = Val} (clear xs) IsShort
clear_short [] = tt
clear_short (x ∷ xs) = omega arith

clear_set : (cmp : Val → Val → Ordering) (same : Val → Val → Bool) (xs : List Val) → IfNew {V = Val} (clear xs) (IsPlainSet cmp same)
clear_set cmp same [] = tt
clear_set cmp same (x ∷ xs) = record { fits = omega arith; set = record { rises = tt; distinct = tt } }

clear_map : (cmp : Val → Val → Ordering) (same : Val → Val → Bool) (m : Entries Val Val) → IfNew {V = Val} (clear m) (IsPlainMap cmp same)
clear_map cmp same [] = tt
clear_map cmp same (e ∷ m) = record { fits = omega arith; set = record { rises = tt; distinct = tt } }

list_short : (op : PlainOp) (xs : List Val) → IsShort xs → IfNew {V = Val} (list_op op xs) IsShort
list_short (ops.Add v) xs is = list_add_short v xs
list_short (ops.AddRange src) xs is = list_add_range_short (elements src) xs
list_short (ops.Insert i v) xs is = list_insert_short i v xs
list_short (ops.InsertRange i src) xs is = list_insert_range_short i (elements src) xs
list_short (ops.RemoveAt i) xs is = list_remove_at_short i xs is
list_short (ops.RemoveRange i k) xs is = list_remove_range_short i k xs is
list_short (ops.Remove v) xs is = list_remove_short val_eq v xs is
list_short (ops.RemoveAll test) xs is = list_remove_all_short (test_holds test) xs is
list_short (ops.Replace u v) xs is = list_replace_short val_eq u v xs is
list_short (ops.SetItem i v) xs is = list_set_item_short i v xs is
list_short (ops.GetRange i k) xs is = list_get_range_short i k xs is
list_short ops.Reverse xs is = list_reverse_short xs is
list_short (ops.Sort order) xs is = list_sort_short (order_cmp order) xs is
list_short (ops.Union src) xs is = tt
list_short (ops.Intersect src) xs is = tt
list_short (ops.Except src) xs is = tt
list_short (ops.SymExcept src) xs is = tt
list_short (ops.AddPair k v) xs is = tt
list_short (ops.AddPairs src) xs is = tt
list_short (ops.SetPair k v) xs is = tt
list_short (ops.SetPairs src) xs is = tt
list_short (ops.RemoveKey k) xs is = tt
list_short (ops.RemoveKeys src) xs is = tt
list_short (ops.Push v) xs is = tt
list_short ops.Pop xs is = tt
list_short (ops.Enqueue v) xs is = tt
list_short ops.Dequeue xs is = tt
list_short ops.Clear xs is = clear_short xs

stack_short : (op : PlainOp) (xs : List Val) → IsShort xs → IfNew {V = Val} (stack_op op xs) IsShort
stack_short (ops.Add v) xs is = tt
stack_short (ops.AddRange src) xs is = tt
stack_short (ops.Insert i v) xs is = tt
stack_short (ops.InsertRange i src) xs is = tt
stack_short (ops.RemoveAt i) xs is = tt
stack_short (ops.RemoveRange i k) xs is = tt
stack_short (ops.Remove v) xs is = tt
stack_short (ops.RemoveAll test) xs is = tt
stack_short (ops.Replace u v) xs is = tt
stack_short (ops.SetItem i v) xs is = tt
stack_short (ops.GetRange i k) xs is = tt
stack_short ops.Reverse xs is = tt
stack_short (ops.Sort order) xs is = tt
stack_short (ops.Union src) xs is = tt
stack_short (ops.Intersect src) xs is = tt
stack_short (ops.Except src) xs is = tt
stack_short (ops.SymExcept src) xs is = tt
stack_short (ops.AddPair k v) xs is = tt
stack_short (ops.AddPairs src) xs is = tt
stack_short (ops.SetPair k v) xs is = tt
stack_short (ops.SetPairs src) xs is = tt
stack_short (ops.RemoveKey k) xs is = tt
stack_short (ops.RemoveKeys src) xs is = tt
stack_short (ops.Push v) xs is = stack_push_short v xs
stack_short ops.Pop xs is = remove_first_short xs is
stack_short (ops.Enqueue v) xs is = tt
stack_short ops.Dequeue xs is = tt
stack_short ops.Clear xs is = clear_short xs

queue_short : (op : PlainOp) (xs : List Val) → IsShort xs → IfNew {V = Val} (queue_op op xs) IsShort
queue_short (ops.Add v) xs is = tt
queue_short (ops.AddRange src) xs is = tt
queue_short (ops.Insert i v) xs is = tt
queue_short (ops.InsertRange i src) xs is = tt
queue_short (ops.RemoveAt i) xs is = tt
queue_short (ops.RemoveRange i k) xs is = tt
queue_short (ops.Remove v) xs is = tt
queue_short (ops.RemoveAll test) xs is = tt
queue_short (ops.Replace u v) xs is = tt
queue_short (ops.SetItem i v) xs is = tt
queue_short (ops.GetRange i k) xs is = tt
queue_short ops.Reverse xs is = tt
queue_short (ops.Sort order) xs is = tt
queue_short (ops.Union src) xs is = tt
queue_short (ops.Intersect src) xs is = tt
queue_short (ops.Except src) xs is = tt
queue_short (ops.SymExcept src) xs is = tt
queue_short (ops.AddPair k v) xs is = tt
queue_short (ops.AddPairs src) xs is = tt
queue_short (ops.SetPair k v) xs is = tt
queue_short (ops.SetPairs src) xs is = tt
queue_short (ops.RemoveKey k) xs is = tt
queue_short (ops.RemoveKeys src) xs is = tt
queue_short (ops.Push v) xs is = tt
queue_short ops.Pop xs is = tt
queue_short (ops.Enqueue v) xs is = list_add_short v xs
queue_short ops.Dequeue xs is = remove_first_short xs is
queue_short ops.Clear xs is = clear_short xs

set_kept : (cmp : Val → Val → Ordering) (same : Val → Val → Bool) → CanKeep cmp same → (op : PlainOp) (xs : List Val) → IsPlainSet cmp same xs → IfNew {V = Val} (set_op cmp same op xs) (IsPlainSet cmp same)
set_kept cmp same keep (ops.Add v) xs is = set_add_kept cmp same keep v xs is
set_kept cmp same keep (ops.AddRange src) xs is = tt
set_kept cmp same keep (ops.Insert i v) xs is = tt
set_kept cmp same keep (ops.InsertRange i src) xs is = tt
set_kept cmp same keep (ops.RemoveAt i) xs is = tt
set_kept cmp same keep (ops.RemoveRange i k) xs is = tt
set_kept cmp same keep (ops.Remove v) xs is = set_remove_kept cmp same v xs is
set_kept cmp same keep (ops.RemoveAll test) xs is = tt
set_kept cmp same keep (ops.Replace u v) xs is = tt
set_kept cmp same keep (ops.SetItem i v) xs is = tt
set_kept cmp same keep (ops.GetRange i k) xs is = tt
set_kept cmp same keep ops.Reverse xs is = tt
set_kept cmp same keep (ops.Sort order) xs is = tt
set_kept cmp same keep (ops.Union src) xs is = set_union_kept cmp same keep val_eq (elements src) xs is
set_kept cmp same keep (ops.Intersect src) xs is = set_intersect_kept cmp same val_eq (elements src) xs is
set_kept cmp same keep (ops.Except src) xs is = set_except_kept cmp same val_eq (elements src) xs is
set_kept cmp same keep (ops.SymExcept src) xs is = set_symmetric_except_kept cmp same keep val_eq (elements src) xs is
set_kept cmp same keep (ops.AddPair k v) xs is = tt
set_kept cmp same keep (ops.AddPairs src) xs is = tt
set_kept cmp same keep (ops.SetPair k v) xs is = tt
set_kept cmp same keep (ops.SetPairs src) xs is = tt
set_kept cmp same keep (ops.RemoveKey k) xs is = tt
set_kept cmp same keep (ops.RemoveKeys src) xs is = tt
set_kept cmp same keep (ops.Push v) xs is = tt
set_kept cmp same keep ops.Pop xs is = tt
set_kept cmp same keep (ops.Enqueue v) xs is = tt
set_kept cmp same keep ops.Dequeue xs is = tt
set_kept cmp same keep ops.Clear xs is = clear_set cmp same xs

map_kept : (cmp : Val → Val → Ordering) (same : Val → Val → Bool) → CanKeep cmp same → (op : PlainOp) (m : Entries Val Val) → IsPlainMap cmp same m → IfNew {V = Val} (map_op cmp same op m) (IsPlainMap cmp same)
map_kept cmp same keep (ops.Add v) m is = tt
map_kept cmp same keep (ops.AddRange src) m is = tt
map_kept cmp same keep (ops.Insert i v) m is = tt
map_kept cmp same keep (ops.InsertRange i src) m is = tt
map_kept cmp same keep (ops.RemoveAt i) m is = tt
map_kept cmp same keep (ops.RemoveRange i k) m is = tt
map_kept cmp same keep (ops.Remove v) m is = tt
map_kept cmp same keep (ops.RemoveAll test) m is = tt
map_kept cmp same keep (ops.Replace u v) m is = tt
map_kept cmp same keep (ops.SetItem i v) m is = tt
map_kept cmp same keep (ops.GetRange i k) m is = tt
map_kept cmp same keep ops.Reverse m is = tt
map_kept cmp same keep (ops.Sort order) m is = tt
map_kept cmp same keep (ops.Union src) m is = tt
map_kept cmp same keep (ops.Intersect src) m is = tt
map_kept cmp same keep (ops.Except src) m is = tt
map_kept cmp same keep (ops.SymExcept src) m is = tt
map_kept cmp same keep (ops.AddPair k v) m is = map_add_kept cmp same keep val_eq k v m is
map_kept cmp same keep (ops.AddPairs src) m is = map_add_all_kept cmp same keep val_eq val_eq (pairs src) m is
map_kept cmp same keep (ops.SetPair k v) m is = map_set_kept cmp same keep val_eq k v m is
map_kept cmp same keep (ops.SetPairs src) m is = map_set_all_kept cmp same keep val_eq (pairs src) m is
map_kept cmp same keep (ops.RemoveKey k) m is = map_remove_kept cmp same k m is
map_kept cmp same keep (ops.RemoveKeys src) m is = map_remove_all_kept cmp same (elements src) m is
map_kept cmp same keep (ops.Push v) m is = tt
map_kept cmp same keep ops.Pop m is = tt
map_kept cmp same keep (ops.Enqueue v) m is = tt
map_kept cmp same keep ops.Dequeue m is = tt
map_kept cmp same keep ops.Clear m is = clear_map cmp same m

-- ---- collections

pub by_order : (order : ValOrder) → CanKeep (order_cmp order) (same_of (kinds.SSet order))
by_order order = keep_by_order (order_cmp order) (order_total order)

pub by_equality : (eq : ValEq) → CanKeep val_cmp (eq_same eq)
by_equality eq = keep_by_equality val_cmp (eq_same eq) val_cmp_total val_exact (eq_equivalence eq)

abbrev pub of : Kind → Values → Plain
of kind vs = record { kind = kind; values = vs }

from_list : (kind : Kind) (vs : Values) (P : List Val → Type 0) (g : Gives Val (List Val)) → ((xs : List Val) → P xs → IsPlain (of kind (values.List xs))) → IfNew {V = Val} g P → IfChanged (of_list (of kind vs) g) IsPlain
from_list kind vs P (Ok Same) f h = tt
from_list kind vs P (Ok (New xs)) f h = f xs h
from_list kind vs P (Err why) f h = tt

from_pairs : (kind : Kind) (vs : Values) (P : Entries Val Val → Type 0) (g : Gives Val (Entries Val Val)) → ((m : Entries Val Val) → P m → IsPlain (of kind (values.Pairs m))) → IfNew {V = Val} g P → IfChanged (of_pairs (of kind vs) g) IsPlain
from_pairs kind vs P (Ok Same) f h = tt
from_pairs kind vs P (Ok (New m)) f h = f m h
from_pairs kind vs P (Err why) f h = tt

stays_of : (kind : Kind) (vs : Values) (op : PlainOp) → IsPlain (of kind vs) → IfChanged (plain op (of kind vs)) IsPlain
stays_of kinds.List (values.List xs) op is = from_list kinds.List (values.List xs) IsShort (list_op op xs) (λ ys h. record { fits = h; kept = tt }) (list_short op xs is.fits)
stays_of kinds.List (values.Pairs ps) op is = absurd is.kept
stays_of kinds.List (values.Seq first n) op is = absurd is.kept
stays_of kinds.List values.Unset op is = absurd is.kept
stays_of kinds.Array (values.List xs) op is = from_list kinds.Array (values.List xs) IsShort (list_op op xs) (λ ys h. record { fits = h; kept = tt }) (list_short op xs is.fits)
stays_of kinds.Array (values.Pairs ps) op is = absurd is.kept
stays_of kinds.Array (values.Seq first n) op is = absurd is.kept
stays_of kinds.Array values.Unset op is = absurd is.kept
stays_of kinds.Stack (values.List xs) op is = from_list kinds.Stack (values.List xs) IsShort (stack_op op xs) (λ ys h. record { fits = h; kept = tt }) (stack_short op xs is.fits)
stays_of kinds.Stack (values.Pairs ps) op is = absurd is.kept
stays_of kinds.Stack (values.Seq first n) op is = absurd is.kept
stays_of kinds.Stack values.Unset op is = absurd is.kept
stays_of kinds.Queue (values.List xs) op is = from_list kinds.Queue (values.List xs) IsShort (queue_op op xs) (λ ys h. record { fits = h; kept = tt }) (queue_short op xs is.fits)
stays_of kinds.Queue (values.Pairs ps) op is = absurd is.kept
stays_of kinds.Queue (values.Seq first n) op is = absurd is.kept
stays_of kinds.Queue values.Unset op is = absurd is.kept
stays_of (kinds.SSet order) (values.List xs) op is = from_list (kinds.SSet order) (values.List xs) (IsPlainSet (order_cmp order) (same_of (kinds.SSet order))) (set_op (order_cmp order) (same_of (kinds.SSet order)) op xs) (λ ys h. record { fits = h.fits; kept = h.set }) (set_kept (order_cmp order) (same_of (kinds.SSet order)) (by_order order) op xs (record { fits = is.fits; set = is.kept }))
stays_of (kinds.SSet order) (values.Pairs ps) op is = absurd is.kept
stays_of (kinds.SSet order) (values.Seq first n) op is = absurd is.kept
stays_of (kinds.SSet order) values.Unset op is = absurd is.kept
stays_of (kinds.HSet eq) (values.List xs) op is = from_list (kinds.HSet eq) (values.List xs) (IsPlainSet val_cmp (eq_same eq)) (set_op val_cmp (eq_same eq) op xs) (λ ys h. record { fits = h.fits; kept = h.set }) (set_kept val_cmp (eq_same eq) (by_equality eq) op xs (record { fits = is.fits; set = is.kept }))
stays_of (kinds.HSet eq) (values.Pairs ps) op is = absurd is.kept
stays_of (kinds.HSet eq) (values.Seq first n) op is = absurd is.kept
stays_of (kinds.HSet eq) values.Unset op is = absurd is.kept
stays_of (kinds.SMap order) (values.Pairs m) op is = from_pairs (kinds.SMap order) (values.Pairs m) (IsPlainMap (order_cmp order) (same_of (kinds.SSet order))) (map_op (order_cmp order) (same_of (kinds.SSet order)) op m) (λ n h. record { fits = h.fits; kept = h.set }) (map_kept (order_cmp order) (same_of (kinds.SSet order)) (by_order order) op m (record { fits = is.fits; set = is.kept }))
stays_of (kinds.SMap order) (values.List xs) op is = absurd is.kept
stays_of (kinds.SMap order) (values.Seq first n) op is = absurd is.kept
stays_of (kinds.SMap order) values.Unset op is = absurd is.kept
stays_of (kinds.Dict eq) (values.Pairs m) op is = from_pairs (kinds.Dict eq) (values.Pairs m) (IsPlainMap val_cmp (eq_same eq)) (map_op val_cmp (eq_same eq) op m) (λ n h. record { fits = h.fits; kept = h.set }) (map_kept val_cmp (eq_same eq) (by_equality eq) op m (record { fits = is.fits; set = is.kept }))
stays_of (kinds.Dict eq) (values.List xs) op is = absurd is.kept
stays_of (kinds.Dict eq) (values.Seq first n) op is = absurd is.kept
stays_of (kinds.Dict eq) values.Unset op is = absurd is.kept

pub stays_plain : StaysPlain
stays_plain op p is = stays_of p.kind p.values op is

-- ---- new collections

filled_of : (kind : Kind) (src : Values) → IsOf (shape_of kind) kind (filled kind src)
filled_of kinds.List src = tt
filled_of kinds.Array src = tt
filled_of kinds.Stack src = tt
filled_of kinds.Queue src = tt
filled_of (kinds.SSet order) src = let k = by_order order in set_of_union (order_cmp order) (same_of (kinds.SSet order)) k.total k.equal k.ties [] (elements src) (record { rises = tt; distinct = tt })
filled_of (kinds.HSet eq) src = let k = by_equality eq in set_of_union val_cmp (eq_same eq) k.total k.equal k.ties [] (elements src) (record { rises = tt; distinct = tt })
filled_of (kinds.SMap order) src = set_all_map (order_cmp order) (same_of (kinds.SSet order)) (by_order order) val_eq (pairs src) [] (record { rises = tt; distinct = tt })
filled_of (kinds.Dict eq) src = set_all_map val_cmp (eq_same eq) (by_equality eq) val_eq (pairs src) [] (record { rises = tt; distinct = tt })

made_of : (kind : Kind) (vs : Values) (over : Bool) → is_over (count vs) ≡ over → IsOf (shape_of kind) kind vs → IfOk (if over then Err (refusals.TooLarge 0) else Ok (of kind vs)) IsPlain
made_of kind vs true e h = tt
made_of kind vs false e h = record { fits = fits (count vs) e; kept = h }

pub is_made_plain : IsMadePlain
is_made_plain kind src = made_of kind (filled kind src) (is_over (count (filled kind src))) refl (filled_of kind src)
