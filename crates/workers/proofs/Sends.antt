-- Which values of a run may go to another thread, and which may several threads read.
use denote.RattleType.{RattleType}
use denote.Param.Send.{IsSend, IsSync, sendable}
use Rattle.std.proofs.Crossing.{crosses}
use Rattle.std.below.core.specs.contracts.clone.Clone+copy.TheImpl as copy
use Rattle.imm_base.specs.contracts.val.Val as Val
use Rattle.imm_base.specs.contracts.val.ValEq.TheImpl as is_eq
use Rattle.imm_base.specs.contracts.val.ValOrd.TheImpl as ord
use Rattle.imm_base.specs.contracts.val.ValPartialEq.TheImpl as eq
use Rattle.imm_base.specs.contracts.val.ValPartialOrd.TheImpl as partial
use Rattle.imm_base.specs.contracts.comparers.ValOrder as ValOrder
use Rattle.imm_base.specs.contracts.comparers.ValOrderOrderVal.TheImpl as order
use Rattle.imm_base.specs.contracts.comparers.ValOrderPartialEq.TheImpl as order_eq
use Rattle.imm_base.specs.contracts.comparers.ValEq as ValEq
use Rattle.imm_base.specs.contracts.comparers.ValEqHashEqVal.TheImpl as equality
use Rattle.imm_base.specs.contracts.comparers.ValEqEq.TheImpl as equality_is_eq
use Rattle.imm_base.specs.contracts.comparers.ValEqPartialEq.TheImpl as equality_eq
use Rattle.avl_node.specs.contracts.tree.Tree as Tree
use Rattle.avl_node.proofs.tree.Tree.TheLaws.TheKnot as tree
use Rattle.queue_stack.specs.contracts.skew.SkewList as SkewList
use Rattle.queue_stack.specs.contracts.stack.ImmStack as ImmStack
use Rattle.queue_stack.specs.contracts.queue.ImmQueue as ImmQueue
use Rattle.queue_stack.proofs.full.Full.TheLaws.TheKnot as full
use Rattle.queue_stack.proofs.skew.SkewList.TheLaws.TheKnot as skew
use Rattle.imm_list.specs.contracts.list.ImmList as ImmList
use Rattle.imm_array.specs.contracts.array.ImmArray as ImmArray
use Rattle.sorted_sets.specs.contracts.set.SortedSet as SortedSet
use Rattle.sorted_maps.specs.contracts.map.SortedMap as SortedMap
use Rattle.imm_dictionary.specs.contracts.set.ImmHashSet as ImmHashSet
use Rattle.imm_dictionary.specs.contracts.dict.Dict as Dict
use Rattle.collections.specs.contracts.collection.Collection as Collection
use Rattle.plain_model.specs.contracts.listed.Listed as Listed
use Rattle.plain_model.proofs.listed.Listed.TheSendSync as listed
use Rattle.plain_model.specs.contracts.history.Line as Line
use Rattle.plain_model.proofs.history.Line.TheSendSync as line
use Rattle.plain_model.proofs.commands.PlainCall.TheSendSync as plain_call
use Rattle.cell_calls.specs.contracts.call.CellCall as CellCall
use Rattle.atomic_table.proofs.shared.Seat.TheSendSync as seat
use Rattle.atomic_table.proofs.shared.Shared.TheSendSync as shared_table
use Rattle.atomic_table.proofs.send_lease.SendLease.TheSendSync as lease
use Rattle.interlocked.specs.contracts.cell.ImmCell as ImmCell
use Rattle.interlocked.specs.contracts.cell.CellPass as CellPass
use Rattle.interlocked.specs.contracts.logged.LoggedPayload.TheImpl as logged
use Rattle.seats.specs.contracts.shared.CellValue as CellValue
use Rattle.seats.specs.contracts.shared.CellValueShare.TheImpl as shared
use Rattle.seats.specs.contracts.shared.CellChange as CellChange
use Rattle.seats.specs.contracts.shared.CellChangeChangeCellValue.TheImpl as change
use Rattle.seats.specs.contracts.shared.CellChangeDup.TheImpl as dup
use Rattle.seats.specs.contracts.passes.SharedPass as SharedPass

-- ---- nodes that collections share, as their elements may

module _ (R : RattleType) (s : IsSend R) (y : IsSync R) where
  tree_send : IsSend (Tree.the_row R)
  tree_send = search (crosses, tree.crosses, sendable) depth 60 fits 20000

  tree_sync : IsSync (Tree.the_row R)
  tree_sync = search (crosses, tree.crosses, sendable) depth 60 fits 20000

  skew_send : IsSend (SkewList.the_row R)
  skew_send = search (crosses, full.crosses, skew.crosses, sendable) depth 60 fits 20000

  skew_sync : IsSync (SkewList.the_row R)
  skew_sync = search (crosses, full.crosses, skew.crosses, sendable) depth 60 fits 20000

-- ---- a collection of each kind
-- each kind by itself, since a search through all of them runs out of steps

abbrev list_row : RattleType
list_row = ImmList.the_row Val.the_row

abbrev array_row : RattleType
array_row = ImmArray.the_row Val.the_row

abbrev stack_row : RattleType
stack_row = ImmStack.the_row Val.the_row

abbrev queue_row : RattleType
queue_row = ImmQueue.the_row Val.the_row

abbrev sorted_set_row : RattleType
sorted_set_row = SortedSet.the_row Val.the_row ValOrder.the_row order.ghosts order_eq.ghosts

abbrev sorted_map_row : RattleType
sorted_map_row = SortedMap.the_row Val.the_row Val.the_row ValOrder.the_row order.ghosts order_eq.ghosts

abbrev hash_set_row : RattleType
hash_set_row = ImmHashSet.the_row Val.the_row ValEq.the_row eq.ghosts ord.ghosts partial.ghosts equality.ghosts equality_eq.ghosts

abbrev dict_row : RattleType
dict_row = Dict.the_row Val.the_row Val.the_row ValEq.the_row is_eq.ghosts eq.ghosts ord.ghosts partial.ghosts is_eq.ghosts eq.ghosts ord.ghosts partial.ghosts equality.ghosts (copy.ghosts ValEq.the_row) equality_is_eq.ghosts equality_eq.ghosts

list_send : IsSend list_row
list_send = search (tree_send, crosses, sendable) depth 60 fits 20000

list_sync : IsSync list_row
list_sync = search (tree_sync, crosses, sendable) depth 60 fits 20000

array_send : IsSend array_row
array_send = search (crosses, sendable) depth 60 fits 20000

array_sync : IsSync array_row
array_sync = search (crosses, sendable) depth 60 fits 20000

stack_send : IsSend stack_row
stack_send = search (skew_send, crosses, sendable) depth 60 fits 20000

stack_sync : IsSync stack_row
stack_sync = search (skew_sync, crosses, sendable) depth 60 fits 20000

queue_send : IsSend queue_row
queue_send = search (skew_send, crosses, sendable) depth 60 fits 20000

queue_sync : IsSync queue_row
queue_sync = search (skew_sync, crosses, sendable) depth 60 fits 20000

sorted_set_send : IsSend sorted_set_row
sorted_set_send = search (tree_send, crosses, sendable) depth 60 fits 20000

sorted_set_sync : IsSync sorted_set_row
sorted_set_sync = search (tree_sync, crosses, sendable) depth 60 fits 20000

sorted_map_send : IsSend sorted_map_row
sorted_map_send = search (tree_send, crosses, sendable) depth 60 fits 20000

sorted_map_sync : IsSync sorted_map_row
sorted_map_sync = search (tree_sync, crosses, sendable) depth 60 fits 20000

hash_set_send : IsSend hash_set_row
hash_set_send = search (tree_send, crosses, sendable) depth 60 fits 20000

hash_set_sync : IsSync hash_set_row
hash_set_sync = search (tree_sync, crosses, sendable) depth 60 fits 20000

dict_send : IsSend dict_row
dict_send = search (tree_send, crosses, sendable) depth 60 fits 20000

dict_sync : IsSync dict_row
dict_sync = search (tree_sync, crosses, sendable) depth 60 fits 20000

collection_send : IsSend Collection.the_row
collection_send = search (list_send, array_send, stack_send, queue_send, sorted_set_send, sorted_map_send, hash_set_send, dict_send, sendable) depth 60 fits 20000

collection_sync : IsSync Collection.the_row
collection_sync = search (list_sync, array_sync, stack_sync, queue_sync, sorted_set_sync, sorted_map_sync, hash_set_sync, dict_sync, sendable) depth 60 fits 20000

-- ---- what a worker has at its seat

pub log_send : IsSend (Listed.the_row Line.the_row)
log_send = listed.the_send Line.the_row line.the_send

value_send : IsSend CellValue.the_row
value_send = search (collection_send, sendable) depth 60 fits 20000

call_send : IsSend (CellCall.the_field).row
call_send = search (collection_send, plain_call.the_field_send, sendable) depth 60 fits 20000

call_sync : IsSync (CellCall.the_field).row
call_sync = search (collection_sync, plain_call.the_field_sync, sendable) depth 60 fits 20000

change_send : IsSend CellChange.the_row
change_send = search (call_send, sendable) depth 60 fits 20000

change_sync : IsSync CellChange.the_row
change_sync = search (call_sync, sendable) depth 60 fits 20000

abbrev cell_row : RattleType
cell_row = ImmCell.the_row CellValue.the_row CellChange.the_row (logged.ghosts CellValue.the_row CellChange.the_row shared.ghosts logged.no_dict change.ghosts logged.no_dict dup.ghosts logged.no_dict logged.no_dict logged.no_dict) shared.ghosts change.ghosts

abbrev pass_row : RattleType
pass_row = CellPass.the_row CellValue.the_row CellChange.the_row (logged.ghosts CellValue.the_row CellChange.the_row shared.ghosts logged.no_dict change.ghosts logged.no_dict dup.ghosts logged.no_dict logged.no_dict logged.no_dict) shared.ghosts change.ghosts

cell_pass_send : IsSend pass_row
cell_pass_send = search (value_send, change_send, change_sync, seat.the_send, crosses, full.crosses, skew.crosses, sendable) depth 60 fits 20000

pub pass_send : IsSend SharedPass.the_row
pass_send = search (cell_pass_send, sendable) depth 60 fits 20000

pub cell_sync : IsSync cell_row
cell_sync = search (value_send, change_send, change_sync, lease.the_sync, shared_table.the_sync, crosses, full.crosses, skew.crosses, sendable) depth 60 fits 20000
