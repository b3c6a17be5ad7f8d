-- The plain collection that each form of a collection holds.
use Rattle.plain_model.specs.declared.plain.Plain.{Plain}
use Rattle.collections.specs.declared.collection.Repr.{Repr}
use Rattle.collections.specs.declared.collection.Repr.TheVariants as reprs
use Rattle.collections.specs.Kinds.{list_of, array_of, stack_of, queue_of, sorted_set_of, sorted_map_of, hash_set_of, dict_of}

abbrev pub plain_of : Repr → Plain
plain_of (reprs.List list) = list_of list
plain_of (reprs.Array array) = array_of array
plain_of (reprs.Stack stack) = stack_of stack
plain_of (reprs.Queue queue) = queue_of queue
plain_of (reprs.SSet set) = sorted_set_of set
plain_of (reprs.SMap map) = sorted_map_of map
plain_of (reprs.HSet set) = hash_set_of set
plain_of (reprs.Dict map) = dict_of map
