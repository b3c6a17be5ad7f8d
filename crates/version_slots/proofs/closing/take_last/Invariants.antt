use Rattle.std.proofs.Common.{◌≡◌, ℕ, ◌-◌, ◌<◌, ◌≤◌, false, get_or}
use mathlib.Core.Option.{some}
use lib.ListN.{get_elem?}
use Rattle.std.specs.Mem.Slots.{slots_items, slots_filled, slots_len}
use Rattle.std.specs.Mem.Slots.Ownership.{Filled}
use Rattle.version_slots.proofs.closing.take_last.Given as goal

abbrev pub invariant-loop-next : goal.invariant-loop-next
invariant-loop-next g l = record {
  near : l.next ≤ slots_len l.table.slots;
  places : slots_len l.table.slots ≡ slots_len l.fn.table.slots;
  words : l.table.words ≡ l.fn.table.words;
  items : slots_items l.table.slots ≡ slots_items l.fn.table.slots;
  left : Filled (slots_filled l.table.slots) l.next (slots_len l.table.slots);
  taken : (k : ℕ) → k < l.next → get_or (slots_filled l.table.slots) k false ≡ false;
  last : l.at < l.next → get_elem? (slots_items l.fn.table.slots) l.at ≡ some l.last;
}

abbrev pub decreases-loop-next : goal.decreases-loop-next
decreases-loop-next g l = slots_len l.table.slots - l.next
