-- Each example, by computation.
use Rattle.std.specs.Prelude.{refl}
use Rattle.std.specs.List.{AllByRecursion}
use Rattle.std.specs.Fmt.{digits}
use Rattle.worked_examples.specs.Examples.{Holds}
use Rattle.worked_examples.specs.ListExamples.{list_examples}
use Rattle.worked_examples.specs.SetExamples.{set_examples}
use Rattle.worked_examples.specs.MapExamples.{map_examples}
use Rattle.worked_examples.specs.BuilderExamples.{builder_examples}
use Rattle.worked_examples.specs.FrozenExamples.{frozen_examples}
use Rattle.worked_examples.specs.WalkExamples.{walk_examples}
use Rattle.worked_examples.specs.LimitExamples.{LimitExamples}

pub lists_hold : AllByRecursion Holds list_examples
unfolding digits
lists_hold = (refl, (refl, (refl, (refl, (refl, (refl, (refl, (refl, (refl, tt)))))))))

pub sets_hold : AllByRecursion Holds set_examples
unfolding digits
sets_hold = (refl, (refl, (refl, (refl, (refl, tt)))))

pub maps_hold : AllByRecursion Holds map_examples
unfolding digits
maps_hold = (refl, (refl, (refl, (refl, (refl, tt)))))

pub builders_hold : AllByRecursion Holds builder_examples
unfolding digits
builders_hold = (refl, (refl, (refl, (refl, tt))))

pub frozen_hold : AllByRecursion Holds frozen_examples
unfolding digits
frozen_hold = (refl, (refl, tt))

pub walks_hold : AllByRecursion Holds walk_examples
unfolding digits
walks_hold = (refl, (refl, (refl, (refl, (refl, tt)))))

pub limits_hold : LimitExamples
unfolding digits
limits_hold = record {
  array_add = refl;
  insert_far = refl;
  insert_range_far = refl;
  insert_range = refl;
  add_nothing = refl;
  push = refl;
  enqueue = refl;
  set_add_present = refl;
  set_add = refl;
  set_union = refl;
  set_exchange = refl;
  set_symmetric = refl;
  add_other = refl;
  add_pair = refl;
  add_pairs_other = refl;
  add_pairs = refl;
  set_pair = refl;
  set_pairs = refl;
  get_or_add = refl;
  add_or_update = refl;
  add_or_update_absent = refl;
  try_add_present = refl;
  try_add = refl;
  cell_push = refl;
  cell_enqueue = refl;
  update_refused = refl;
  updated_spelling = refl;
  updated_equal = refl;
  exchanged_spelling = refl;
  not_exchanged = refl;
  added = refl;
  added_reply = refl;
  capacity = refl;
}
