use Rattle.collection_walks.proofs.Given.{walk_given_is, next_given_is, current_given_is, reset_given_is, dispose_given_is}
use Rattle.collection_walks.proofs.laws.commands_are_calls.Goals as goal

pub returns : goal.returns
returns c = record {
  walk = walk_given_is;
  next = next_given_is;
  current = current_given_is;
  reset = reset_given_is;
  dispose = dispose_given_is;
}
