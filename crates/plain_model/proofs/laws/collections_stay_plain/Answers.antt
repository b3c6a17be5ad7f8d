use Rattle.plain_model.proofs.StaysPlain.{stays_plain, is_made_plain}
use Rattle.plain_model.proofs.RekeysPlain.{rekeys_plain}
use Rattle.plain_model.proofs.laws.collections_stay_plain.Goals as goal

pub returns : goal.returns
returns c = record {
  changed = stays_plain;
  made = is_made_plain;
  rekeyed = rekeys_plain;
}
