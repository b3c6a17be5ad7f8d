use Rattle.std.proofs.Common.{sym}
use Rattle.std.proofs.lemmas.Slice.Zip.{firsts-zip}
use Rattle.frozen_sets.proofs.map.FrozenMap.key_set.Goals as goal

pub returns-clause-keys : goal.returns-clause-keys
returns-clause-keys g c = rw (← c.self.view_is) (sym (firsts-zip c.self.inside.keys.items c.self.inside.values.items c.self.invariant))
