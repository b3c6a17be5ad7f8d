use Rattle.std.proofs.lemmas.Iterator.{YieldsList-from_slice, YieldsList-from_zip, items_from_collect}
use Rattle.std.proofs.lemmas.Iterator.Consumers.{YieldsList-at, YieldsList-from_copied}
use Rattle.collections.proofs.frozen.zipped.Goals as goal

pub returns : goal.returns
returns c =
    let keys = YieldsList-from_copied (YieldsList-at c.copied.ensures.source (YieldsList-from_slice c.args.keys.now c.iter.ensures.rest)) in
    let values = YieldsList-from_copied (YieldsList-at c.copied-2.ensures.source (YieldsList-from_slice c.args.values.now c.iter-2.ensures.rest)) in
    items_from_collect c.collect.result c.collect.ensures.ran (YieldsList-from_zip (YieldsList-at c.zip.ensures.first keys) (YieldsList-at c.zip.ensures.second values))
