use Rattle.std.proofs.lemmas.Result.{MatchResult-weaker}
use Rattle.hash_bucket.proofs.Searches.{sides_ascend, bucket_at, no_bucket_at}
use Rattle.hash_bucket.proofs.find.locate.Goals as goal

pub locate-requires : goal.locate-requires
locate-requires g c = sides_ascend c.args.at.now.hash c.args.tree.now.items c.requires

pub returns : goal.returns
returns g c =
    MatchResult-weaker c.locate.result c.locate.ensures (λ r found. bucket_at c.args.at.now.hash c.args.tree.now.items c.requires r.1.now r.0 found) (λ i missing. no_bucket_at c.args.at.now.hash c.args.tree.now.items c.requires i missing)
