use Rattle.std.proofs.Common.{◌∙◌, ap}
use Rattle.std.specs.Prelude.{is_some}
use Rattle.imm_base.proofs.KeptMaps.{is_some-find}
use Rattle.hash_bucket.proofs.Hashes.{is_some-copied}
use Rattle.hash_bucket.proofs.tree.HashTree.has_where.Goals as goal

pub returns : goal.returns
returns g c =
    c.is_some.ensures ∙ is_some-copied c.find_where.result ∙ ap is_some c.find_where.ensures
    ∙ is_some-find (g.S.Seek.meets c.args.sought.now) c.args.self.now.items
