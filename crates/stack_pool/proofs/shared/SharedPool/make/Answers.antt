use Rattle.std.proofs.Common.{rules, ◌≡◌, ℕ, ◌*◌, List, replicate, subst, None}
use Rattle.atomic_table.specs.Table.{opening}
use Rattle.stack_pool.specs.Rule.{SoundPool}
use Rattle.stack_pool.specs.Views.{first_view}
use Rattle.stack_pool.proofs.Joins.{starts}
use Rattle.stack_pool.proofs.shared.SharedPool.make.Goals as goal

pub vacant-requires : goal.vacant-requires
vacant-requires g c = let n : ℕ = c.args.seats in
    let words : replicate (n * 35) 0 ≡ c.deref.result.now = search rules in
    subst (λ (ws : List ℕ). SoundPool {S = g.row.S.Denot} n (opening ws (replicate (n * 35) None) (first_view n))) words (starts n c.requires.0 c.requires.1)
