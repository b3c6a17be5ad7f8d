use Rattle.std.proofs.Common.{Ok, ap, sym, ◌∙◌}
use Rattle.imm_base.specs.Maps.{add_over}
use Rattle.imm_dictionary.proofs.dict.Dict.added.Goals as goal

pub returns-in_ok-with-in-None : goal.returns-in_ok-with-in-None
returns-in_ok-with-in-None g c = (
  ap (λ found. add_over g.K.Ord.cmp (g.H.HashEq.same c.args.self.now.eq) g.V.PartialEq.eq c.args.key.now c.args.value.now c.args.self.now.pairs found) (sym c.in-None.ensures)
      ∙ ap Ok (sym (rw (c.in_ok-key-in-None.ensures, c.in_ok-value-in-None.ensures) at c.in_ok-with-in-None.ensures.pairs)),
  c.in_ok-with-in-None.ensures.eq,
)
