use Rattle.std.proofs.Common.{◌≡◌, List, sym, ap, ◌∙◌, subst}
use Rattle.version_slots.specs.declared.view.View.{View}
use Rattle.version_slots.specs.declared.view.Line.{Line}
use Rattle.version_slots.specs.declared.tokens.Front.{Front}
use Rattle.version_slots.specs.Histories.{Shown}
use Rattle.version_slots_tests.proofs.tests.release.Goals as goal

pub returns-clause-base : goal.returns-clause-base
returns-clause-base g c = let V : Type 0 = View g.row.P-Plain.Denot in let D : Type 0 = g.row.P.Denot in let value : g.row.P-Plain.Denot = g.P.Payload.plain c.args.pinned.payload in
    let seen : c.unpin.new.pass.place.me.0.seen ≡ c.args.pass.now.place.me.0.seen = ap (λ (u : V). u.seen) c.unpin.ensures.view.1 in (
      value,
      subst (λ (h : List (Line g.row.P-Plain.Denot)). Shown h c.base-base.result.front.ticket c.base-base.result.front.slot value) (sym seen)
          (subst (λ (f : Front). Shown c.args.pass.now.place.me.0.seen f.ticket f.slot value) (sym c.base-base.ensures) c.requires.2.1),
      sym (c.position-position.ensures ∙ ap (λ (p : D). g.P.Payload.position_of (g.P.Payload.plain p)) c.version.ensures),
    )
