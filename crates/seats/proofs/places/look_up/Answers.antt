use Rattle.std.proofs.Common.{◌≡◌, true, ap, sym, subst, ◌∙◌}
use Rattle.plain_model.specs.declared.plain.Kind.{Kind}
use Rattle.plain_model.specs.Cell.{is_map}
use Rattle.plain_model.specs.Plain.{shape_of}
use Rattle.interlocked.specs.Called.{IsRead}
use Rattle.interlocked.specs.Known.{Known}
use Rattle.seats.proofs.places.look_up.Goals as goal

pub value_in-requires : goal.value_in-requires
value_in-requires g c =
    let read = subst (λ (p : Known). IsRead p c.in_ok-value.value.collection c.read.new.pass c.in_ok-value.stamp) c.pass.view_is c.in_ok-value.ensures.read in
    subst (λ (k : Kind). is_map (shape_of k) ≡ true) (sym read.kind) c.requires.map

pub returns : goal.returns
returns g c =
    let read = subst (λ (p : Known). IsRead p c.in_ok-value.value.collection c.read.new.pass c.in_ok-value.stamp) c.pass.view_is c.in_ok-value.ensures.read in
    record {
      got = c.in_ok-value.value.collection;
      read = read;
      map = subst (λ (k : Kind). is_map (shape_of k) ≡ true) (sym read.kind) c.requires.map;
      value = sym c.in_ok-found.ensures;
    }
