use Rattle.std.proofs.Common.{◌≡◌, Some, None, refl, sym}
use Rattle.std.specs.List.{position}
use Rattle.std.specs.Str.{bytes_eq}
use Rattle.plain_model.proofs.Bindings.{value_at_place, change_in_place, value_nowhere}
use Rattle.plain_model.proofs.names.Names.get_mut.Goals as goal

pub returns-in-Some : goal.returns-in-Some
returns-in-Some g c =
    let names = c.args.self.now in
    let x = c.args.name.now in
    let found : position (λ b. bytes_eq b.0 x) names ≡ Some c.in-Some.place = cc in
    let value = value_at_place x names c.in-Some.place found in
    let lent = c.value_mut.ensures.value in
    ((refl, (λ w. change_in_place x names c.in-Some.place found w), refl), record { writes_back = tt {0}; value = cc })

pub returns-in-None : goal.returns-in-None
returns-in-None g c =
    let names = c.args.self.now in
    let x = c.args.name.now in
    let missing : position (λ b. bytes_eq b.0 x) names ≡ None = cc in
    ((refl, (λ w. tt {0}), refl), record { writes_back = tt {0}; value = sym (value_nowhere x names missing) })
