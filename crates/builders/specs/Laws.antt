-- How any change leaves a builder.
use Rattle.std.specs.Prelude.{◌≡◌, ◌+◌, Result, Ok, Err}
use Rattle.imm_base.specs.declared.val.Step.{Step}
use Rattle.imm_base.specs.declared.val.Step.TheVariants.{Same, New}
use Rattle.plain_model.specs.Builders.{Built}

-- as it was, or counted as one change more
abbrev pub IsCounted : {S F : Type 0} → Result Step F → Built S → Built S → Type 0
IsCounted (Ok Same) old new = new ≡ old
IsCounted (Ok New) old new = new.changes ≡ old.changes + 1
IsCounted (Err fault) old new = new ≡ old
