-- Builders of collections of any kind: what a change answers, and how their contents are seen.
use Rattle.std.specs.Prelude.{Result, Ok, Err}
use Rattle.imm_base.specs.declared.val.Edit.{Edit}
use Rattle.imm_base.specs.declared.val.Edit.TheVariants as edits
use Rattle.imm_base.specs.declared.val.Step.{Step}
use Rattle.imm_base.specs.declared.val.Step.TheVariants as steps
use Rattle.plain_model.specs.declared.history.Refusal.{Refusal}
use Rattle.plain_model.specs.Builders.{Built}

-- the answer of a change that gives this: whether there is another collection, or the refusal
abbrev pub step_of : {C : Type 0} → Result (Edit C) Refusal → Result Step Refusal
step_of (Ok edits.Same) = Ok steps.Same
step_of (Ok (edits.New c)) = Ok steps.New
step_of (Err r) = Err r

-- a builder, with its contents seen through f
abbrev pub built_map : {S C : Type 0} → (S → C) → Built S → Built C
built_map f b = record { contents = f b.contents; changes = b.changes }
