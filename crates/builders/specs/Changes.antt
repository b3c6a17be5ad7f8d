-- What a change of a builder answers, and what becomes of the builder.
use Rattle.std.specs.Prelude.{◌≡◌, ◌+◌, ◌-◌, ◌<◌, ◌^◌, Option, Result, Ok, Err}
use Rattle.imm_base.specs.declared.memory.Memory.{Memory}
use Rattle.imm_base.specs.declared.val.Edit.{Edit}
use Rattle.imm_base.specs.declared.val.Edit.TheVariants as edits
use Rattle.imm_base.specs.declared.val.Step.{Step}
use Rattle.imm_base.specs.declared.val.Step.TheVariants as steps
use Rattle.imm_base.specs.Answers.{Tells}
use Rattle.imm_base.specs.Edits.{Why, Gives}
use Rattle.plain_model.specs.Builders.{Built}

-- `why` says of each fault which refusal it tells, and None of want of memory; `IsGiven` says what
-- an answer of the collection stands for.
module _ {F V S C : Type 0} (why : F → Option (Why V)) (IsGiven : Edit S → Gives V C → Type 0) where
  -- the builder has what the operation gives, counted as a change where it is another collection;
  -- after a refusal, and where memory was wanted, it is as it was
  abbrev pub Changes : Result Step F → Gives V C → Built S → Built S → Type 0
  Changes (Ok steps.Same) gives old new = IsGiven edits.Same gives × (new ≡ old)
  Changes (Ok steps.New) gives old new =
      IsGiven (edits.New new.contents) gives × (new.changes ≡ old.changes + 1)
  Changes (Err fault) gives old new = Tells why fault gives × (new ≡ old)

module _ {S : Type 0} where
  -- the number of changes can be counted one further
  abbrev pub CanCount : Built S → Type 0
  CanCount b = b.changes < 2 ^ 64 - 1

  -- with this collection, by one change more
  abbrev pub built_on : S → Built S → Built S
  built_on contents old = record { contents = contents; changes = old.changes + 1 }

  -- the builder has what a call of its collection answered, or memory was wanted
  abbrev pub Adopts : Result Step Memory → Edit S → Built S → Built S → Type 0
  Adopts (Ok steps.Same) edit old new = (edit ≡ edits.Same) × (new ≡ old)
  Adopts (Ok steps.New) edit old new =
      (edit ≡ edits.New new.contents) × (new.changes ≡ old.changes + 1)
  Adopts (Err memory) edit old new = new ≡ old
