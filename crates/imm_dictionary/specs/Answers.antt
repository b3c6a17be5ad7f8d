-- What a changing call answers, where `eq` is the equality afterwards.
use Rattle.std.specs.Prelude.{◌≡◌, List, Result, Ok, Err}
use Rattle.imm_base.specs.declared.faults.MapFault.{MapFault}
use Rattle.imm_base.specs.declared.faults.MapFault.TheVariants.{KeyExists, TooLarge, Memory}
use Rattle.imm_base.specs.declared.faults.SetFault.{SetFault}
use Rattle.imm_base.specs.declared.val.Edit.{Edit}
use Rattle.imm_base.specs.Answers as base
use Rattle.imm_base.specs.Answers.{IsKept, map_why, set_why}
use Rattle.imm_base.specs.Edits.{Gives}
use Rattle.imm_base.specs.Maps.{Entries}
use Rattle.hash_bucket.specs.Hashed.{Hashed}
use Rattle.imm_dictionary.specs.Mapped.{Mapped}

-- the result is the set that the operation gives, or want of memory
abbrev pub SetAnswers : {T H : Type 0} → H → Result (Edit (Hashed T H)) SetFault → Gives T (List T)
    → Type 0
SetAnswers eq = base.Answers set_why (IsKept (λ set. set.items) (λ set. set.eq) eq)

module _ {K V H : Type 0} (eq : H) where
  -- the result is the map that the operation gives, or want of memory
  abbrev pub MapAnswers : Result (Edit (Mapped K V H)) (MapFault V) → Gives V (Entries K V) → Type 0
  MapAnswers = base.Answers map_why (IsKept (λ m. m.pairs) (λ m. m.eq) eq)

  -- the same of pairs that were added in order, of which one may be refused
  abbrev pub AnswersAdded : Result (Mapped K V H) (MapFault V) → Result (Entries K V) V → Type 0
  AnswersAdded (Ok m) gives = (gives ≡ Ok m.pairs) × (m.eq ≡ eq)
  AnswersAdded (Err (KeyExists u)) gives = gives ≡ Err u
  AnswersAdded (Err (TooLarge n)) gives = ⊥
  AnswersAdded (Err Memory) gives = Unit {0}
