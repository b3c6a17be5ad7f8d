-- What calls on collections come to: refusals, changes, and another comparer.
use Rattle.std.specs.Prelude.{Option, Some, None, Result, Ok, Err, if◌then◌else◌}
use Rattle.imm_base.specs.declared.memory.Memory.{Memory}
use Rattle.imm_base.specs.declared.val.Val.{Val}
use Rattle.imm_base.specs.declared.val.Edit.{Edit}
use Rattle.imm_base.specs.declared.val.Edit.TheVariants.{Same, New}
use Rattle.imm_base.specs.Edits.{Why}
use Rattle.plain_model.specs.declared.plain.Comparer.{Comparer}
use Rattle.plain_model.specs.declared.plain.Kind.{Kind}
use Rattle.plain_model.specs.declared.plain.Plain.{Plain}
use Rattle.plain_model.specs.declared.history.Refusal.{Refusal}
use Rattle.plain_model.specs.Plain.{Changed, refusal}
use Rattle.plain_model.specs.Comparers.{has_comparer}
use Rattle.plain_model.specs.Locals.{rekeyed}

-- ---- results of the crates of collections, as a run tells them

-- the refusal that a fault tells, or want of memory
abbrev pub refused_by : {T : Type 0} → Option (Why Val) → Result (Result T Refusal) Memory
refused_by None = Err (record {})
refused_by (Some why) = Ok (Err (refusal why))

abbrev pub judged_by : {F T : Type 0} → (F → Option (Why Val)) → Result T F → Result (Result T Refusal) Memory
judged_by why (Ok t) = Ok (Ok t)
judged_by why (Err fault) = refused_by (why fault)

-- what was made, seen through f
abbrev pub made_map : {C D : Type 0} → (C → D) → Result C Refusal → Result D Refusal
made_map f (Ok c) = Ok (f c)
made_map f (Err r) = Err r

-- a change, with the other collection seen through f
abbrev pub change_map : {C D : Type 0} → (C → D) → Result (Edit C) Refusal → Result (Edit D) Refusal
change_map f (Ok Same) = Ok Same
change_map f (Ok (New c)) = Ok (New (f c))
change_map f (Err r) = Err r

-- the collection after a change, where it is not refused
abbrev pub or_unchanged : {C : Type 0} → C → Result (Edit C) Refusal → Result C Refusal
or_unchanged c (Ok Same) = Ok c
or_unchanged c (Ok (New d)) = Ok d
or_unchanged c (Err r) = Err r

-- ---- another comparer

abbrev pub new_or_refused : Result Plain Refusal → Changed
new_or_refused (Ok q) = Ok (New q)
new_or_refused (Err r) = Err r

-- a collection under another comparer, with the kind that it has then: as it was where that is its own
abbrev pub rekeyed_by : Comparer → Kind → Plain → Changed
rekeyed_by comparer kind p =
    if has_comparer p.kind comparer then Ok Same
    else new_or_refused (rekeyed kind p.values)
