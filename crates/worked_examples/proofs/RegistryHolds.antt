-- The report of a registry.
use Rattle.std.specs.Prelude.{ℕ, pos, ◌+◌, ◌-◌, ◌*◌, List, [], ◌∷◌, ◌++◌, map, Option, Some, None}
use Rattle.std.specs.List.{flat_map}
use Rattle.std.proofs.Common.{refl}
use Rattle.imm_base.specs.declared.val.Val.TheVariants.{Int}
use Rattle.imm_base.specs.declared.comparers.ValEq.TheVariants as equalities
use Rattle.plain_model.specs.declared.plain.Kind.TheVariants as kinds
use Rattle.plain_model.specs.declared.plain.Values.TheVariants as values
use Rattle.plain_model.specs.declared.plain.Plain.{Plain}
use Rattle.plain_model.specs.declared.commands.Transform.TheVariants.{Plus}
use Rattle.plain_model.specs.declared.commands.PlainCall.TheVariants as calls
use Rattle.plain_model.specs.declared.report.CellReport.{CellReport}
use Rattle.plain_model.specs.declared.report.LocalLine.{LocalLine}
use Rattle.plain_model.specs.Frozen.{numbers_from}
use Rattle.plain_model.specs.History.{Numbered, last_value}
use Rattle.plain_model.specs.Work.{Deed, work_from, local_lines}
use Rattle.worked_examples.specs.LawfulExamples.{service}
use Rattle.worked_examples.specs.RegistryExamples.{registry_cell, registry_part, RegistryExample}
use Rattle.worked_examples.proofs.Built.{only_zero, built, built_legal, built_by_one}

abbrev nobody_yet : Plain
nobody_yet = record { kind = kinds.Dict equalities.NoCase; values = values.Pairs [] }

-- the two calls of the name i, behind o commands
abbrev calls_of_name : ℕ → ℕ → List Numbered
calls_of_name o i =
    record { ordinal = o + 2 * i - 1; call = calls.GetOrAdd (service i) (Int (pos 0)) }
    ∷ record { ordinal = o + 2 * i; call = calls.AddOrUpdate (service i) (Int (pos 1)) (Plus (pos 1)) }
    ∷ []

abbrev reading_at : ℕ → Numbered
reading_at o = record { ordinal = o + 81; call = calls.Read }

abbrev registry_calls : List Numbered
registry_calls = flat_map (λ p. flat_map (calls_of_name (86 * p)) (numbers_from 1 40) ++ reading_at (86 * p) ∷ []) (numbers_from 0 4)

abbrev registry_report : CellReport
registry_report = record { cell = registry_cell; first = nobody_yet; lines = built nobody_yet 0 registry_calls; last = last_value nobody_yet (built nobody_yet 0 registry_calls) }

abbrev lines_or_none : Option (List Deed) → List LocalLine
lines_or_none (Some ds) = local_lines ds
lines_or_none None = []

abbrev registry_lines : List LocalLine
registry_lines = lines_or_none (work_from (registry_report ∷ []) 1 1 (map (λ p. registry_part) (numbers_from 1 4)))

pub registry_holds : RegistryExample
registry_holds = record {
  report = record { workers = 1; cells = registry_report ∷ []; locals = registry_lines ∷ [] };
  lawful = record {
    workers = refl;
    cells = refl;
    runs = (record { first = refl; legal = built_legal registry_calls nobody_yet refl refl; callers = built_by_one registry_calls nobody_yet 0; last = refl }, tt);
    one_list_per_worker = refl;
    works = only_zero _ (record { lines = refl; calls = (refl, tt) });
  };
  installs = refl;
  finals = refl;
  asked = refl;
}
