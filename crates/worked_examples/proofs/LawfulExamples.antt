-- The reports of the examples are lawful.
use Rattle.std.specs.Prelude.{true, false, pos, map, length, ◌≡◌, refl, ℕ, zero, suc, ◌+◌, ◌<◌, ◌≤◌, ◌⊎◌, List, [], ◌∷◌, Some, slice_get}
use Rattle.std.specs.List.{AllByRecursion}
use Rattle.std.specs.declared.cmp.Ordering.TheVariants.{Less, Greater}
use Rattle.std.specs.Fmt.{digits}
use Rattle.std.proofs.Common.{arith, ap, sym, true≢false, inl, inr}
use Rattle.plain_model.specs.Lawful.{Lawful, HasWorked, IsWorkOf, parts_of, IsCellRun}
use Rattle.plain_model.specs.History.{InOrder, FitsFrom, MayProbe, Numbered, numbered, calls_of, Whole}
use Rattle.plain_model.specs.declared.history.Reply.TheVariants as replies
use Rattle.plain_model.specs.declared.commands.Probe.{Probe}
use Rattle.plain_model.specs.declared.commands.Probe.TheVariants.{Idle, Ran}
use Rattle.imm_base.specs.declared.val.Val.TheVariants.{Int}
use Rattle.imm_base.specs.declared.comparers.ValEq.TheVariants as equalities
use Rattle.plain_model.specs.Plain.{pairs, IsPlain}
use Rattle.plain_model.specs.Frozen.{numbers_from, frozen_pairs}
use Rattle.plain_model.specs.Work.{local_line, work_from}
use Rattle.worked_examples.proofs.Alone.{alone}
use Rattle.worked_examples.proofs.Built.{only_zero}
use Rattle.worked_examples.specs.ReportExamples.{ReportExample, IsTold, report_examples, adding_and_reading, read_between, equal_value_installs, queue_emptied, greatest_sum, publications, two_parts, added_and_updated, removed, transformed_texts, stack_calls, arrays_exchanged, unset_array_kept, factories_run}
use Rattle.worked_examples.specs.LawfulExamples.{LawfulExamples, two_spellings, falling, wanting_cell, nothing_script, nothing_report, wanting_script, wanting_report, registry, service, HasLines, nothing_lines, second_wins_lines, reading, seen, key, holding, made_by, making_cell, making_script, making_report, ran_too_lines, unseen, reading_deeds, adding_one, reading_before, nothing_yet, showing}

abbrev IsLawfulAlone : ReportExample → Type 0
IsLawfulAlone e = Lawful e.script 1 (alone e.script)

adding_and_reading_lawful : IsLawfulAlone adding_and_reading
adding_and_reading_lawful = record {
  workers = refl;
  cells = refl;
  runs = (record { first = refl; legal = record { steps = (record { installed = refl; reply = refl; position = refl }, (record { installed = refl; reply = refl; position = refl }, (record { installed = refl; reply = refl; position = refl }, tt))); order = ((λ a b c. absurd (true≢false a)), ((λ a b c. absurd (true≢false a)), tt)); probes = (tt, (tt, (tt, tt))) }; callers = ((omega arith, omega arith), ((omega arith, omega arith), ((omega arith, omega arith), tt))); last = refl }, tt);
  one_list_per_worker = refl;
  works = only_zero _ (record { lines = refl; calls = (refl, tt) });
}

read_between_lawful : IsLawfulAlone read_between
read_between_lawful = record {
  workers = refl;
  cells = refl;
  runs = (record { first = refl; legal = record { steps = (record { installed = refl; reply = refl; position = refl }, (record { installed = refl; reply = refl; position = refl }, (record { installed = refl; reply = refl; position = refl }, tt))); order = ((λ a b c. absurd (true≢false a)), ((λ a b c. absurd (true≢false b)), tt)); probes = (tt, (tt, (tt, tt))) }; callers = ((omega arith, omega arith), ((omega arith, omega arith), ((omega arith, omega arith), tt))); last = refl }, tt);
  one_list_per_worker = refl;
  works = only_zero _ (record { lines = refl; calls = (refl, tt) });
}

equal_value_installs_lawful : IsLawfulAlone equal_value_installs
equal_value_installs_lawful = record {
  workers = refl;
  cells = refl;
  runs = (record { first = refl; legal = record { steps = (record { installed = refl; reply = refl; position = refl }, (record { installed = refl; reply = refl; position = refl }, tt)); order = ((λ a b c. absurd (true≢false a)), tt); probes = (tt, (tt, tt)) }; callers = ((omega arith, omega arith), ((omega arith, omega arith), tt)); last = refl }, tt);
  one_list_per_worker = refl;
  works = only_zero _ (record { lines = refl; calls = (refl, tt) });
}

queue_emptied_lawful : IsLawfulAlone queue_emptied
queue_emptied_lawful = record {
  workers = refl;
  cells = refl;
  runs = (record { first = refl; legal = record { steps = (record { installed = refl; reply = refl; position = refl }, (record { installed = refl; reply = refl; position = refl }, (record { installed = refl; reply = refl; position = refl }, (record { installed = refl; reply = refl; position = refl }, (record { installed = refl; reply = refl; position = refl }, (record { installed = refl; reply = refl; position = refl }, (record { installed = refl; reply = refl; position = refl }, tt))))))); order = ((λ a b c. absurd (true≢false a)), ((λ a b c. absurd (true≢false a)), ((λ a b c. absurd (true≢false a)), ((λ a b c. absurd (true≢false a)), ((λ a b c. absurd (true≢false a)), ((λ a b c. absurd (true≢false a)), tt)))))); probes = (tt, (tt, (tt, (tt, (tt, (tt, (tt, tt))))))) }; callers = ((omega arith, omega arith), ((omega arith, omega arith), ((omega arith, omega arith), ((omega arith, omega arith), ((omega arith, omega arith), ((omega arith, omega arith), ((omega arith, omega arith), tt))))))); last = refl }, tt);
  one_list_per_worker = refl;
  works = only_zero _ (record { lines = refl; calls = (refl, tt) });
}

greatest_sum_lawful : IsLawfulAlone greatest_sum
greatest_sum_lawful = record {
  workers = refl;
  cells = refl;
  runs = (record { first = refl; legal = record { steps = (record { installed = refl; reply = refl; position = refl }, tt); order = tt; probes = (tt, tt) }; callers = ((omega arith, omega arith), tt); last = refl }, tt);
  one_list_per_worker = refl;
  works = only_zero _ (record { lines = refl; calls = (refl, tt) });
}

publications_lawful : IsLawfulAlone publications
publications_lawful = record {
  workers = refl;
  cells = refl;
  runs = (record { first = refl; legal = record { steps = (record { installed = refl; reply = refl; position = refl }, tt); order = tt; probes = (tt, tt) }; callers = ((omega arith, omega arith), tt); last = refl }, tt);
  one_list_per_worker = refl;
  works = only_zero _ (record { lines = refl; calls = (refl, tt) });
}

two_parts_lawful : IsLawfulAlone two_parts
two_parts_lawful = record {
  workers = refl;
  cells = refl;
  runs = (record { first = refl; legal = record { steps = (record { installed = refl; reply = refl; position = refl }, (record { installed = refl; reply = refl; position = refl }, tt)); order = ((λ a b c. absurd (true≢false b)), tt); probes = (tt, (tt, tt)) }; callers = ((omega arith, omega arith), ((omega arith, omega arith), tt)); last = refl }, tt);
  one_list_per_worker = refl;
  works = only_zero _ (record { lines = refl; calls = (refl, tt) });
}

added_and_updated_lawful : IsLawfulAlone added_and_updated
added_and_updated_lawful = record {
  workers = refl;
  cells = refl;
  runs = (record { first = refl; legal = record { steps = (record { installed = refl; reply = refl; position = refl }, (record { installed = refl; reply = refl; position = refl }, (record { installed = refl; reply = refl; position = refl }, (record { installed = refl; reply = refl; position = refl }, tt)))); order = ((λ a b c. absurd (true≢false a)), ((λ a b c. absurd (true≢false a)), ((λ a b c. absurd (true≢false b)), tt))); probes = (tt, (tt, (tt, (tt, tt)))) }; callers = ((omega arith, omega arith), ((omega arith, omega arith), ((omega arith, omega arith), ((omega arith, omega arith), tt)))); last = refl }, tt);
  one_list_per_worker = refl;
  works = only_zero _ (record { lines = refl; calls = (refl, tt) });
}

removed_lawful : IsLawfulAlone removed
removed_lawful = record {
  workers = refl;
  cells = refl;
  runs = (record { first = refl; legal = record { steps = (record { installed = refl; reply = refl; position = refl }, (record { installed = refl; reply = refl; position = refl }, (record { installed = refl; reply = refl; position = refl }, tt))); order = ((λ a b c. absurd (true≢false b)), ((λ a b c. absurd (true≢false a)), tt)); probes = (tt, (tt, (tt, tt))) }; callers = ((omega arith, omega arith), ((omega arith, omega arith), ((omega arith, omega arith), tt))); last = refl }, tt);
  one_list_per_worker = refl;
  works = only_zero _ (record { lines = refl; calls = (refl, tt) });
}

transformed_texts_lawful : IsLawfulAlone transformed_texts
transformed_texts_lawful = record {
  workers = refl;
  cells = refl;
  runs = (record { first = refl; legal = record { steps = (record { installed = refl; reply = refl; position = refl }, (record { installed = refl; reply = refl; position = refl }, (record { installed = refl; reply = refl; position = refl }, tt))); order = ((λ a b c. absurd (true≢false a)), ((λ a b c. absurd (true≢false a)), tt)); probes = (tt, (tt, (tt, tt))) }; callers = ((omega arith, omega arith), ((omega arith, omega arith), ((omega arith, omega arith), tt))); last = refl }, tt);
  one_list_per_worker = refl;
  works = only_zero _ (record { lines = refl; calls = (refl, tt) });
}

stack_calls_lawful : IsLawfulAlone stack_calls
stack_calls_lawful = record {
  workers = refl;
  cells = refl;
  runs = (record { first = refl; legal = record { steps = (record { installed = refl; reply = refl; position = refl }, (record { installed = refl; reply = refl; position = refl }, (record { installed = refl; reply = refl; position = refl }, (record { installed = refl; reply = refl; position = refl }, (record { installed = refl; reply = refl; position = refl }, tt))))); order = ((λ a b c. absurd (true≢false a)), ((λ a b c. absurd (true≢false a)), ((λ a b c. absurd (true≢false a)), ((λ a b c. absurd (true≢false a)), tt)))); probes = (tt, (tt, (tt, (tt, (tt, tt))))) }; callers = ((omega arith, omega arith), ((omega arith, omega arith), ((omega arith, omega arith), ((omega arith, omega arith), ((omega arith, omega arith), tt))))); last = refl }, tt);
  one_list_per_worker = refl;
  works = only_zero _ (record { lines = refl; calls = (refl, tt) });
}

arrays_exchanged_lawful : IsLawfulAlone arrays_exchanged
arrays_exchanged_lawful = record {
  workers = refl;
  cells = refl;
  runs = (record { first = refl; legal = record { steps = (record { installed = refl; reply = refl; position = refl }, (record { installed = refl; reply = refl; position = refl }, (record { installed = refl; reply = refl; position = refl }, (record { installed = refl; reply = refl; position = refl }, (record { installed = refl; reply = refl; position = refl }, (record { installed = refl; reply = refl; position = refl }, tt)))))); order = ((λ a b c. absurd (true≢false a)), ((λ a b c. absurd (true≢false b)), ((λ a b c. absurd (true≢false a)), ((λ a b c. absurd (true≢false a)), ((λ a b s. inr (refl, omega arith)), tt))))); probes = (tt, (tt, (tt, (tt, (tt, (tt, tt)))))) }; callers = ((omega arith, omega arith), ((omega arith, omega arith), ((omega arith, omega arith), ((omega arith, omega arith), ((omega arith, omega arith), ((omega arith, omega arith), tt)))))); last = refl }, tt);
  one_list_per_worker = refl;
  works = only_zero _ (record { lines = refl; calls = (refl, tt) });
}

unset_array_kept_lawful : IsLawfulAlone unset_array_kept
unset_array_kept_lawful = record {
  workers = refl;
  cells = refl;
  runs = (record { first = refl; legal = record { steps = (record { installed = refl; reply = refl; position = refl }, (record { installed = refl; reply = refl; position = refl }, tt)); order = ((λ a b s. inr (refl, omega arith)), tt); probes = (tt, (tt, tt)) }; callers = ((omega arith, omega arith), ((omega arith, omega arith), tt)); last = refl }, tt);
  one_list_per_worker = refl;
  works = only_zero _ (record { lines = refl; calls = (refl, tt) });
}

factories_run_lawful : IsLawfulAlone factories_run
factories_run_lawful = record {
  workers = refl;
  cells = refl;
  runs = (record { first = refl; legal = record { steps = (record { installed = refl; reply = refl; position = refl }, (record { installed = refl; reply = refl; position = refl }, (record { installed = refl; reply = refl; position = refl }, (record { installed = refl; reply = refl; position = refl }, (record { installed = refl; reply = refl; position = refl }, tt))))); order = ((λ a b c. absurd (true≢false b)), ((λ a b c. absurd (true≢false a)), ((λ a b c. absurd (true≢false b)), ((λ a b c. absurd (true≢false a)), tt)))); probes = (refl, (record { seen = omega arith; past = omega arith; absent = refl }, (refl, (tt, (tt, tt))))) }; callers = ((omega arith, omega arith), ((omega arith, omega arith), ((omega arith, omega arith), ((omega arith, omega arith), ((omega arith, omega arith), tt))))); last = refl }, tt);
  one_list_per_worker = refl;
  works = only_zero _ (record { lines = refl; calls = (refl, tt) });
}

nothing_lawful : Lawful nothing_script 3 nothing_report
nothing_lawful = record { workers = refl; cells = refl; runs = tt; one_list_per_worker = refl; works = by_worker }
  where
    by_worker : (k : ℕ) → k < 3 → HasWorked (k + 1) (work_from [] (k + 1) 1 (parts_of (k + 1) 3 [])) [] (slice_get ([] ∷ [] ∷ [] ∷ []) k)
    by_worker zero h = record { lines = refl; calls = tt }
    by_worker (suc zero) h = record { lines = refl; calls = tt }
    by_worker (suc (suc zero)) h = record { lines = refl; calls = tt }
    by_worker (suc (suc (suc k))) h = absurd (omega arith)

abbrev WantingWorked : ℕ → ℕ → ℕ → Type 0
WantingWorked winner loser k = HasWorked (k + 1) (work_from (wanting_cell winner loser ∷ []) (k + 1) 1 (parts_of (k + 1) 2 wanting_script.parts)) (wanting_cell winner loser ∷ []) (slice_get ([] ∷ [] ∷ []) k)

first_wins : Lawful wanting_script 2 (wanting_report 1 2)
first_wins = record {
  workers = refl;
  cells = refl;
  runs = (record { first = refl; legal = record { steps = (record { installed = refl; reply = refl; position = refl }, (record { installed = refl; reply = refl; position = refl }, tt)); order = ((λ a b c. absurd (true≢false a)), tt); probes = (tt, (tt, tt)) }; callers = ((omega arith, omega arith), ((omega arith, omega arith), tt)); last = refl }, tt);
  one_list_per_worker = refl;
  works = by_worker;
}
  where
    by_worker : (k : ℕ) → k < 2 → WantingWorked 1 2 k
    by_worker zero h = record { lines = refl; calls = (refl, tt) }
    by_worker (suc zero) h = record { lines = refl; calls = (refl, tt) }
    by_worker (suc (suc k)) h = absurd (omega arith)

second_wins : Lawful wanting_script 2 (wanting_report 2 1)
second_wins = record {
  workers = refl;
  cells = refl;
  runs = (record { first = refl; legal = record { steps = (record { installed = refl; reply = refl; position = refl }, (record { installed = refl; reply = refl; position = refl }, tt)); order = ((λ a b c. absurd (true≢false a)), tt); probes = (tt, (tt, tt)) }; callers = ((omega arith, omega arith), ((omega arith, omega arith), tt)); last = refl }, tt);
  one_list_per_worker = refl;
  works = by_worker;
}
  where
    by_worker : (k : ℕ) → k < 2 → WantingWorked 2 1 k
    by_worker zero h = record { lines = refl; calls = (refl, tt) }
    by_worker (suc zero) h = record { lines = refl; calls = (refl, tt) }
    by_worker (suc (suc k)) h = absurd (omega arith)

abbrev MakingWorked : ℕ → ℕ → Probe → ℕ → Type 0
MakingWorked winner loser probe k =
    HasWorked (k + 1) (work_from (making_cell winner loser probe ∷ []) (k + 1) 1 (parts_of (k + 1) 2 making_script.parts)) (making_cell winner loser probe ∷ []) (slice_get ([] ∷ [] ∷ []) k)

found_at_once : Lawful making_script 2 (making_report 1 2 Idle)
found_at_once = record {
  workers = refl;
  cells = refl;
  runs = (record { first = refl; legal = record { steps = (record { installed = refl; reply = refl; position = refl }, (record { installed = refl; reply = refl; position = refl }, tt)); order = ((λ a b c. absurd (true≢false a)), tt); probes = (record { seen = omega arith; past = omega arith; absent = refl }, (refl, tt)) }; callers = ((omega arith, omega arith), ((omega arith, omega arith), tt)); last = refl }, tt);
  one_list_per_worker = refl;
  works = by_worker;
}
  where
    by_worker : (k : ℕ) → k < 2 → MakingWorked 1 2 Idle k
    by_worker zero h = record { lines = refl; calls = (refl, tt) }
    by_worker (suc zero) h = record { lines = refl; calls = (refl, tt) }
    by_worker (suc (suc k)) h = absurd (omega arith)

ran_too : Lawful making_script 2 (making_report 1 2 (Ran 0))
ran_too = record {
  workers = refl;
  cells = refl;
  runs = (record { first = refl; legal = record { steps = (record { installed = refl; reply = refl; position = refl }, (record { installed = refl; reply = refl; position = refl }, tt)); order = ((λ a b c. absurd (true≢false a)), tt); probes = (record { seen = omega arith; past = omega arith; absent = refl }, (record { seen = omega arith; past = omega arith; absent = refl }, tt)) }; callers = ((omega arith, omega arith), ((omega arith, omega arith), tt)); last = refl }, tt);
  one_list_per_worker = refl;
  works = by_worker;
}
  where
    by_worker : (k : ℕ) → k < 2 → MakingWorked 1 2 (Ran 0) k
    by_worker zero h = record { lines = refl; calls = (refl, tt) }
    by_worker (suc zero) h = record { lines = refl; calls = (refl, tt) }
    by_worker (suc (suc k)) h = absurd (omega arith)

second_found_at_once : Lawful making_script 2 (making_report 2 1 Idle)
second_found_at_once = record {
  workers = refl;
  cells = refl;
  runs = (record { first = refl; legal = record { steps = (record { installed = refl; reply = refl; position = refl }, (record { installed = refl; reply = refl; position = refl }, tt)); order = ((λ a b c. absurd (true≢false a)), tt); probes = (record { seen = omega arith; past = omega arith; absent = refl }, (refl, tt)) }; callers = ((omega arith, omega arith), ((omega arith, omega arith), tt)); last = refl }, tt);
  one_list_per_worker = refl;
  works = by_worker;
}
  where
    by_worker : (k : ℕ) → k < 2 → MakingWorked 2 1 Idle k
    by_worker zero h = record { lines = refl; calls = (refl, tt) }
    by_worker (suc zero) h = record { lines = refl; calls = (refl, tt) }
    by_worker (suc (suc k)) h = absurd (omega arith)

second_ran_too : Lawful making_script 2 (making_report 2 1 (Ran 0))
second_ran_too = record {
  workers = refl;
  cells = refl;
  runs = (record { first = refl; legal = record { steps = (record { installed = refl; reply = refl; position = refl }, (record { installed = refl; reply = refl; position = refl }, tt)); order = ((λ a b c. absurd (true≢false a)), tt); probes = (record { seen = omega arith; past = omega arith; absent = refl }, (record { seen = omega arith; past = omega arith; absent = refl }, tt)) }; callers = ((omega arith, omega arith), ((omega arith, omega arith), tt)); last = refl }, tt);
  one_list_per_worker = refl;
  works = by_worker;
}
  where
    by_worker : (k : ℕ) → k < 2 → MakingWorked 2 1 (Ran 0) k
    by_worker zero h = record { lines = refl; calls = (refl, tt) }
    by_worker (suc zero) h = record { lines = refl; calls = (refl, tt) }
    by_worker (suc (suc k)) h = absurd (omega arith)

ran_too_has_lines : HasLines (making_report 1 2 (Ran 0)) ran_too_lines
unfolding digits
ran_too_has_lines = refl

nothing_has_lines : HasLines nothing_report nothing_lines
unfolding digits
nothing_has_lines = refl

second_has_lines : HasLines (wanting_report 2 1) second_wins_lines
unfolding digits
second_has_lines = refl

-- ---- what is not lawful

neither_before : (a b o p : ℕ) → b ≤ a → (a ≡ b → p ≤ o) → (a < b) ⊎ ((a ≡ b) × (o < p)) → ⊥
neither_before a b o p h i (inl l) = omega arith
neither_before a b o p h i (inr (e, l)) = let j : p ≤ o = i e in omega (arith, j, l)

later_worker_first : InOrder (reading 2 1 ∷ reading 1 1 ∷ []) → ⊥
later_worker_first h = neither_before 2 1 1 1 (omega arith) (λ e. omega arith) (h.0 refl refl refl)

later_ordinal_first : InOrder (reading 1 2 ∷ reading 1 1 ∷ []) → ⊥
later_ordinal_first h = neither_before 1 1 2 1 (omega arith) (λ e. omega arith) (h.0 refl refl refl)

stranger : IsCellRun 2 (seen (reading 3 1)) → ⊥
stranger run = let h : 3 ≤ 2 = run.callers.0.1 in omega (arith, h)

nobody : IsCellRun 2 (seen (reading 0 1)) → ⊥
nobody run = let h : 1 ≤ 0 = run.callers.0.0 in omega (arith, h)

another_reply : IsCellRun 1 (seen (record (reading 1 1) { reply = replies.Count 1 })) → ⊥
another_reply run = let h : replies.Count 1 ≡ replies.Count 0 = run.legal.steps.0.reply in cc

ran_late : MayProbe (holding []) (made_by 1 (Ran 0) 1 true ∷ []) 2 (Some (key, Ran 1)) → ⊥
ran_late may = let h : true ≡ false = sym may.absent in true≢false h

ran_before_own_line : MayProbe (holding []) (made_by 1 (Ran 0) 1 true ∷ []) 1 (Some (Int (pos 3), Ran 0)) → ⊥
ran_before_own_line may = let h : 1 ≤ 0 = may.seen in omega (arith, h)

ran_ahead : MayProbe (holding []) [] 1 (Some (key, Ran 1)) → ⊥
ran_ahead may = let h : 1 ≤ 0 = may.past in omega (arith, h)

idle_without_key : MayProbe (holding []) [] 1 (Some (key, Idle)) → ⊥
idle_without_key may = let h : true ≡ false = sym may in true≢false h

read_left_out : HasWorked 1 (reading_deeds (unseen ∷ [])) (unseen ∷ []) (Some []) → ⊥
read_left_out h = h

twice : Whole (numbered (reading 1 1) ∷ []) 1 (reading 1 1 ∷ reading 1 1 ∷ []) → ⊥
twice h = let e : length (calls_of 1 (reading 1 1 ∷ reading 1 1 ∷ [])) ≡ 1 = ap length h in omega (arith, e)

turned_round : Whole (numbered (reading 1 1) ∷ numbered (reading 1 2) ∷ []) 1 (reading 1 2 ∷ reading 1 1 ∷ []) → ⊥
turned_round h = let e : 2 ≡ 1 = ap first_ordinal h in omega (arith, e)
  where
    first_ordinal : List Numbered → ℕ
    first_ordinal [] = 0
    first_ordinal (n ∷ ns) = n.ordinal

before_its_install : FitsFrom nothing_yet 0 (reading_before ∷ adding_one ∷ []) → ⊥
before_its_install fits = let h : 1 ≡ 0 = fits.0.position in omega (arith, h)

local_left_out : IsWorkOf 1 (local_line showing ∷ []) [] [] → ⊥
local_left_out is = let h : 1 ≡ 0 = ap length is.lines in omega (arith, h)

not_two_spellings : IsPlain two_spellings → ⊥
not_two_spellings is = let h : true ≡ false = is.kept.distinct.0 in true≢false h

not_falling : IsPlain falling → ⊥
not_falling is = let h : Greater ≡ Less = is.kept.rises.0.0 in cc

registered_installs : registry.0 ≡ 200
registered_installs = refl

registered_finals : pairs registry.1.values ≡ map (λ i. (service i, Int (pos 4))) (numbers_from 1 40)
registered_finals = refl

registered_frozen : length (frozen_pairs equalities.NoCase (pairs registry.1.values)) ≡ 40
registered_frozen = refl

pub reports_hold : AllByRecursion IsTold report_examples
unfolding digits
reports_hold = (
  record { report = alone adding_and_reading.script; lawful = adding_and_reading_lawful; text = refl },
  (
    record { report = alone read_between.script; lawful = read_between_lawful; text = refl },
    (
      record { report = alone equal_value_installs.script; lawful = equal_value_installs_lawful; text = refl },
      (
        record { report = alone queue_emptied.script; lawful = queue_emptied_lawful; text = refl },
        (
          record { report = alone greatest_sum.script; lawful = greatest_sum_lawful; text = refl },
          (
            record { report = alone publications.script; lawful = publications_lawful; text = refl },
            (
              record { report = alone two_parts.script; lawful = two_parts_lawful; text = refl },
              (
                record { report = alone added_and_updated.script; lawful = added_and_updated_lawful; text = refl },
                (
                  record { report = alone removed.script; lawful = removed_lawful; text = refl },
                  (
                    record { report = alone transformed_texts.script; lawful = transformed_texts_lawful; text = refl },
                    (
                      record { report = alone stack_calls.script; lawful = stack_calls_lawful; text = refl },
                      (
                        record { report = alone arrays_exchanged.script; lawful = arrays_exchanged_lawful; text = refl },
                        (
                          record { report = alone unset_array_kept.script; lawful = unset_array_kept_lawful; text = refl },
                          (record { report = alone factories_run.script; lawful = factories_run_lawful; text = refl }, tt),
                        ),
                      ),
                    ),
                  ),
                ),
              ),
            ),
          ),
        ),
      ),
    ),
  ),
)

pub lawful_hold : LawfulExamples
lawful_hold = record {
  nothing = nothing_lawful;
  nothing_text = nothing_has_lines;
  parts_of_first = refl;
  parts_of_second = refl;
  parts_of_fifth = refl;
  first_wins = first_wins;
  second_wins = second_wins;
  second_text = second_has_lines;
  found_at_once = found_at_once;
  ran_too = ran_too;
  second_found_at_once = second_found_at_once;
  second_ran_too = second_ran_too;
  ran_too_text = ran_too_has_lines;
  ran_late = ran_late;
  ran_before_own_line = ran_before_own_line;
  ran_ahead = ran_ahead;
  idle_without_key = idle_without_key;
  later_worker_first = later_worker_first;
  later_ordinal_first = later_ordinal_first;
  stranger = stranger;
  nobody = nobody;
  another_reply = another_reply;
  read_left_out = read_left_out;
  twice = twice;
  turned_round = turned_round;
  before_its_install = before_its_install;
  local_left_out = local_left_out;
  most_published = refl;
  more_published = refl;
  two_spellings = not_two_spellings;
  falling = not_falling;
  registered = record { installs = registered_installs; finals = registered_finals; frozen = registered_frozen };
}
