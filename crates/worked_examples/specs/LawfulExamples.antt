-- Reports that are lawful, and what they have in them.
use Rattle.std.specs.Prelude.{◌≡◌, ◌+◌, ◌/◌, ◌%◌, ℕ, pos, List, [], ◌∷◌, ◌++◌, length, map, fold, codes, Bool, true, false, Option, Some, None, option_map, decimal}
use Rattle.std.specs.List.{flat_map}
use Rattle.imm_base.specs.declared.val.Val.{Val}
use Rattle.imm_base.specs.declared.val.Val.TheVariants.{Int, Text}
use Rattle.imm_base.specs.declared.comparers.ValOrder.TheVariants as orders
use Rattle.imm_base.specs.declared.comparers.ValEq.TheVariants as equalities
use Rattle.plain_model.specs.declared.plain.Kind.TheVariants as kinds
use Rattle.plain_model.specs.declared.plain.Plain.{Plain}
use Rattle.plain_model.specs.declared.plain.Values.TheVariants as values
use Rattle.plain_model.specs.declared.commands.Command.{Command}
use Rattle.plain_model.specs.declared.commands.Command.TheVariants as commands
use Rattle.plain_model.specs.declared.commands.Transform.TheVariants.{Plus}
use Rattle.plain_model.specs.declared.commands.Factory.TheVariants.{Const}
use Rattle.plain_model.specs.declared.commands.Probe.{Probe}
use Rattle.plain_model.specs.declared.commands.Probe.TheVariants.{Idle, Ran}
use Rattle.plain_model.specs.declared.commands.PlainOp.TheVariants as ops
use Rattle.plain_model.specs.declared.commands.PlainCall.{PlainCall}
use Rattle.plain_model.specs.declared.commands.PlainCall.TheVariants as calls
use Rattle.plain_model.specs.declared.history.Line.{Line}
use Rattle.plain_model.specs.declared.history.Reply.TheVariants as replies
use Rattle.plain_model.specs.declared.report.CellDecl.{CellDecl}
use Rattle.plain_model.specs.declared.report.CellReport.{CellReport}
use Rattle.plain_model.specs.declared.report.Answer.TheVariants as answers
use Rattle.plain_model.specs.declared.report.LocalLine.{LocalLine}
use Rattle.plain_model.specs.declared.report.Part.{Part}
use Rattle.plain_model.specs.declared.report.Report.{Report}
use Rattle.plain_model.specs.declared.report.Script.{Script}
use Rattle.plain_model.specs.declared.report.Version.TheVariants as versions
use Rattle.plain_model.specs.Plain.{elements, pairs, nothing, IsPlain}
use Rattle.plain_model.specs.Locals.{bind, collection, no_locals}
use Rattle.plain_model.specs.Work.{Deed, local_line, on_cell, deed_of, work_from}
use Rattle.plain_model.specs.Frozen.{numbers_from, frozen_pairs}
use Rattle.plain_model.specs.Text.{report_text, end_line}
use Rattle.plain_model.specs.Lawful.{IsCellRun, IsWorkOf, HasWorked, Lawful, parts_of}
use Rattle.plain_model.specs.History.{InOrder, FitsFrom, MayProbe, Whole, numbered}
use Rattle.plain_model.specs.Cell.{cell}

-- ---- more workers than parts

abbrev pub nothing_script : Script
nothing_script = record { version = versions.One; cells = []; parts = [] }

abbrev pub nothing_report : Report
nothing_report = record { workers = 3; cells = []; locals = [] ∷ [] ∷ [] ∷ [] }

abbrev pub nothing_lines : List (List ℕ)
nothing_lines =
    codes "immrun report 1"
    ∷ codes "workers 3"
    ∷ codes "worker 1"
    ∷ codes "worker 2"
    ∷ codes "worker 3"
    ∷ codes "end"
    ∷ []

-- ---- two workers that want the same key: either may come first

abbrev pub dict_c : CellDecl
dict_c = record { name = codes "C"; kind = kinds.Dict equalities.Ordinal; values = values.Pairs ((Text (codes "a"), Int (pos 1)) ∷ []) }

abbrev pub dict_of : ℕ → Plain
dict_of n = record { kind = kinds.Dict equalities.Ordinal; values = values.Pairs ((Text (codes "a"), Int (pos n)) ∷ []) }

abbrev pub wanting : List Command
wanting = commands.TryUpdate (codes "C") (Text (codes "a")) (Int (pos 2)) (Int (pos 1)) ∷ []

abbrev pub wanting_script : Script
wanting_script = record { version = versions.One; cells = dict_c ∷ []; parts = record { commands = wanting } ∷ record { commands = wanting } ∷ [] }

-- a line of the worker w
abbrev pub wanted : ℕ → Bool → Line
wanted w won = record { position = 1; caller = w; ordinal = 1; call = calls.TryUpdate (Text (codes "a")) (Int (pos 2)) (Int (pos 1)); reply = replies.Flag won; installed = won }

abbrev pub wanting_cell : ℕ → ℕ → CellReport
wanting_cell winner loser = record { cell = dict_c; first = dict_of 1; lines = wanted winner true ∷ wanted loser false ∷ []; last = dict_of 2 }

abbrev pub wanting_report : ℕ → ℕ → Report
wanting_report winner loser = record { workers = 2; cells = wanting_cell winner loser ∷ []; locals = [] ∷ [] ∷ [] }

abbrev pub second_wins_lines : List (List ℕ)
second_wins_lines =
    codes "immrun report 1"
    ∷ codes "workers 2"
    ∷ codes "cell C dict ordinal"
    ∷ codes "first 1: \"a\"=1"
    ∷ codes "1 2.1 + tryupdate \"a\" 2 1 -> true"
    ∷ codes "1 1.1 . tryupdate \"a\" 2 1 -> false"
    ∷ codes "final 1: \"a\"=2"
    ∷ codes "worker 1"
    ∷ codes "worker 2"
    ∷ codes "end"
    ∷ []

-- ---- two workers whose factories make different values for one key: either may come first

abbrev pub dict_d : CellDecl
dict_d = record { name = codes "C"; kind = kinds.Dict equalities.Ordinal; values = values.Pairs [] }

abbrev pub key : Val
key = Text (codes "k")

abbrev pub holding : List (Val × Val) → Plain
holding ps = record { kind = kinds.Dict equalities.Ordinal; values = values.Pairs ps }

abbrev pub making : ℕ → Part
making w = record { commands = commands.GetOrAddMade (codes "C") key (Const (Int (pos w))) ∷ [] }

abbrev pub making_script : Script
making_script = record { version = versions.Two; cells = dict_d ∷ []; parts = making 1 ∷ making 2 ∷ [] }

-- a line of the worker w, whose call answers v
abbrev pub made_by : ℕ → Probe → ℕ → Bool → Line
made_by w probe v won = record {
  position = 1;
  caller = w;
  ordinal = 1;
  call = calls.GetOrAddMade key (Const (Int (pos w))) probe;
  reply = replies.Value (Int (pos v));
  installed = won;
}

abbrev pub making_cell : ℕ → ℕ → Probe → CellReport
making_cell winner loser probe = record {
  cell = dict_d;
  first = holding [];
  lines = made_by winner (Ran 0) winner true ∷ made_by loser probe winner false ∷ [];
  last = holding ((key, Int (pos winner)) ∷ []);
}

-- the loser found the key at once, or its factory ran too, before it saw the other value
abbrev pub making_report : ℕ → ℕ → Probe → Report
making_report winner loser probe = record { workers = 2; cells = making_cell winner loser probe ∷ []; locals = [] ∷ [] ∷ [] }

abbrev pub ran_too_lines : List (List ℕ)
ran_too_lines =
    codes "immrun report 1"
    ∷ codes "workers 2"
    ∷ codes "cell C dict ordinal"
    ∷ codes "first 0:"
    ∷ codes "1 1.1 + getoraddf \"k\" const 1 ran 0 -> 1"
    ∷ codes "1 2.1 . getoraddf \"k\" const 2 ran 0 -> 1"
    ∷ codes "final 1: \"k\"=1"
    ∷ codes "worker 1"
    ∷ codes "worker 2"
    ∷ codes "end"
    ∷ []

-- ---- a read that installs nothing, by a worker, as the only line of a list cell

abbrev pub reading : ℕ → ℕ → Line
reading w o = record { position = 0; caller = w; ordinal = o; call = calls.Read; reply = replies.Count 0; installed = false }

abbrev pub nothing_yet : Plain
nothing_yet = record { kind = kinds.List; values = values.List [] }

abbrev pub seen : Line → CellReport
seen l = record { cell = record { name = codes "A"; kind = kinds.List; values = values.List [] }; first = nothing_yet; lines = l ∷ []; last = nothing_yet }

-- the same cell without the line
abbrev pub unseen : CellReport
unseen = record (seen (reading 1 1)) { lines = [] }

-- the deeds of a worker that reads it
abbrev pub reading_deeds : List CellReport → Option (List Deed)
reading_deeds cells = work_from cells 1 1 ((commands.Read (codes "A") (codes "x") ∷ []) ∷ [])

-- an install by the worker 1 at position 1, and a read that stands there before it
abbrev pub adding_one : Line
adding_one = record { position = 1; caller = 1; ordinal = 1; call = calls.Update (ops.Add (Int (pos 5))); reply = replies.Flag true; installed = true }

abbrev pub reading_before : Line
reading_before = record (reading 2 1) { position = 1; reply = replies.Count 1 }

-- a local line
abbrev pub showing : LocalLine
showing = record { ordinal = 1; command = commands.Show (codes "x"); answer = answers.Count 0 }

-- ---- parts of several workers

abbrev pub part_of : ℕ → Part
part_of i = record { commands = commands.Publish (codes "A") (decimal i) ∷ [] }

abbrev pub four_parts : List Part
four_parts = part_of 1 ∷ part_of 2 ∷ part_of 3 ∷ part_of 4 ∷ []

-- ---- publications

abbrev pub is_call : Deed → Bool
is_call (local_line l) = false
is_call (on_cell name call) = true

-- a list of n elements published: whether that is a call on the cell
abbrev pub publishes : ℕ → Option Bool
publishes n = option_map (λ d. is_call d.deed) (deed_of (seen (reading 1 1) ∷ []) 1 1 (commands.Publish (codes "A") (codes "x"))
    (bind (codes "x") (collection (record { kind = kinds.List; values = values.List (elements (values.Seq (pos 0) n)) })) no_locals))

-- ---- collections that are not well formed

abbrev pub two_spellings : Plain
two_spellings = record { kind = kinds.HSet equalities.NoCase; values = values.List (Text (codes "A") ∷ Text (codes "a") ∷ []) }

abbrev pub falling : Plain
falling = record { kind = kinds.SSet orders.Ordinal; values = values.List (Int (pos 2) ∷ Int (pos 1) ∷ []) }

-- ---- a registry: four workers, one after another, count to four at each of forty names

-- "svc" and two digits
abbrev pub service : ℕ → Val
service i = Text (codes "svc" ++ (48 + i / 10) ∷ (48 + i % 10) ∷ [])

abbrev pub registering : List PlainCall
registering = flat_map (λ i. calls.GetOrAdd (service i) (Int (pos 0)) ∷ calls.AddOrUpdate (service i) (Int (pos 1)) (Plus (pos 1)) ∷ []) (numbers_from 1 40)

abbrev pub registrations : List PlainCall
registrations = flat_map (λ worker. registering) (numbers_from 1 4)

-- one install more, where there is one
abbrev pub moved : ℕ → Plain → Option Plain → ℕ × Plain
moved n p (Some q) = (n + 1, q)
moved n p None = (n, p)

-- how many calls installed, and the last value
abbrev pub registry : ℕ × Plain
registry = fold (λ r call. moved r.0 r.1 (cell call r.1).installs) (0, nothing (kinds.Dict equalities.NoCase)) registrations

pub record IsRegistered : Type 0 where
  pub installs : registry.0 ≡ 200
  pub finals : pairs registry.1.values ≡ map (λ i. (service i, Int (pos 4))) (numbers_from 1 40)
  pub frozen : length (frozen_pairs equalities.NoCase (pairs registry.1.values)) ≡ 40

-- ---- all of it

abbrev pub HasLines : Report → List (List ℕ) → Type 0
HasLines r lines = report_text r ≡ flat_map (λ l. l ++ end_line) lines

pub record LawfulExamples : Type 0 where
  pub nothing : Lawful nothing_script 3 nothing_report
  pub nothing_text : HasLines nothing_report nothing_lines
  -- the parts 1 and 3 are those of the first of two workers; a fifth worker has none
  pub parts_of_first : parts_of 1 2 four_parts ≡ (part_of 1).commands ∷ (part_of 3).commands ∷ []
  pub parts_of_second : parts_of 2 2 four_parts ≡ (part_of 2).commands ∷ (part_of 4).commands ∷ []
  pub parts_of_fifth : parts_of 5 5 four_parts ≡ []
  pub first_wins : Lawful wanting_script 2 (wanting_report 1 2)
  pub second_wins : Lawful wanting_script 2 (wanting_report 2 1)
  pub second_text : HasLines (wanting_report 2 1) second_wins_lines
  pub found_at_once : Lawful making_script 2 (making_report 1 2 Idle)
  pub ran_too : Lawful making_script 2 (making_report 1 2 (Ran 0))
  pub second_found_at_once : Lawful making_script 2 (making_report 2 1 Idle)
  pub second_ran_too : Lawful making_script 2 (making_report 2 1 (Ran 0))
  pub ran_too_text : HasLines (making_report 1 2 (Ran 0)) ran_too_lines
  -- a factory ran though the key was present, or before the caller's own line, or after the line; none ran though it was absent
  pub ran_late : MayProbe (holding []) (made_by 1 (Ran 0) 1 true ∷ []) 2 (Some (key, Ran 1)) → ⊥
  pub ran_before_own_line : MayProbe (holding []) (made_by 1 (Ran 0) 1 true ∷ []) 1 (Some (Int (pos 3), Ran 0)) → ⊥
  pub ran_ahead : MayProbe (holding []) [] 1 (Some (key, Ran 1)) → ⊥
  pub idle_without_key : MayProbe (holding []) [] 1 (Some (key, Idle)) → ⊥
  -- lines at one position stand by worker and by ordinal
  pub later_worker_first : InOrder (reading 2 1 ∷ reading 1 1 ∷ []) → ⊥
  pub later_ordinal_first : InOrder (reading 1 2 ∷ reading 1 1 ∷ []) → ⊥
  -- lines of workers that there are not, and a line with another reply
  pub stranger : IsCellRun 2 (seen (reading 3 1)) → ⊥
  pub nobody : IsCellRun 2 (seen (reading 0 1)) → ⊥
  pub another_reply : IsCellRun 1 (seen (record (reading 1 1) { reply = replies.Count 1 })) → ⊥
  -- a line of a read that is left out, a call that stands twice, and calls in another order
  pub read_left_out : HasWorked 1 (reading_deeds (unseen ∷ [])) (unseen ∷ []) (Some []) → ⊥
  pub twice : Whole (numbered (reading 1 1) ∷ []) 1 (reading 1 1 ∷ reading 1 1 ∷ []) → ⊥
  pub turned_round : Whole (numbered (reading 1 1) ∷ numbered (reading 1 2) ∷ []) 1 (reading 1 2 ∷ reading 1 1 ∷ []) → ⊥
  -- a line that did not install, at its position before the install there
  pub before_its_install : FitsFrom nothing_yet 0 (reading_before ∷ adding_one ∷ []) → ⊥
  -- a local line that is left out
  pub local_left_out : IsWorkOf 1 (local_line showing ∷ []) [] [] → ⊥
  -- at most 1,024 elements
  pub most_published : publishes 1024 ≡ Some true
  pub more_published : publishes 1025 ≡ Some false
  pub two_spellings : IsPlain two_spellings → ⊥
  pub falling : IsPlain falling → ⊥
  pub registered : IsRegistered
