-- Scripts, and the reports of one worker.
use Rattle.std.specs.Prelude.{◌≡◌, ◌++◌, pos, negsuc, ℕ, List, [], ◌∷◌, map, codes, Some, None}
use Rattle.std.specs.List.{flat_map}
use Rattle.imm_base.specs.declared.val.Val.TheVariants.{Int, Text}
use Rattle.imm_base.specs.declared.comparers.ValEq.TheVariants as equalities
use Rattle.plain_model.specs.declared.plain.Kind.TheVariants as kinds
use Rattle.plain_model.specs.declared.plain.Values.TheVariants as values
use Rattle.plain_model.specs.declared.commands.PlainOp.TheVariants as ops
use Rattle.plain_model.specs.declared.commands.Transform.TheVariants.{Set, Plus, Max}
use Rattle.plain_model.specs.declared.commands.Factory.TheVariants.{Key, Const}
use Rattle.plain_model.specs.declared.commands.Command.TheVariants as commands
use Rattle.plain_model.specs.declared.report.Report.{Report}
use Rattle.plain_model.specs.declared.report.Script.{Script}
use Rattle.plain_model.specs.declared.report.Version.TheVariants as versions
use Rattle.plain_model.specs.Text.{report_text, end_line}
use Rattle.plain_model.specs.Lawful.{Lawful}

pub record ReportExample : Type 0 where
  pub script : Script
  pub lines : List (List ℕ)

-- one worker may come to a report with these lines
pub record IsTold (e : ReportExample) : Type 0 where
  pub report : Report
  pub lawful : Lawful e.script 1 report
  pub text : report_text report ≡ flat_map (λ l. l ++ end_line) e.lines

-- a list that grows, and its value at a read
abbrev pub adding_and_reading : ReportExample
adding_and_reading = record {
  script = record {
    version = versions.One;
    cells = record { name = codes "A"; kind = kinds.List; values = values.List [] } ∷ [];
    parts =
        record {
          commands =
              commands.Update (codes "A") (ops.Add (Int (pos 5)))
              ∷ commands.Update (codes "A") (ops.Add (Int (negsuc 6)))
              ∷ commands.Read (codes "A") (codes "x")
              ∷ commands.Show (codes "x")
              ∷ [];
        }
        ∷ [];
  };
  lines =
      codes "immrun report 1"
      ∷ codes "workers 1"
      ∷ codes "cell A list"
      ∷ codes "first 0:"
      ∷ codes "1 1.1 + update add 5 -> true"
      ∷ codes "2 1.2 + update add -7 -> true"
      ∷ codes "2 1.3 . read -> 2"
      ∷ codes "final 2: 5 -7"
      ∷ codes "worker 1"
      ∷ codes "1.4 show x -> 2: 5 -7"
      ∷ codes "end"
      ∷ [];
}

-- a read binds the value of its own position
abbrev pub read_between : ReportExample
read_between = record {
  script = record {
    version = versions.One;
    cells = record { name = codes "A"; kind = kinds.List; values = values.List [] } ∷ [];
    parts =
        record {
          commands =
              commands.Update (codes "A") (ops.Add (Int (pos 5)))
              ∷ commands.Read (codes "A") (codes "x")
              ∷ commands.Update (codes "A") (ops.Add (Int (negsuc 6)))
              ∷ commands.Show (codes "x")
              ∷ [];
        }
        ∷ [];
  };
  lines =
      codes "immrun report 1"
      ∷ codes "workers 1"
      ∷ codes "cell A list"
      ∷ codes "first 0:"
      ∷ codes "1 1.1 + update add 5 -> true"
      ∷ codes "1 1.2 . read -> 1"
      ∷ codes "2 1.3 + update add -7 -> true"
      ∷ codes "final 2: 5 -7"
      ∷ codes "worker 1"
      ∷ codes "1.4 show x -> 1: 5"
      ∷ codes "end"
      ∷ [];
}

-- an update to an equal value installs; one of a key that is absent does not
abbrev pub equal_value_installs : ReportExample
equal_value_installs = record {
  script = record {
    version = versions.One;
    cells = record { name = codes "C"; kind = kinds.Dict equalities.Ordinal; values = values.Pairs ((Text (codes "a"), Int (pos 1)) ∷ []) } ∷ [];
    parts =
        record {
          commands =
              commands.TryUpdate (codes "C") (Text (codes "a")) (Int (pos 1)) (Int (pos 1))
              ∷ commands.TryUpdate (codes "C") (Text (codes "b")) (Int (pos 1)) (Int (pos 1))
              ∷ [];
        }
        ∷ [];
  };
  lines =
      codes "immrun report 1"
      ∷ codes "workers 1"
      ∷ codes "cell C dict ordinal"
      ∷ codes "first 1: \"a\"=1"
      ∷ codes "1 1.1 + tryupdate \"a\" 1 1 -> true"
      ∷ codes "1 1.2 . tryupdate \"b\" 1 1 -> false"
      ∷ codes "final 1: \"a\"=1"
      ∷ codes "worker 1"
      ∷ codes "end"
      ∷ [];
}

-- a queue that is filled and emptied
abbrev pub queue_emptied : ReportExample
queue_emptied = record {
  script = record {
    version = versions.One;
    cells = record { name = codes "Q"; kind = kinds.Queue; values = values.List [] } ∷ [];
    parts =
        record {
          commands =
              commands.Enqueue (codes "Q") (Int (pos 1))
              ∷ commands.Enqueue (codes "Q") (Int (pos 2))
              ∷ commands.Enqueue (codes "Q") (Int (pos 3))
              ∷ commands.TryDequeue (codes "Q")
              ∷ commands.TryDequeue (codes "Q")
              ∷ commands.TryDequeue (codes "Q")
              ∷ commands.TryDequeue (codes "Q")
              ∷ [];
        }
        ∷ [];
  };
  lines =
      codes "immrun report 1"
      ∷ codes "workers 1"
      ∷ codes "cell Q queue"
      ∷ codes "first 0:"
      ∷ codes "1 1.1 + enqueue 1 -> true"
      ∷ codes "2 1.2 + enqueue 2 -> true"
      ∷ codes "3 1.3 + enqueue 3 -> true"
      ∷ codes "4 1.4 + trydequeue -> true 1"
      ∷ codes "5 1.5 + trydequeue -> true 2"
      ∷ codes "6 1.6 + trydequeue -> true 3"
      ∷ codes "6 1.7 . trydequeue -> false"
      ∷ codes "final 0:"
      ∷ codes "worker 1"
      ∷ codes "end"
      ∷ [];
}

-- a sum stays at the greatest number, and then nothing is installed
abbrev pub greatest_sum : ReportExample
greatest_sum = record {
  script = record {
    version = versions.One;
    cells = record { name = codes "D"; kind = kinds.Dict equalities.Ordinal; values = values.Pairs ((Text (codes "a"), Int (pos 9223372036854775807)) ∷ []) } ∷ [];
    parts =
        record {
          commands =
              commands.AddOrUpdate (codes "D") (Text (codes "a")) (Int (pos 1)) (Plus (pos 1))
              ∷ [];
        }
        ∷ [];
  };
  lines =
      codes "immrun report 1"
      ∷ codes "workers 1"
      ∷ codes "cell D dict ordinal"
      ∷ codes "first 1: \"a\"=9223372036854775807"
      ∷ codes "0 1.1 . addorupdate \"a\" 1 plus 1 -> 9223372036854775807"
      ∷ codes "final 1: \"a\"=9223372036854775807"
      ∷ codes "worker 1"
      ∷ codes "end"
      ∷ [];
}

-- a publication of too many elements is a line of the worker
abbrev pub publications : ReportExample
publications = record {
  script = record {
    version = versions.One;
    cells = record { name = codes "A"; kind = kinds.List; values = values.List [] } ∷ [];
    parts =
        record {
          commands =
              commands.New (codes "x") kinds.List (values.List (map Int (pos 1 ∷ pos 2 ∷ []))) None
              ∷ commands.Publish (codes "A") (codes "x")
              ∷ commands.New (codes "y") kinds.List (values.Seq (pos 0) 1025) None
              ∷ commands.Publish (codes "A") (codes "y")
              ∷ [];
        }
        ∷ [];
  };
  lines =
      codes "immrun report 1"
      ∷ codes "workers 1"
      ∷ codes "cell A list"
      ∷ codes "first 0:"
      ∷ codes "1 1.2 + publish 2: 1 2 -> true"
      ∷ codes "final 2: 1 2"
      ∷ codes "worker 1"
      ∷ codes "1.1 new x list 1 2 -> 2"
      ∷ codes "1.3 new y list seq 0 1025 -> 1025"
      ∷ codes "1.4 publish A y -> refused publish 1025"
      ∷ codes "end"
      ∷ [];
}

-- two parts done by one worker
abbrev pub two_parts : ReportExample
two_parts = record {
  script = record {
    version = versions.One;
    cells = record { name = codes "A"; kind = kinds.List; values = values.List [] } ∷ [];
    parts =
        record {
          commands =
              commands.Update (codes "A") ops.Clear
              ∷ [];
        }
        ∷ record {
          commands =
              commands.Update (codes "A") (ops.Add (Int (pos 1)))
              ∷ [];
        }
        ∷ [];
  };
  lines =
      codes "immrun report 1"
      ∷ codes "workers 1"
      ∷ codes "cell A list"
      ∷ codes "first 0:"
      ∷ codes "0 1.1 . update clear -> false"
      ∷ codes "1 1.2 + update add 1 -> true"
      ∷ codes "final 1: 1"
      ∷ codes "worker 1"
      ∷ codes "end"
      ∷ [];
}

-- a key that is added and updated, in any capitals
abbrev pub added_and_updated : ReportExample
added_and_updated = record {
  script = record {
    version = versions.One;
    cells = record { name = codes "R"; kind = kinds.Dict equalities.NoCase; values = values.Pairs [] } ∷ [];
    parts =
        record {
          commands =
              commands.GetOrAdd (codes "R") (Text (codes "svc01")) (Int (pos 0))
              ∷ commands.AddOrUpdate (codes "R") (Text (codes "svc01")) (Int (pos 1)) (Plus (pos 1))
              ∷ commands.GetOrAdd (codes "R") (Text (codes "SVC01")) (Int (pos 0))
              ∷ commands.AddOrUpdate (codes "R") (Text (codes "SVC01")) (Int (pos 1)) (Max (Int (pos 7)))
              ∷ [];
        }
        ∷ [];
  };
  lines =
      codes "immrun report 1"
      ∷ codes "workers 1"
      ∷ codes "cell R dict nocase"
      ∷ codes "first 0:"
      ∷ codes "1 1.1 + getoradd \"svc01\" 0 -> 0"
      ∷ codes "2 1.2 + addorupdate \"svc01\" 1 plus 1 -> 1"
      ∷ codes "2 1.3 . getoradd \"SVC01\" 0 -> 1"
      ∷ codes "3 1.4 + addorupdate \"SVC01\" 1 max 7 -> 7"
      ∷ codes "final 1: \"SVC01\"=7"
      ∷ codes "worker 1"
      ∷ codes "end"
      ∷ [];
}

-- a key that is present, removed and absent
abbrev pub removed : ReportExample
removed = record {
  script = record {
    version = versions.One;
    cells = record { name = codes "R"; kind = kinds.Dict equalities.NoCase; values = values.Pairs ((Text (codes "a"), Int (pos 7)) ∷ []) } ∷ [];
    parts =
        record {
          commands =
              commands.TryAdd (codes "R") (Text (codes "A")) (Int (pos 1))
              ∷ commands.TryRemove (codes "R") (Text (codes "A"))
              ∷ commands.TryRemove (codes "R") (Text (codes "A"))
              ∷ [];
        }
        ∷ [];
  };
  lines =
      codes "immrun report 1"
      ∷ codes "workers 1"
      ∷ codes "cell R dict nocase"
      ∷ codes "first 1: \"a\"=7"
      ∷ codes "0 1.1 . tryadd \"A\" 1 -> false"
      ∷ codes "1 1.2 + tryremove \"A\" -> true 7"
      ∷ codes "1 1.3 . tryremove \"A\" -> false"
      ∷ codes "final 0:"
      ∷ codes "worker 1"
      ∷ codes "end"
      ∷ [];
}

-- what becomes of a text
abbrev pub transformed_texts : ReportExample
transformed_texts = record {
  script = record {
    version = versions.One;
    cells = record { name = codes "R"; kind = kinds.Dict equalities.Ordinal; values = values.Pairs [] } ∷ [];
    parts =
        record {
          commands =
              commands.AddOrUpdate (codes "R") (Text (codes "b")) (Int (pos 1)) (Set (Int (pos 2)))
              ∷ commands.AddOrUpdate (codes "R") (Text (codes "b")) (Int (pos 1)) (Set (Text (codes "c")))
              ∷ commands.AddOrUpdate (codes "R") (Text (codes "b")) (Int (pos 1)) (Plus (pos 5))
              ∷ [];
        }
        ∷ [];
  };
  lines =
      codes "immrun report 1"
      ∷ codes "workers 1"
      ∷ codes "cell R dict ordinal"
      ∷ codes "first 0:"
      ∷ codes "1 1.1 + addorupdate \"b\" 1 set 2 -> 1"
      ∷ codes "2 1.2 + addorupdate \"b\" 1 set \"c\" -> \"c\""
      ∷ codes "2 1.3 . addorupdate \"b\" 1 plus 5 -> \"c\""
      ∷ codes "final 1: \"b\"=\"c\""
      ∷ codes "worker 1"
      ∷ codes "end"
      ∷ [];
}

-- the calls of a stack
abbrev pub stack_calls : ReportExample
stack_calls = record {
  script = record {
    version = versions.One;
    cells = record { name = codes "S"; kind = kinds.Stack; values = values.List (map Int (pos 1 ∷ pos 2 ∷ [])) } ∷ [];
    parts =
        record {
          commands =
              commands.Push (codes "S") (Int (pos 3))
              ∷ commands.TryPop (codes "S")
              ∷ commands.TryPop (codes "S")
              ∷ commands.Update (codes "S") ops.Pop
              ∷ commands.TryPop (codes "S")
              ∷ [];
        }
        ∷ [];
  };
  lines =
      codes "immrun report 1"
      ∷ codes "workers 1"
      ∷ codes "cell S stack"
      ∷ codes "first 2: 2 1"
      ∷ codes "1 1.1 + push 3 -> true"
      ∷ codes "2 1.2 + trypop -> true 3"
      ∷ codes "3 1.3 + trypop -> true 2"
      ∷ codes "4 1.4 + update pop -> true"
      ∷ codes "4 1.5 . trypop -> false"
      ∷ codes "final 0:"
      ∷ codes "worker 1"
      ∷ codes "end"
      ∷ [];
}

-- a cell of arrays, which is unset at first
abbrev pub arrays_exchanged : ReportExample
arrays_exchanged = record {
  script = record {
    version = versions.Two;
    cells = record { name = codes "A"; kind = kinds.Array; values = values.Unset } ∷ [];
    parts =
        record {
          commands =
              commands.New (codes "x") kinds.Array (values.List (Int (pos 1) ∷ Int (pos 2) ∷ [])) None
              ∷ commands.Initialize (codes "A") (codes "x")
              ∷ commands.Initialize (codes "A") (codes "x")
              ∷ commands.New (codes "y") kinds.Array (values.List (Int (pos 3) ∷ [])) None
              ∷ commands.Exchange (codes "A") (codes "y")
              ∷ commands.CompareExchange (codes "A") (codes "x") (Some (codes "y"))
              ∷ commands.CompareExchange (codes "A") (codes "y") None
              ∷ commands.Read (codes "A") (codes "z")
              ∷ [];
        }
        ∷ [];
  };
  lines =
      codes "immrun report 1"
      ∷ codes "workers 1"
      ∷ codes "cell A array"
      ∷ codes "first default"
      ∷ codes "1 1.2 + initialize 2: 1 2 -> true"
      ∷ codes "1 1.3 . initialize 2: 1 2 -> false"
      ∷ codes "2 1.5 + exchange 1: 3 -> 2: 1 2"
      ∷ codes "3 1.6 + compareexchange 2: 1 2 if 1: 3 -> 1: 3"
      ∷ codes "3 1.7 . compareexchange 1: 3 if default -> 2: 1 2"
      ∷ codes "3 1.8 . read -> 2"
      ∷ codes "final 2: 1 2"
      ∷ codes "worker 1"
      ∷ codes "1.1 new x array 1 2 -> 2"
      ∷ codes "1.4 new y array 3 -> 1"
      ∷ codes "end"
      ∷ [];
}

-- an unset array has no operations, and is read as an empty one
abbrev pub unset_array_kept : ReportExample
unset_array_kept = record {
  script = record {
    version = versions.Two;
    cells = record { name = codes "A"; kind = kinds.Array; values = values.Unset } ∷ [];
    parts =
        record {
          commands =
              commands.Update (codes "A") (ops.Add (Int (pos 1)))
              ∷ commands.Read (codes "A") (codes "x")
              ∷ commands.Show (codes "x")
              ∷ [];
        }
        ∷ [];
  };
  lines =
      codes "immrun report 1"
      ∷ codes "workers 1"
      ∷ codes "cell A array"
      ∷ codes "first default"
      ∷ codes "0 1.1 . update add 1 -> refused default"
      ∷ codes "0 1.2 . read -> default"
      ∷ codes "final default"
      ∷ codes "worker 1"
      ∷ codes "1.3 show x -> 0:"
      ∷ codes "end"
      ∷ [];
}

-- a factory runs where the key is absent
abbrev pub factories_run : ReportExample
factories_run = record {
  script = record {
    version = versions.Two;
    cells = record { name = codes "D"; kind = kinds.Dict equalities.Ordinal; values = values.Pairs ((Text (codes "a"), Int (pos 1)) ∷ []) } ∷ [];
    parts =
        record {
          commands =
              commands.GetOrAddMade (codes "D") (Text (codes "a")) Key
              ∷ commands.GetOrAddMade (codes "D") (Text (codes "b")) Key
              ∷ commands.GetOrAddMade (codes "D") (Text (codes "b")) (Const (Int (pos 7)))
              ∷ commands.AddOrUpdateMade (codes "D") (Text (codes "c")) (Const (Int (pos 5))) (Plus (pos 1))
              ∷ commands.AddOrUpdateMade (codes "D") (Text (codes "c")) (Const (Int (pos 5))) (Plus (pos 1))
              ∷ [];
        }
        ∷ [];
  };
  lines =
      codes "immrun report 1"
      ∷ codes "workers 1"
      ∷ codes "cell D dict ordinal"
      ∷ codes "first 1: \"a\"=1"
      ∷ codes "0 1.1 . getoraddf \"a\" key idle -> 1"
      ∷ codes "1 1.2 + getoraddf \"b\" key ran 0 -> \"b\""
      ∷ codes "1 1.3 . getoraddf \"b\" const 7 idle -> \"b\""
      ∷ codes "2 1.4 + addorupdatef \"c\" const 5 plus 1 -> 5"
      ∷ codes "3 1.5 + addorupdatef \"c\" const 5 plus 1 -> 6"
      ∷ codes "final 3: \"a\"=1 \"b\"=\"b\" \"c\"=6"
      ∷ codes "worker 1"
      ∷ codes "end"
      ∷ [];
}

abbrev pub report_examples : List ReportExample
report_examples =
    adding_and_reading
    ∷ read_between
    ∷ equal_value_installs
    ∷ queue_emptied
    ∷ greatest_sum
    ∷ publications
    ∷ two_parts
    ∷ added_and_updated
    ∷ removed
    ∷ transformed_texts
    ∷ stack_calls
    ∷ arrays_exchanged
    ∷ unset_array_kept
    ∷ factories_run
    ∷ []
