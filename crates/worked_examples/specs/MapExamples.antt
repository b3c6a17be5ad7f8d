-- Worked lines of maps.
use Rattle.std.specs.Prelude.{pos, List, [], ◌∷◌, codes, None}
use Rattle.imm_base.specs.declared.val.Val.TheVariants.{Int, Text}
use Rattle.imm_base.specs.declared.comparers.ValOrder.TheVariants as orders
use Rattle.imm_base.specs.declared.comparers.ValEq.TheVariants as equalities
use Rattle.plain_model.specs.declared.plain.Kind.TheVariants as kinds
use Rattle.plain_model.specs.declared.plain.Comparer.TheVariants as comparers
use Rattle.plain_model.specs.declared.plain.Values.TheVariants as values
use Rattle.plain_model.specs.declared.commands.PlainOp.TheVariants as ops
use Rattle.plain_model.specs.declared.commands.Query.TheVariants as queries
use Rattle.plain_model.specs.declared.commands.Command.TheVariants as commands
use Rattle.worked_examples.specs.Examples.{Example}

-- adding and setting a pair whose key is present
abbrev pub pairs_present : Example
pairs_present = record {
  commands =
      commands.New (codes "d") (kinds.Dict equalities.Ordinal) (values.Pairs ((Text (codes "a"), Int (pos 1)) ∷ [])) None
      ∷ commands.Let (codes "e") (codes "d") (ops.AddPair (Text (codes "a")) (Int (pos 1))) None
      ∷ commands.Let (codes "f") (codes "d") (ops.AddPair (Text (codes "a")) (Int (pos 2))) None
      ∷ commands.Let (codes "g") (codes "d") (ops.SetPair (Text (codes "a")) (Int (pos 2))) None
      ∷ commands.Show (codes "g")
      ∷ commands.Show (codes "d")
      ∷ [];
  lines =
      codes "1.1 new d dict ordinal \"a\"=1 -> 1"
      ∷ codes "1.2 let e d addpair \"a\" 1 -> same"
      ∷ codes "1.3 let f d addpair \"a\" 2 -> refused keyexists 1"
      ∷ codes "1.4 let g d setpair \"a\" 2 -> new"
      ∷ codes "1.5 show g -> 1: \"a\"=2"
      ∷ codes "1.6 show d -> 1: \"a\"=1"
      ∷ [];
}

-- a set that changes the value takes the new spelling
abbrev pub new_spelling : Example
new_spelling = record {
  commands =
      commands.New (codes "d") (kinds.Dict equalities.NoCase) (values.Pairs ((Text (codes "Key"), Int (pos 1)) ∷ [])) None
      ∷ commands.Let (codes "e") (codes "d") (ops.SetPair (Text (codes "KEY")) (Int (pos 2))) None
      ∷ commands.Show (codes "e")
      ∷ commands.Let (codes "f") (codes "e") (ops.SetPair (Text (codes "key")) (Int (pos 2))) None
      ∷ commands.Show (codes "f")
      ∷ commands.Ask (codes "f") (queries.Lookup (Text (codes "kEY"))) None
      ∷ [];
  lines =
      codes "1.1 new d dict nocase \"Key\"=1 -> 1"
      ∷ codes "1.2 let e d setpair \"KEY\" 2 -> new"
      ∷ codes "1.3 show e -> 1: \"KEY\"=2"
      ∷ codes "1.4 let f e setpair \"key\" 2 -> same"
      ∷ codes "1.5 show f -> 1: \"KEY\"=2"
      ∷ codes "1.6 ask f lookup \"kEY\" -> 2"
      ∷ [];
}

-- a map in the reverse order
abbrev pub reverse_map : Example
reverse_map = record {
  commands =
      commands.New (codes "m") (kinds.SMap orders.Reverse) (values.Pairs ((Int (pos 1), Int (pos 10)) ∷ (Int (pos 2), Int (pos 20)) ∷ [])) None
      ∷ commands.Show (codes "m")
      ∷ commands.Let (codes "n") (codes "m") (ops.AddPair (Int (pos 1)) (Int (pos 11))) None
      ∷ commands.Let (codes "o") (codes "m") (ops.AddPairs (values.Pairs ((Int (pos 3), Int (pos 30)) ∷ (Int (pos 3), Int (pos 31)) ∷ []))) None
      ∷ commands.Ask (codes "m") queries.Keys None
      ∷ commands.Ask (codes "m") queries.Values None
      ∷ commands.Ask (codes "m") (queries.HasValue (Int (pos 20))) None
      ∷ commands.Rekey (codes "p") (codes "m") comparers.Ordinal
      ∷ commands.Show (codes "p")
      ∷ [];
  lines =
      codes "1.1 new m smap reverse 1=10 2=20 -> 2"
      ∷ codes "1.2 show m -> 2: 2=20 1=10"
      ∷ codes "1.3 let n m addpair 1 11 -> refused keyexists 10"
      ∷ codes "1.4 let o m addpairs 3=30 3=31 -> refused keyexists 30"
      ∷ codes "1.5 ask m keys -> 2: 2 1"
      ∷ codes "1.6 ask m values -> 2: 20 10"
      ∷ codes "1.7 ask m hasvalue 20 -> true"
      ∷ codes "1.8 rekey p m ordinal -> new"
      ∷ codes "1.9 show p -> 2: 1=10 2=20"
      ∷ [];
}

-- pairs added and set in order, and maps under another comparer
abbrev pub pairs_in_order : Example
pairs_in_order = record {
  commands =
      commands.New (codes "d") (kinds.Dict equalities.Ordinal) (values.Pairs ((Text (codes "a"), Int (pos 1)) ∷ [])) None
      ∷ commands.Let (codes "e") (codes "d") (ops.SetPairs (values.Pairs ((Text (codes "a"), Int (pos 2)) ∷ (Text (codes "a"), Int (pos 1)) ∷ []))) None
      ∷ commands.Show (codes "e")
      ∷ commands.Let (codes "f") (codes "d") (ops.AddPairs (values.Pairs ((Text (codes "a"), Int (pos 1)) ∷ (Text (codes "b"), Int (pos 2)) ∷ (Text (codes "b"), Int (pos 2)) ∷ []))) None
      ∷ commands.Show (codes "f")
      ∷ commands.Let (codes "g") (codes "d") (ops.AddPairs (values.Pairs ((Text (codes "b"), Int (pos 2)) ∷ (Text (codes "a"), Int (pos 3)) ∷ (Text (codes "b"), Int (pos 4)) ∷ []))) None
      ∷ commands.Let (codes "h") (codes "d") (ops.AddPairs (values.Pairs ((Text (codes "b"), Int (pos 2)) ∷ (Text (codes "b"), Int (pos 4)) ∷ []))) None
      ∷ commands.Let (codes "i") (codes "d") (ops.AddPairs (values.Pairs ((Text (codes "a"), Int (pos 1)) ∷ []))) None
      ∷ commands.Let (codes "j") (codes "d") (ops.RemoveKey (Text (codes "z"))) None
      ∷ commands.Ask (codes "d") (queries.KeyOf (Text (codes "a"))) None
      ∷ commands.Ask (codes "d") (queries.Lookup (Text (codes "z"))) None
      ∷ commands.New (codes "m") (kinds.SMap orders.Reverse) (values.Pairs ((Int (pos 1), Int (pos 1)) ∷ (Int (pos 3), Int (pos 3)) ∷ (Int (pos 2), Int (pos 2)) ∷ [])) None
      ∷ commands.Show (codes "m")
      ∷ commands.Ask (codes "m") queries.Keys None
      ∷ commands.Rekey (codes "n") (codes "m") comparers.Ordinal
      ∷ commands.Show (codes "n")
      ∷ commands.Rekey (codes "o") (codes "n") comparers.Ordinal
      ∷ commands.Show (codes "o")
      ∷ commands.New (codes "p") (kinds.Dict equalities.Ordinal) (values.Pairs ((Text (codes "a"), Int (pos 1)) ∷ (Text (codes "A"), Int (pos 1)) ∷ [])) None
      ∷ commands.Rekey (codes "q") (codes "p") comparers.NoCase
      ∷ commands.Show (codes "q")
      ∷ commands.FrozenMap (codes "z") equalities.NoCase (values.Pairs ((Text (codes "a"), Int (pos 1)) ∷ (Text (codes "A"), Int (pos 1)) ∷ [])) None
      ∷ commands.Show (codes "z")
      ∷ commands.Ask (codes "z") (queries.Lookup (Text (codes "a"))) None
      ∷ commands.Ask (codes "z") queries.Strategy None
      ∷ [];
  lines =
      codes "1.1 new d dict ordinal \"a\"=1 -> 1"
      ∷ codes "1.2 let e d setpairs \"a\"=2 \"a\"=1 -> new"
      ∷ codes "1.3 show e -> 1: \"a\"=1"
      ∷ codes "1.4 let f d addpairs \"a\"=1 \"b\"=2 \"b\"=2 -> new"
      ∷ codes "1.5 show f -> 2: \"a\"=1 \"b\"=2"
      ∷ codes "1.6 let g d addpairs \"b\"=2 \"a\"=3 \"b\"=4 -> refused keyexists 1"
      ∷ codes "1.7 let h d addpairs \"b\"=2 \"b\"=4 -> refused keyexists 2"
      ∷ codes "1.8 let i d addpairs \"a\"=1 -> same"
      ∷ codes "1.9 let j d removekey \"z\" -> same"
      ∷ codes "1.10 ask d keyof \"a\" -> \"a\""
      ∷ codes "1.11 ask d lookup \"z\" -> none"
      ∷ codes "1.12 new m smap reverse 1=1 3=3 2=2 -> 3"
      ∷ codes "1.13 show m -> 3: 3=3 2=2 1=1"
      ∷ codes "1.14 ask m keys -> 3: 3 2 1"
      ∷ codes "1.15 rekey n m ordinal -> new"
      ∷ codes "1.16 show n -> 3: 1=1 2=2 3=3"
      ∷ codes "1.17 rekey o n ordinal -> same"
      ∷ codes "1.18 show o -> 3: 1=1 2=2 3=3"
      ∷ codes "1.19 new p dict ordinal \"a\"=1 \"A\"=1 -> 2"
      ∷ codes "1.20 rekey q p nocase -> new"
      ∷ codes "1.21 show q -> 1: \"A\"=1"
      ∷ codes "1.22 frozenmap z nocase \"a\"=1 \"A\"=1 -> 1"
      ∷ codes "1.23 show z -> 1: \"A\"=1"
      ∷ codes "1.24 ask z lookup \"a\" -> 1"
      ∷ codes "1.25 ask z strategy -> linear"
      ∷ [];
}

-- which spelling of a key stays
abbrev pub kept_spelling : Example
kept_spelling = record {
  commands =
      commands.New (codes "d") (kinds.Dict equalities.NoCase) (values.Pairs ((Text (codes "a"), Int (pos 1)) ∷ [])) None
      ∷ commands.Let (codes "e") (codes "d") (ops.AddPair (Text (codes "B")) (Int (pos 2))) None
      ∷ commands.Show (codes "e")
      ∷ commands.Let (codes "f") (codes "d") (ops.AddPair (Text (codes "A")) (Int (pos 1))) None
      ∷ commands.Show (codes "f")
      ∷ commands.Let (codes "g") (codes "d") (ops.AddPairs (values.Pairs ((Text (codes "A"), Int (pos 1)) ∷ (Text (codes "c"), Int (pos 3)) ∷ []))) None
      ∷ commands.Show (codes "g")
      ∷ commands.Let (codes "h") (codes "d") (ops.RemoveKeys (values.List (Text (codes "z") ∷ []))) None
      ∷ commands.Ask (codes "d") (queries.KeyOf (Text (codes "A"))) None
      ∷ commands.Ask (codes "d") (queries.HasValue (Int (pos 2))) None
      ∷ commands.Let (codes "i") (codes "d") (ops.SetPairs (values.Pairs ((Text (codes "A"), Int (pos 1)) ∷ (Text (codes "b"), Int (pos 2)) ∷ []))) None
      ∷ commands.Show (codes "i")
      ∷ commands.New (codes "m") (kinds.SMap orders.NoCase) (values.Pairs ((Text (codes "b"), Int (pos 1)) ∷ (Text (codes "A"), Int (pos 2)) ∷ [])) None
      ∷ commands.Let (codes "n") (codes "m") (ops.SetPair (Text (codes "B")) (Int (pos 3))) None
      ∷ commands.Show (codes "n")
      ∷ commands.Let (codes "o") (codes "m") (ops.AddPair (Text (codes "B")) (Int (pos 3))) None
      ∷ commands.Show (codes "o")
      ∷ commands.Walk (codes "w") (codes "m")
      ∷ commands.Next (codes "w")
      ∷ [];
  lines =
      codes "1.1 new d dict nocase \"a\"=1 -> 1"
      ∷ codes "1.2 let e d addpair \"B\" 2 -> new"
      ∷ codes "1.3 show e -> 2: \"B\"=2 \"a\"=1"
      ∷ codes "1.4 let f d addpair \"A\" 1 -> same"
      ∷ codes "1.5 show f -> 1: \"a\"=1"
      ∷ codes "1.6 let g d addpairs \"A\"=1 \"c\"=3 -> new"
      ∷ codes "1.7 show g -> 2: \"a\"=1 \"c\"=3"
      ∷ codes "1.8 let h d removekeys \"z\" -> same"
      ∷ codes "1.9 ask d keyof \"A\" -> \"a\""
      ∷ codes "1.10 ask d hasvalue 2 -> false"
      ∷ codes "1.11 let i d setpairs \"A\"=1 \"b\"=2 -> new"
      ∷ codes "1.12 show i -> 2: \"a\"=1 \"b\"=2"
      ∷ codes "1.13 new m smap nocase \"b\"=1 \"A\"=2 -> 2"
      ∷ codes "1.14 let n m setpair \"B\" 3 -> new"
      ∷ codes "1.15 show n -> 2: \"A\"=2 \"B\"=3"
      ∷ codes "1.16 let o m addpair \"B\" 3 -> refused keyexists 1"
      ∷ codes "1.17 show o -> 2: \"A\"=2 \"b\"=1"
      ∷ codes "1.18 walk w m -> ok"
      ∷ codes "1.19 next w -> true \"A\"=2"
      ∷ [];
}

abbrev pub map_examples : List Example
map_examples = pairs_present ∷ new_spelling ∷ reverse_map ∷ pairs_in_order ∷ kept_spelling ∷ []
