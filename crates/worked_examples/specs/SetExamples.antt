-- Worked lines of sets.
use Rattle.std.specs.Prelude.{pos, negsuc, List, [], ◌∷◌, map, codes, None}
use Rattle.imm_base.specs.declared.val.Val.TheVariants.{Int, Text}
use Rattle.imm_base.specs.declared.comparers.ValOrder.TheVariants as orders
use Rattle.imm_base.specs.declared.comparers.ValEq.TheVariants as equalities
use Rattle.plain_model.specs.declared.plain.Kind.TheVariants as kinds
use Rattle.plain_model.specs.declared.plain.Comparer.TheVariants as comparers
use Rattle.plain_model.specs.declared.plain.Values.TheVariants as values
use Rattle.plain_model.specs.declared.commands.PlainOp.TheVariants as ops
use Rattle.plain_model.specs.declared.commands.Query.TheVariants as queries
use Rattle.plain_model.specs.declared.commands.Command.TheVariants as commands
use Rattle.worked_examples.specs.Examples.{Example, texts}

-- a hash set whose elements all have one hash
abbrev pub one_hash : Example
one_hash = record {
  commands =
      commands.New (codes "h") (kinds.HSet equalities.One) (values.Seq (pos 1) 20) None
      ∷ commands.Let (codes "a") (codes "h") (ops.Remove (Int (pos 1))) None
      ∷ commands.Let (codes "b") (codes "a") (ops.Remove (Int (pos 10))) None
      ∷ commands.Let (codes "c") (codes "b") (ops.Remove (Int (pos 10))) None
      ∷ commands.Ask (codes "b") queries.Count None
      ∷ commands.Ask (codes "b") (queries.Contains (Int (pos 10))) None
      ∷ commands.Show (codes "b")
      ∷ commands.Walk (codes "w") (codes "b")
      ∷ commands.Next (codes "w")
      ∷ [];
  lines =
      codes "1.1 new h hset one seq 1 20 -> 20"
      ∷ codes "1.2 let a h remove 1 -> new"
      ∷ codes "1.3 let b a remove 10 -> new"
      ∷ codes "1.4 let c b remove 10 -> same"
      ∷ codes "1.5 ask b count -> 18"
      ∷ codes "1.6 ask b contains 10 -> false"
      ∷ codes "1.7 show b -> 18: 2 3 4 5 6 7 8 9 11 12 13 14 15 16 17 18 .."
      ∷ codes "1.8 walk w b -> ok"
      ∷ codes "1.9 next w -> true 2"
      ∷ [];
}

-- a set in the reverse order, and searches in a list
abbrev pub reverse_set : Example
reverse_set = record {
  commands =
      commands.New (codes "s") (kinds.SSet orders.Reverse) (values.List (map Int (pos 1 ∷ pos 3 ∷ pos 5 ∷ []))) None
      ∷ commands.Show (codes "s")
      ∷ commands.Ask (codes "s") (queries.IndexOf (Int (pos 4))) None
      ∷ commands.Ask (codes "s") queries.Min None
      ∷ commands.Let (codes "t") (codes "s") (ops.SymExcept (values.List (map Int (pos 3 ∷ pos 4 ∷ pos 4 ∷ [])))) None
      ∷ commands.Show (codes "t")
      ∷ commands.Let (codes "u") (codes "s") (ops.Union (values.List (map Int (pos 1 ∷ pos 5 ∷ [])))) None
      ∷ commands.Ask (codes "s") (queries.Subset (values.List (map Int (pos 1 ∷ pos 3 ∷ pos 5 ∷ pos 5 ∷ [])))) None
      ∷ commands.Ask (codes "s") (queries.ProperSubset (values.List (map Int (pos 1 ∷ pos 3 ∷ pos 5 ∷ [])))) None
      ∷ commands.New (codes "x") kinds.List (values.List (map Int (pos 1 ∷ pos 3 ∷ pos 3 ∷ pos 7 ∷ []))) None
      ∷ commands.Ask (codes "x") (queries.Search orders.Ordinal (Int (pos 3))) None
      ∷ commands.Ask (codes "x") (queries.Search orders.Ordinal (Int (pos 4))) None
      ∷ commands.Ask (codes "x") (queries.Search orders.Reverse (Int (pos 3))) None
      ∷ [];
  lines =
      codes "1.1 new s sset reverse 1 3 5 -> 3"
      ∷ codes "1.2 show s -> 3: 5 3 1"
      ∷ codes "1.3 ask s indexof 4 -> -2"
      ∷ codes "1.4 ask s min -> 5"
      ∷ codes "1.5 let t s symexcept 3 4 4 -> new"
      ∷ codes "1.6 show t -> 3: 5 4 1"
      ∷ codes "1.7 let u s union 1 5 -> same"
      ∷ codes "1.8 ask s subset 1 3 5 5 -> true"
      ∷ codes "1.9 ask s propersubset 1 3 5 -> false"
      ∷ codes "1.10 new x list 1 3 3 7 -> 4"
      ∷ codes "1.11 ask x search ordinal 3 -> 1"
      ∷ codes "1.12 ask x search ordinal 4 -> -4"
      ∷ codes "1.13 ask x search reverse 3 -> refused unsorted"
      ∷ [];
}

-- hash collections are printed in the ordinal order and walked by hash
abbrev pub hash_order : Example
hash_order = record {
  commands =
      commands.New (codes "h") (kinds.HSet equalities.Ordinal) (values.List (map Int (pos 1 ∷ negsuc 1 ∷ pos 3 ∷ negsuc 0 ∷ []))) None
      ∷ commands.Show (codes "h")
      ∷ commands.Walk (codes "w") (codes "h")
      ∷ commands.Next (codes "w")
      ∷ commands.Next (codes "w")
      ∷ commands.Next (codes "w")
      ∷ commands.Next (codes "w")
      ∷ commands.Next (codes "w")
      ∷ [];
  lines =
      codes "1.1 new h hset ordinal 1 -2 3 -1 -> 4"
      ∷ codes "1.2 show h -> 4: -2 -1 1 3"
      ∷ codes "1.3 walk w h -> ok"
      ∷ codes "1.4 next w -> true -1"
      ∷ codes "1.5 next w -> true -2"
      ∷ codes "1.6 next w -> true 1"
      ∷ codes "1.7 next w -> true 3"
      ∷ codes "1.8 next w -> false"
      ∷ [];
}

-- sets and maps whose comparer takes no notice of capitals
abbrev pub spellings : Example
spellings = record {
  commands =
      commands.New (codes "s") (kinds.HSet equalities.NoCase) (texts (codes "a" ∷ codes "B" ∷ [])) None
      ∷ commands.Let (codes "t") (codes "s") (ops.Intersect (values.List (Text (codes "b") ∷ []))) None
      ∷ commands.Show (codes "t")
      ∷ commands.Let (codes "u") (codes "s") (ops.Except (values.List (Text (codes "A") ∷ []))) None
      ∷ commands.Show (codes "u")
      ∷ commands.Let (codes "v") (codes "s") (ops.SymExcept (texts (codes "A" ∷ codes "c" ∷ []))) None
      ∷ commands.Show (codes "v")
      ∷ commands.Let (codes "w") (codes "s") (ops.Union (texts (codes "A" ∷ codes "c" ∷ []))) None
      ∷ commands.Show (codes "w")
      ∷ commands.Ask (codes "s") (queries.Actual (Text (codes "A"))) None
      ∷ commands.Ask (codes "s") (queries.ProperSuperset (values.List (Text (codes "b") ∷ []))) None
      ∷ commands.Rekey (codes "y") (codes "s") comparers.Ordinal
      ∷ commands.Show (codes "y")
      ∷ commands.New (codes "d") (kinds.Dict equalities.NoCase) (values.Pairs ((Text (codes "a"), Int (pos 1)) ∷ (Text (codes "b"), Int (pos 2)) ∷ [])) None
      ∷ commands.Let (codes "e") (codes "d") (ops.AddPairs (values.Pairs ((Text (codes "c"), Int (pos 3)) ∷ []))) None
      ∷ commands.Let (codes "f") (codes "d") (ops.SetPairs (values.Pairs ((Text (codes "A"), Int (pos 1)) ∷ (Text (codes "B"), Int (pos 5)) ∷ []))) None
      ∷ commands.Show (codes "f")
      ∷ commands.Let (codes "g") (codes "d") (ops.RemoveKey (Text (codes "B"))) None
      ∷ commands.Show (codes "g")
      ∷ commands.Let (codes "h") (codes "d") (ops.RemoveKeys (texts (codes "A" ∷ codes "B" ∷ []))) None
      ∷ commands.Show (codes "h")
      ∷ commands.Ask (codes "d") queries.Keys None
      ∷ commands.Ask (codes "d") queries.Values None
      ∷ commands.Ask (codes "d") (queries.HasValue (Int (pos 2))) None
      ∷ [];
  lines =
      codes "1.1 new s hset nocase \"a\" \"B\" -> 2"
      ∷ codes "1.2 let t s intersect \"b\" -> new"
      ∷ codes "1.3 show t -> 1: \"B\""
      ∷ codes "1.4 let u s except \"A\" -> new"
      ∷ codes "1.5 show u -> 1: \"B\""
      ∷ codes "1.6 let v s symexcept \"A\" \"c\" -> new"
      ∷ codes "1.7 show v -> 2: \"B\" \"c\""
      ∷ codes "1.8 let w s union \"A\" \"c\" -> new"
      ∷ codes "1.9 show w -> 3: \"B\" \"a\" \"c\""
      ∷ codes "1.10 ask s actual \"A\" -> \"a\""
      ∷ codes "1.11 ask s propersuperset \"b\" -> true"
      ∷ codes "1.12 rekey y s ordinal -> new"
      ∷ codes "1.13 show y -> 2: \"B\" \"a\""
      ∷ codes "1.14 new d dict nocase \"a\"=1 \"b\"=2 -> 2"
      ∷ codes "1.15 let e d addpairs \"c\"=3 -> new"
      ∷ codes "1.16 let f d setpairs \"A\"=1 \"B\"=5 -> new"
      ∷ codes "1.17 show f -> 2: \"B\"=5 \"a\"=1"
      ∷ codes "1.18 let g d removekey \"B\" -> new"
      ∷ codes "1.19 show g -> 1: \"a\"=1"
      ∷ codes "1.20 let h d removekeys \"A\" \"B\" -> new"
      ∷ codes "1.21 show h -> 0:"
      ∷ codes "1.22 ask d keys -> 2: \"a\" \"b\""
      ∷ codes "1.23 ask d values -> 2: 1 2"
      ∷ codes "1.24 ask d hasvalue 2 -> true"
      ∷ [];
}

-- queries of sets; operations that keep the set; the first of same elements under another comparer
abbrev pub set_edges : Example
set_edges = record {
  commands =
      commands.New (codes "s") (kinds.SSet orders.NoCase) (texts (codes "b" ∷ codes "A" ∷ [])) None
      ∷ commands.Show (codes "s")
      ∷ commands.Ask (codes "s") (queries.Get 1) None
      ∷ commands.Ask (codes "s") (queries.Get 2) None
      ∷ commands.Ask (codes "s") (queries.IndexOf (Text (codes "B"))) None
      ∷ commands.Ask (codes "s") queries.Max None
      ∷ commands.New (codes "e") (kinds.SSet orders.Ordinal) (values.List []) None
      ∷ commands.Ask (codes "e") queries.Min None
      ∷ commands.Ask (codes "e") queries.Max None
      ∷ commands.Ask (codes "s") (queries.Superset (values.List (Text (codes "a") ∷ []))) None
      ∷ commands.Ask (codes "s") (queries.Superset (texts (codes "a" ∷ codes "c" ∷ []))) None
      ∷ commands.Ask (codes "s") (queries.Overlaps (texts (codes "c" ∷ codes "B" ∷ []))) None
      ∷ commands.Ask (codes "s") (queries.Overlaps (values.List (Text (codes "c") ∷ []))) None
      ∷ commands.Ask (codes "s") (queries.SetEquals (values.List (Text (codes "a") ∷ []))) None
      ∷ commands.Ask (codes "s") (queries.Subset (values.List (Text (codes "a") ∷ []))) None
      ∷ commands.Ask (codes "s") (queries.ProperSubset (texts (codes "a" ∷ codes "b" ∷ codes "c" ∷ []))) None
      ∷ commands.Let (codes "t") (codes "s") (ops.Intersect (texts (codes "a" ∷ codes "B" ∷ []))) None
      ∷ commands.Let (codes "u") (codes "s") (ops.Except (values.List (Text (codes "c") ∷ []))) None
      ∷ commands.Let (codes "v") (codes "s") (ops.SymExcept (values.List [])) None
      ∷ commands.Let (codes "w") (codes "s") (ops.Add (Text (codes "a"))) None
      ∷ commands.Show (codes "w")
      ∷ commands.Let (codes "x") (codes "s") (ops.Remove (Text (codes "a"))) None
      ∷ commands.Show (codes "x")
      ∷ commands.New (codes "r") (kinds.SSet orders.Reverse) (texts (codes "A" ∷ codes "a" ∷ [])) None
      ∷ commands.Rekey (codes "m") (codes "r") comparers.NoCase
      ∷ commands.Show (codes "m")
      ∷ commands.New (codes "h") (kinds.HSet equalities.NoCase) (texts (codes "B" ∷ codes "a" ∷ [])) None
      ∷ commands.Walk (codes "k") (codes "h")
      ∷ commands.Next (codes "k")
      ∷ commands.Next (codes "k")
      ∷ [];
  lines =
      codes "1.1 new s sset nocase \"b\" \"A\" -> 2"
      ∷ codes "1.2 show s -> 2: \"A\" \"b\""
      ∷ codes "1.3 ask s get 1 -> \"b\""
      ∷ codes "1.4 ask s get 2 -> refused outofrange 2 2"
      ∷ codes "1.5 ask s indexof \"B\" -> 1"
      ∷ codes "1.6 ask s max -> \"b\""
      ∷ codes "1.7 new e sset ordinal -> 0"
      ∷ codes "1.8 ask e min -> none"
      ∷ codes "1.9 ask e max -> none"
      ∷ codes "1.10 ask s superset \"a\" -> true"
      ∷ codes "1.11 ask s superset \"a\" \"c\" -> false"
      ∷ codes "1.12 ask s overlaps \"c\" \"B\" -> true"
      ∷ codes "1.13 ask s overlaps \"c\" -> false"
      ∷ codes "1.14 ask s setequals \"a\" -> false"
      ∷ codes "1.15 ask s subset \"a\" -> false"
      ∷ codes "1.16 ask s propersubset \"a\" \"b\" \"c\" -> true"
      ∷ codes "1.17 let t s intersect \"a\" \"B\" -> same"
      ∷ codes "1.18 let u s except \"c\" -> same"
      ∷ codes "1.19 let v s symexcept -> same"
      ∷ codes "1.20 let w s add \"a\" -> same"
      ∷ codes "1.21 show w -> 2: \"A\" \"b\""
      ∷ codes "1.22 let x s remove \"a\" -> new"
      ∷ codes "1.23 show x -> 1: \"b\""
      ∷ codes "1.24 new r sset reverse \"A\" \"a\" -> 2"
      ∷ codes "1.25 rekey m r nocase -> new"
      ∷ codes "1.26 show m -> 1: \"A\""
      ∷ codes "1.27 new h hset nocase \"B\" \"a\" -> 2"
      ∷ codes "1.28 walk k h -> ok"
      ∷ codes "1.29 next k -> true \"a\""
      ∷ codes "1.30 next k -> true \"B\""
      ∷ [];
}

abbrev pub set_examples : List Example
set_examples = one_hash ∷ reverse_set ∷ hash_order ∷ spellings ∷ set_edges ∷ []
