-- Worked lines of lists, stacks and queues.
use Rattle.std.specs.Prelude.{pos, negsuc, List, [], ◌∷◌, map, codes, Some, None}
use Rattle.imm_base.specs.declared.val.Val.TheVariants.{Int, Text}
use Rattle.imm_base.specs.declared.comparers.ValOrder.TheVariants as orders
use Rattle.imm_base.specs.declared.comparers.ValEq.TheVariants as equalities
use Rattle.imm_base.specs.declared.comparers.ValTest.TheVariants.{Is, Below, Above}
use Rattle.plain_model.specs.declared.plain.Kind.TheVariants as kinds
use Rattle.plain_model.specs.declared.plain.Comparer.TheVariants as comparers
use Rattle.plain_model.specs.declared.plain.Values.TheVariants as values
use Rattle.plain_model.specs.declared.commands.PlainOp.TheVariants as ops
use Rattle.plain_model.specs.declared.commands.Query.TheVariants as queries
use Rattle.plain_model.specs.declared.commands.Command.TheVariants as commands
use Rattle.worked_examples.specs.Examples.{Example, texts}

-- an index may be the count only where something is put
abbrev pub places_within : Example
places_within = record {
  commands =
      commands.New (codes "x") kinds.List (values.List (map Int (pos 10 ∷ pos 20 ∷ []))) None
      ∷ commands.Let (codes "y") (codes "x") (ops.Insert 2 (Int (pos 30))) None
      ∷ commands.Let (codes "z") (codes "x") (ops.Insert 3 (Int (pos 30))) None
      ∷ commands.New (codes "e") kinds.List (values.List []) None
      ∷ commands.Let (codes "f") (codes "e") (ops.RemoveAt 0) None
      ∷ commands.Show (codes "y")
      ∷ [];
  lines =
      codes "1.1 new x list 10 20 -> 2"
      ∷ codes "1.2 let y x insert 2 30 -> new"
      ∷ codes "1.3 let z x insert 3 30 -> refused outofrange 3 2"
      ∷ codes "1.4 new e list -> 0"
      ∷ codes "1.5 let f e removeat 0 -> refused outofrange 0 0"
      ∷ codes "1.6 show y -> 3: 10 20 30"
      ∷ [];
}

-- the longest text and the least number
abbrev pub extremes : Example
extremes = record {
  commands =
      commands.New (codes "x") kinds.List (values.List (Text (codes "abcdefghijklmnopqrstuvwx") ∷ Int (negsuc 9223372036854775807) ∷ [])) None
      ∷ [];
  lines =
      codes "1.1 new x list \"abcdefghijklmnopqrstuvwx\" -9223372036854775808 -> 2"
      ∷ [];
}

-- a list with as many elements as it may have
abbrev pub full_list : Example
full_list = record {
  commands =
      commands.New (codes "x") kinds.List (values.Seq (pos 0) 65536) None
      ∷ commands.Let (codes "y") (codes "x") (ops.Add (Int (pos 1))) None
      ∷ [];
  lines =
      codes "1.1 new x list seq 0 65536 -> 65536"
      ∷ codes "1.2 let y x add 1 -> refused toolarge 65536"
      ∷ [];
}

-- a long list
abbrev pub long_list : Example
long_list = record {
  commands =
      commands.New (codes "x") kinds.List (values.Seq (pos 0) 16384) None
      ∷ commands.Let (codes "y") (codes "x") (ops.Add (Int (pos 1))) None
      ∷ commands.Let (codes "z") (codes "x") (ops.RemoveAt 16383) None
      ∷ commands.Let (codes "u") (codes "z") (ops.Add (Int (pos 1))) None
      ∷ commands.Ask (codes "u") (queries.Get 16383) None
      ∷ [];
  lines =
      codes "1.1 new x list seq 0 16384 -> 16384"
      ∷ codes "1.2 let y x add 1 -> new"
      ∷ codes "1.3 let z x removeat 16383 -> new"
      ∷ codes "1.4 let u z add 1 -> new"
      ∷ codes "1.5 ask u get 16383 -> 1"
      ∷ [];
}

-- each operation of lists, and its refusals
abbrev pub list_words : Example
list_words = record {
  commands =
      commands.New (codes "x") kinds.List (values.List (map Int (pos 5 ∷ pos 3 ∷ pos 9 ∷ pos 3 ∷ []))) None
      ∷ commands.Let (codes "a") (codes "x") (ops.InsertRange 1 (values.List (map Int (pos 7 ∷ pos 8 ∷ [])))) None
      ∷ commands.Show (codes "a")
      ∷ commands.Let (codes "b") (codes "a") (ops.RemoveRange 4 2) None
      ∷ commands.Show (codes "b")
      ∷ commands.Let (codes "c") (codes "a") (ops.GetRange 1 2) None
      ∷ commands.Show (codes "c")
      ∷ commands.Let (codes "d") (codes "x") ops.Reverse None
      ∷ commands.Show (codes "d")
      ∷ commands.Let (codes "e") (codes "x") (ops.Sort orders.Ordinal) None
      ∷ commands.Show (codes "e")
      ∷ commands.Let (codes "f") (codes "x") (ops.RemoveAll (Above (Int (pos 4)))) None
      ∷ commands.Show (codes "f")
      ∷ commands.Let (codes "g") (codes "x") (ops.Replace (Int (pos 9)) (Int (pos 1))) None
      ∷ commands.Show (codes "g")
      ∷ commands.Let (codes "h") (codes "x") (ops.Replace (Int (pos 4)) (Int (pos 1))) None
      ∷ commands.Let (codes "i") (codes "x") (ops.Remove (Int (pos 3))) None
      ∷ commands.Show (codes "i")
      ∷ commands.Let (codes "j") (codes "x") (ops.AddRange (values.List (map Int (pos 1 ∷ pos 2 ∷ [])))) None
      ∷ commands.Let (codes "k") (codes "j") (ops.SetItem 5 (Int (pos 0))) None
      ∷ commands.Show (codes "k")
      ∷ commands.Let (codes "l") (codes "x") (ops.GetRange 0 4) None
      ∷ commands.Let (codes "m") (codes "x") ops.Clear None
      ∷ commands.Ask (codes "x") (queries.LastIndexOf (Int (pos 3))) None
      ∷ [];
  lines =
      codes "1.1 new x list 5 3 9 3 -> 4"
      ∷ codes "1.2 let a x insertrange 1 7 8 -> new"
      ∷ codes "1.3 show a -> 6: 5 7 8 3 9 3"
      ∷ codes "1.4 let b a removerange 4 2 -> new"
      ∷ codes "1.5 show b -> 4: 5 7 8 3"
      ∷ codes "1.6 let c a getrange 1 2 -> new"
      ∷ codes "1.7 show c -> 2: 7 8"
      ∷ codes "1.8 let d x reverse -> new"
      ∷ codes "1.9 show d -> 4: 3 9 3 5"
      ∷ codes "1.10 let e x sort ordinal -> new"
      ∷ codes "1.11 show e -> 4: 3 3 5 9"
      ∷ codes "1.12 let f x removeall above 4 -> new"
      ∷ codes "1.13 show f -> 2: 3 3"
      ∷ codes "1.14 let g x replace 9 1 -> new"
      ∷ codes "1.15 show g -> 4: 5 3 1 3"
      ∷ codes "1.16 let h x replace 4 1 -> refused notfound"
      ∷ codes "1.17 let i x remove 3 -> new"
      ∷ codes "1.18 show i -> 3: 5 9 3"
      ∷ codes "1.19 let j x addrange 1 2 -> new"
      ∷ codes "1.20 let k j setitem 5 0 -> new"
      ∷ codes "1.21 show k -> 6: 5 3 9 3 1 0"
      ∷ codes "1.22 let l x getrange 0 4 -> same"
      ∷ codes "1.23 let m x clear -> new"
      ∷ codes "1.24 ask x lastindexof 3 -> 3"
      ∷ [];
}

-- tests, stable sorts, empty ranges
abbrev pub tests_and_sorts : Example
tests_and_sorts = record {
  commands =
      commands.New (codes "x") kinds.List (values.List (Int (pos 3) ∷ Text (codes "b") ∷ Int (pos 1) ∷ Text (codes "a") ∷ Int (pos 2) ∷ [])) None
      ∷ commands.Let (codes "y") (codes "x") (ops.Sort orders.Reverse) None
      ∷ commands.Show (codes "y")
      ∷ commands.Let (codes "z") (codes "x") (ops.Sort orders.Ordinal) None
      ∷ commands.Show (codes "z")
      ∷ commands.Ask (codes "z") (queries.Search orders.Ordinal (Text (codes "aa"))) None
      ∷ commands.Ask (codes "z") (queries.Search orders.Ordinal (Text (codes "a"))) None
      ∷ commands.Ask (codes "z") (queries.Get 5) None
      ∷ commands.Ask (codes "z") (queries.IndexOf (Int (pos 9))) None
      ∷ commands.Ask (codes "x") (queries.Contains (Text (codes "b"))) None
      ∷ commands.Let (codes "a") (codes "x") (ops.RemoveRange 4 2) None
      ∷ commands.Let (codes "b") (codes "x") (ops.RemoveRange 5 0) None
      ∷ commands.Let (codes "c") (codes "x") (ops.InsertRange 6 (values.List [])) None
      ∷ commands.Let (codes "c") (codes "x") (ops.InsertRange 5 (values.List [])) None
      ∷ commands.Let (codes "d") (codes "x") (ops.RemoveAll (Is (Int (pos 1)))) None
      ∷ commands.Show (codes "d")
      ∷ commands.Let (codes "e") (codes "d") (ops.RemoveAll (Below (Text (codes "a")))) None
      ∷ commands.Show (codes "e")
      ∷ commands.Let (codes "f") (codes "e") (ops.RemoveAll (Above (Int (pos 9)))) None
      ∷ commands.Show (codes "f")
      ∷ commands.Let (codes "g") (codes "f") (ops.RemoveAll (Above (Int (pos 9)))) None
      ∷ commands.Let (codes "h") (codes "x") (ops.Sort orders.NoCase) None
      ∷ commands.New (codes "n") kinds.List (texts (codes "b" ∷ codes "A" ∷ codes "a" ∷ codes "B" ∷ [])) None
      ∷ commands.Let (codes "n") (codes "n") (ops.Sort orders.NoCase) None
      ∷ commands.Show (codes "n")
      ∷ commands.New (codes "q") kinds.Queue (values.List (map Int (pos 1 ∷ pos 2 ∷ pos 3 ∷ []))) None
      ∷ commands.Ask (codes "q") queries.Peek None
      ∷ commands.New (codes "k") kinds.Stack (values.List []) None
      ∷ commands.Ask (codes "k") queries.Peek None
      ∷ commands.Let (codes "k") (codes "k") ops.Pop None
      ∷ commands.Let (codes "k") (codes "k") (ops.Push (Int (pos 1))) None
      ∷ [];
  lines =
      codes "1.1 new x list 3 \"b\" 1 \"a\" 2 -> 5"
      ∷ codes "1.2 let y x sort reverse -> new"
      ∷ codes "1.3 show y -> 5: \"b\" \"a\" 3 2 1"
      ∷ codes "1.4 let z x sort ordinal -> new"
      ∷ codes "1.5 show z -> 5: 1 2 3 \"a\" \"b\""
      ∷ codes "1.6 ask z search ordinal \"aa\" -> -5"
      ∷ codes "1.7 ask z search ordinal \"a\" -> 3"
      ∷ codes "1.8 ask z get 5 -> refused outofrange 5 5"
      ∷ codes "1.9 ask z indexof 9 -> -1"
      ∷ codes "1.10 ask x contains \"b\" -> true"
      ∷ codes "1.11 let a x removerange 4 2 -> refused outofrange 4 5"
      ∷ codes "1.12 let b x removerange 5 0 -> same"
      ∷ codes "1.13 let c x insertrange 6 -> refused outofrange 6 5"
      ∷ codes "1.14 let c x insertrange 5 -> same"
      ∷ codes "1.15 let d x removeall is 1 -> new"
      ∷ codes "1.16 show d -> 4: 3 \"b\" \"a\" 2"
      ∷ codes "1.17 let e d removeall below \"a\" -> new"
      ∷ codes "1.18 show e -> 2: \"b\" \"a\""
      ∷ codes "1.19 let f e removeall above 9 -> new"
      ∷ codes "1.20 show f -> 0:"
      ∷ codes "1.21 let g f removeall above 9 -> same"
      ∷ codes "1.22 let h x sort nocase -> new"
      ∷ codes "1.23 new n list \"b\" \"A\" \"a\" \"B\" -> 4"
      ∷ codes "1.24 let n n sort nocase -> new"
      ∷ codes "1.25 show n -> 4: \"A\" \"a\" \"b\" \"B\""
      ∷ codes "1.26 new q queue 1 2 3 -> 3"
      ∷ codes "1.27 ask q peek -> 1"
      ∷ codes "1.28 new k stack -> 0"
      ∷ codes "1.29 ask k peek -> refused empty"
      ∷ codes "1.30 let k k pop -> refused empty"
      ∷ codes "1.31 let k k push 1 -> new"
      ∷ [];
}

-- what is the same list at the edges, and what a name has after a refusal
abbrev pub list_edges : Example
list_edges = record {
  commands =
      commands.New (codes "x") kinds.List (values.List (map Int (pos 5 ∷ pos 3 ∷ pos 9 ∷ pos 3 ∷ []))) None
      ∷ commands.Let (codes "a") (codes "x") (ops.AddRange (values.List [])) None
      ∷ commands.Let (codes "b") (codes "x") (ops.Remove (Int (pos 7))) None
      ∷ commands.Let (codes "c") (codes "x") (ops.Replace (Int (pos 3)) (Int (pos 4))) None
      ∷ commands.Show (codes "c")
      ∷ commands.Let (codes "d") (codes "x") (ops.SetItem 4 (Int (pos 0))) None
      ∷ commands.Show (codes "d")
      ∷ commands.Let (codes "e") (codes "x") (ops.SetItem 0 (Int (pos 5))) None
      ∷ commands.Let (codes "f") (codes "x") (ops.GetRange 2 3) None
      ∷ commands.Let (codes "g") (codes "x") (ops.GetRange 4 0) None
      ∷ commands.Let (codes "r") (codes "x") (ops.GetRange 0 3) None
      ∷ commands.Show (codes "g")
      ∷ commands.Let (codes "h") (codes "x") (ops.Sort orders.Ordinal) None
      ∷ commands.Let (codes "i") (codes "h") (ops.Sort orders.Ordinal) None
      ∷ commands.New (codes "o") kinds.List (values.List (map Int (pos 1 ∷ []))) None
      ∷ commands.Let (codes "p") (codes "o") ops.Reverse None
      ∷ commands.Let (codes "q") (codes "o") (ops.Sort orders.Ordinal) None
      ∷ commands.Ask (codes "x") (queries.IndexOf (Int (pos 3))) None
      ∷ commands.Ask (codes "x") (queries.LastIndexOf (Int (pos 7))) None
      ∷ commands.Ask (codes "x") (queries.Contains (Int (pos 7))) None
      ∷ commands.New (codes "y") kinds.List (values.Seq (pos 0) 65537) None
      ∷ commands.Show (codes "y")
      ∷ [];
  lines =
      codes "1.1 new x list 5 3 9 3 -> 4"
      ∷ codes "1.2 let a x addrange -> same"
      ∷ codes "1.3 let b x remove 7 -> same"
      ∷ codes "1.4 let c x replace 3 4 -> new"
      ∷ codes "1.5 show c -> 4: 5 4 9 3"
      ∷ codes "1.6 let d x setitem 4 0 -> refused outofrange 4 4"
      ∷ codes "1.7 show d -> 4: 5 3 9 3"
      ∷ codes "1.8 let e x setitem 0 5 -> new"
      ∷ codes "1.9 let f x getrange 2 3 -> refused outofrange 2 4"
      ∷ codes "1.10 let g x getrange 4 0 -> new"
      ∷ codes "1.11 let r x getrange 0 3 -> new"
      ∷ codes "1.12 show g -> 0:"
      ∷ codes "1.13 let h x sort ordinal -> new"
      ∷ codes "1.14 let i h sort ordinal -> new"
      ∷ codes "1.15 new o list 1 -> 1"
      ∷ codes "1.16 let p o reverse -> same"
      ∷ codes "1.17 let q o sort ordinal -> same"
      ∷ codes "1.18 ask x indexof 3 -> 1"
      ∷ codes "1.19 ask x lastindexof 7 -> -1"
      ∷ codes "1.20 ask x contains 7 -> false"
      ∷ codes "1.21 new y list seq 0 65537 -> refused toolarge 0"
      ∷ codes "1.22 show y -> 0:"
      ∷ [];
}

-- stacks and queues; a key that is there twice under another comparer
abbrev pub stacks_and_queues : Example
stacks_and_queues = record {
  commands =
      commands.New (codes "k") kinds.Stack (values.List (map Int (pos 1 ∷ pos 2 ∷ pos 3 ∷ []))) None
      ∷ commands.Show (codes "k")
      ∷ commands.Ask (codes "k") queries.Peek None
      ∷ commands.Let (codes "m") (codes "k") ops.Pop None
      ∷ commands.Ask (codes "m") queries.Peek None
      ∷ commands.New (codes "q") kinds.Queue (values.List []) None
      ∷ commands.Let (codes "r") (codes "q") ops.Dequeue None
      ∷ commands.New (codes "d") (kinds.Dict equalities.Ordinal) (values.Pairs ((Text (codes "a"), Int (pos 1)) ∷ (Text (codes "A"), Int (pos 2)) ∷ [])) None
      ∷ commands.Rekey (codes "e") (codes "d") comparers.NoCase
      ∷ commands.Show (codes "e")
      ∷ [];
  lines =
      codes "1.1 new k stack 1 2 3 -> 3"
      ∷ codes "1.2 show k -> 3: 3 2 1"
      ∷ codes "1.3 ask k peek -> 3"
      ∷ codes "1.4 let m k pop -> new"
      ∷ codes "1.5 ask m peek -> 2"
      ∷ codes "1.6 new q queue -> 0"
      ∷ codes "1.7 let r q dequeue -> refused empty"
      ∷ codes "1.8 new d dict ordinal \"a\"=1 \"A\"=2 -> 2"
      ∷ codes "1.9 rekey e d nocase -> refused keyexists 2"
      ∷ codes "1.10 show e -> 0:"
      ∷ [];
}

-- arguments that are the elements of another name
abbrev pub from_names : Example
from_names = record {
  commands =
      commands.New (codes "x") kinds.List (values.List (map Int (pos 3 ∷ pos 1 ∷ pos 2 ∷ []))) None
      ∷ commands.New (codes "s") (kinds.SSet orders.Reverse) (values.List []) (Some (codes "x"))
      ∷ commands.Show (codes "s")
      ∷ commands.Let (codes "y") (codes "x") (ops.AddRange (values.List [])) (Some (codes "s"))
      ∷ commands.Show (codes "y")
      ∷ commands.Ask (codes "s") (queries.SetEquals (values.List [])) (Some (codes "y"))
      ∷ commands.New (codes "k") kinds.Stack (values.List []) (Some (codes "x"))
      ∷ commands.Show (codes "k")
      ∷ commands.New (codes "m") (kinds.SMap orders.NoCase) (values.Seq (pos 1) 3) None
      ∷ commands.New (codes "d") (kinds.Dict equalities.One) (values.Pairs []) (Some (codes "m"))
      ∷ commands.Let (codes "e") (codes "d") (ops.RemoveKeys (values.List [])) (Some (codes "x"))
      ∷ commands.Show (codes "e")
      ∷ commands.Builder (codes "b") (codes "d")
      ∷ commands.Change (codes "b") (ops.SetPairs (values.Pairs [])) (Some (codes "m"))
      ∷ commands.Change (codes "b") ops.Clear None
      ∷ commands.Version (codes "b")
      ∷ commands.Let (codes "n") (codes "d") (ops.SetPairs (values.Pairs [])) (Some (codes "m"))
      ∷ commands.Let (codes "q") (codes "d") (ops.SetPair (Int (pos 9)) (Int (negsuc 4))) None
      ∷ commands.Ask (codes "q") queries.Values None
      ∷ [];
  lines =
      codes "1.1 new x list 3 1 2 -> 3"
      ∷ codes "1.2 new s sset reverse from x -> 3"
      ∷ codes "1.3 show s -> 3: 3 2 1"
      ∷ codes "1.4 let y x addrange from s -> new"
      ∷ codes "1.5 show y -> 6: 3 1 2 3 2 1"
      ∷ codes "1.6 ask s setequals from y -> true"
      ∷ codes "1.7 new k stack from x -> 3"
      ∷ codes "1.8 show k -> 3: 2 1 3"
      ∷ codes "1.9 new m smap nocase seq 1 3 -> 3"
      ∷ codes "1.10 new d dict one from m -> 3"
      ∷ codes "1.11 let e d removekeys from x -> new"
      ∷ codes "1.12 show e -> 0:"
      ∷ codes "1.13 builder b d -> 3"
      ∷ codes "1.14 change b setpairs from m -> same"
      ∷ codes "1.15 change b clear -> new"
      ∷ codes "1.16 version b -> 1"
      ∷ codes "1.17 let n d setpairs from m -> same"
      ∷ codes "1.18 let q d setpair 9 -5 -> new"
      ∷ codes "1.19 ask q values -> 4: 1 2 3 -5"
      ∷ [];
}

abbrev pub list_examples : List Example
list_examples = places_within ∷ extremes ∷ full_list ∷ long_list ∷ list_words ∷ tests_and_sorts ∷ list_edges ∷ stacks_and_queues ∷ from_names ∷ []
