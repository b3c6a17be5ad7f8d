-- Worked lines of builders and arrays.
use Rattle.std.specs.Prelude.{pos, List, [], ◌∷◌, map, codes, None}
use Rattle.imm_base.specs.declared.val.Val.TheVariants.{Int}
use Rattle.plain_model.specs.declared.plain.Kind.TheVariants as kinds
use Rattle.plain_model.specs.declared.plain.Values.TheVariants as values
use Rattle.plain_model.specs.declared.commands.PlainOp.TheVariants as ops
use Rattle.plain_model.specs.declared.commands.Command.TheVariants as commands
use Rattle.worked_examples.specs.Examples.{Example}

-- moving and draining an array builder
abbrev pub capacities : Example
capacities = record {
  commands =
      commands.New (codes "a") kinds.Array (values.List (map Int (pos 1 ∷ pos 2 ∷ []))) None
      ∷ commands.Builder (codes "b") (codes "a")
      ∷ commands.Capacity (codes "b") 3
      ∷ commands.Move (codes "m") (codes "b")
      ∷ commands.Capacity (codes "b") 1
      ∷ commands.Capacity (codes "b") 2
      ∷ commands.Move (codes "m") (codes "b")
      ∷ commands.Show (codes "m")
      ∷ commands.Drain (codes "n") (codes "b")
      ∷ commands.Change (codes "b") (ops.Add (Int (pos 9))) None
      ∷ commands.Move (codes "m") (codes "b")
      ∷ commands.Show (codes "b")
      ∷ [];
  lines =
      codes "1.1 new a array 1 2 -> 2"
      ∷ codes "1.2 builder b a -> 2"
      ∷ codes "1.3 capacity b 3 -> ok"
      ∷ codes "1.4 move m b -> refused notfull 2 3"
      ∷ codes "1.5 capacity b 1 -> refused capacity 2 1"
      ∷ codes "1.6 capacity b 2 -> ok"
      ∷ codes "1.7 move m b -> 2"
      ∷ codes "1.8 show m -> 2: 1 2"
      ∷ codes "1.9 drain n b -> 0"
      ∷ codes "1.10 change b add 9 -> new"
      ∷ codes "1.11 move m b -> 1"
      ∷ codes "1.12 show b -> 0:"
      ∷ [];
}

-- what is frozen stays, whatever the builder does later
abbrev pub list_builder : Example
list_builder = record {
  commands =
      commands.New (codes "x") kinds.List (values.List (map Int (pos 1 ∷ pos 2 ∷ []))) None
      ∷ commands.Builder (codes "b") (codes "x")
      ∷ commands.Change (codes "b") (ops.Add (Int (pos 3))) None
      ∷ commands.Freeze (codes "y") (codes "b")
      ∷ commands.Change (codes "b") (ops.SetItem 0 (Int (pos 9))) None
      ∷ commands.Change (codes "b") (ops.RemoveAt 1) None
      ∷ commands.Freeze (codes "z") (codes "b")
      ∷ commands.Show (codes "y")
      ∷ commands.Show (codes "z")
      ∷ commands.Version (codes "b")
      ∷ [];
  lines =
      codes "1.1 new x list 1 2 -> 2"
      ∷ codes "1.2 builder b x -> 2"
      ∷ codes "1.3 change b add 3 -> new"
      ∷ codes "1.4 freeze y b -> 3"
      ∷ codes "1.5 change b setitem 0 9 -> new"
      ∷ codes "1.6 change b removeat 1 -> new"
      ∷ codes "1.7 freeze z b -> 2"
      ∷ codes "1.8 show y -> 3: 1 2 3"
      ∷ codes "1.9 show z -> 2: 9 3"
      ∷ codes "1.10 version b -> 3"
      ∷ [];
}

-- each operation of arrays and their builders; queues
abbrev pub array_words : Example
array_words = record {
  commands =
      commands.New (codes "a") kinds.Array (values.List (map Int (pos 1 ∷ pos 2 ∷ pos 2 ∷ []))) None
      ∷ commands.Let (codes "c") (codes "a") (ops.Insert 1 (Int (pos 9))) None
      ∷ commands.Show (codes "c")
      ∷ commands.Let (codes "d") (codes "a") (ops.Remove (Int (pos 2))) None
      ∷ commands.Show (codes "d")
      ∷ commands.Let (codes "e") (codes "a") (ops.Replace (Int (pos 1)) (Int (pos 5))) None
      ∷ commands.Let (codes "f") (codes "a") (ops.SetItem 0 (Int (pos 7))) None
      ∷ commands.Let (codes "g") (codes "a") (ops.AddRange (values.List (map Int (pos 4 ∷ pos 5 ∷ [])))) None
      ∷ commands.Show (codes "g")
      ∷ commands.Let (codes "h") (codes "a") (ops.RemoveAt 3) None
      ∷ commands.Builder (codes "b") (codes "a")
      ∷ commands.Change (codes "b") (ops.Insert 3 (Int (pos 6))) None
      ∷ commands.Change (codes "b") (ops.RemoveAt 0) None
      ∷ commands.Change (codes "b") (ops.AddRange (values.List (map Int (pos 8 ∷ pos 9 ∷ [])))) None
      ∷ commands.Drain (codes "n") (codes "b")
      ∷ commands.Show (codes "n")
      ∷ commands.New (codes "q") kinds.Queue (values.List (map Int (pos 1 ∷ pos 2 ∷ []))) None
      ∷ commands.Let (codes "r") (codes "q") ops.Dequeue None
      ∷ commands.Let (codes "s") (codes "r") (ops.Enqueue (Int (pos 3))) None
      ∷ commands.Show (codes "s")
      ∷ [];
  lines =
      codes "1.1 new a array 1 2 2 -> 3"
      ∷ codes "1.2 let c a insert 1 9 -> new"
      ∷ codes "1.3 show c -> 4: 1 9 2 2"
      ∷ codes "1.4 let d a remove 2 -> new"
      ∷ codes "1.5 show d -> 2: 1 2"
      ∷ codes "1.6 let e a replace 1 5 -> new"
      ∷ codes "1.7 let f a setitem 0 7 -> new"
      ∷ codes "1.8 let g a addrange 4 5 -> new"
      ∷ codes "1.9 show g -> 5: 1 2 2 4 5"
      ∷ codes "1.10 let h a removeat 3 -> refused outofrange 3 3"
      ∷ codes "1.11 builder b a -> 3"
      ∷ codes "1.12 change b insert 3 6 -> new"
      ∷ codes "1.13 change b removeat 0 -> new"
      ∷ codes "1.14 change b addrange 8 9 -> new"
      ∷ codes "1.15 drain n b -> 5"
      ∷ codes "1.16 show n -> 5: 2 2 6 8 9"
      ∷ codes "1.17 new q queue 1 2 -> 2"
      ∷ codes "1.18 let r q dequeue -> new"
      ∷ codes "1.19 let s r enqueue 3 -> new"
      ∷ codes "1.20 show s -> 2: 2 3"
      ∷ [];
}

-- a capacity that is too small becomes at least twice as large
abbrev pub growth : Example
growth = record {
  commands =
      commands.New (codes "a") kinds.Array (values.List (map Int (pos 1 ∷ pos 2 ∷ []))) None
      ∷ commands.Builder (codes "b") (codes "a")
      ∷ commands.Change (codes "b") (ops.Add (Int (pos 3))) None
      ∷ commands.Move (codes "m") (codes "b")
      ∷ commands.Show (codes "m")
      ∷ commands.Change (codes "b") ops.Clear None
      ∷ commands.Capacity (codes "b") 0
      ∷ commands.Move (codes "m") (codes "b")
      ∷ commands.Capacity (codes "b") 65537
      ∷ commands.Change (codes "b") (ops.AddRange (values.List (map Int (pos 1 ∷ pos 2 ∷ pos 3 ∷ pos 4 ∷ pos 5 ∷ [])))) None
      ∷ commands.Move (codes "m") (codes "b")
      ∷ commands.Show (codes "m")
      ∷ [];
  lines =
      codes "1.1 new a array 1 2 -> 2"
      ∷ codes "1.2 builder b a -> 2"
      ∷ codes "1.3 change b add 3 -> new"
      ∷ codes "1.4 move m b -> refused notfull 3 4"
      ∷ codes "1.5 show m -> 0:"
      ∷ codes "1.6 change b clear -> new"
      ∷ codes "1.7 capacity b 0 -> ok"
      ∷ codes "1.8 move m b -> 0"
      ∷ codes "1.9 capacity b 65537 -> refused toolarge 0"
      ∷ codes "1.10 change b addrange 1 2 3 4 5 -> new"
      ∷ codes "1.11 move m b -> 5"
      ∷ codes "1.12 show m -> 5: 1 2 3 4 5"
      ∷ [];
}

abbrev pub builder_examples : List Example
builder_examples = capacities ∷ list_builder ∷ array_words ∷ growth ∷ []
