-- Worked lines of walks.
use Rattle.std.specs.Prelude.{replicate, ◌++◌, decimal, pos, List, [], ◌∷◌, map, codes, None}
use Rattle.imm_base.specs.declared.val.Val.TheVariants.{Int, Text}
use Rattle.imm_base.specs.declared.comparers.ValOrder.TheVariants as orders
use Rattle.imm_base.specs.declared.comparers.ValEq.TheVariants as equalities
use Rattle.plain_model.specs.declared.plain.Kind.TheVariants as kinds
use Rattle.plain_model.specs.declared.plain.Values.TheVariants as values
use Rattle.plain_model.specs.declared.commands.PlainOp.TheVariants as ops
use Rattle.plain_model.specs.declared.commands.Query.TheVariants as queries
use Rattle.plain_model.specs.declared.commands.Command.TheVariants as commands
use Rattle.plain_model.specs.Frozen.{numbers_from}
use Rattle.worked_examples.specs.Examples.{Example}

-- a walk over a builder that changes
abbrev pub changed_builder : Example
changed_builder = record {
  commands =
      commands.New (codes "x") (kinds.SSet orders.Ordinal) (values.List (map Int (pos 3 ∷ pos 1 ∷ pos 2 ∷ []))) None
      ∷ commands.Builder (codes "b") (codes "x")
      ∷ commands.Walk (codes "w") (codes "b")
      ∷ commands.Next (codes "w")
      ∷ commands.Change (codes "b") (ops.Add (Int (pos 2))) None
      ∷ commands.Next (codes "w")
      ∷ commands.Change (codes "b") (ops.Add (Int (pos 4))) None
      ∷ commands.Next (codes "w")
      ∷ commands.Reset (codes "w")
      ∷ commands.Current (codes "w")
      ∷ commands.Dispose (codes "w")
      ∷ commands.Dispose (codes "w")
      ∷ [];
  lines =
      codes "1.1 new x sset ordinal 3 1 2 -> 3"
      ∷ codes "1.2 builder b x -> 3"
      ∷ codes "1.3 walk w b -> ok"
      ∷ codes "1.4 next w -> true 1"
      ∷ codes "1.5 change b add 2 -> same"
      ∷ codes "1.6 next w -> true 2"
      ∷ codes "1.7 change b add 4 -> new"
      ∷ codes "1.8 next w -> refused changed 0 1"
      ∷ codes "1.9 reset w -> refused changed 0 1"
      ∷ codes "1.10 current w -> 2"
      ∷ codes "1.11 dispose w -> ok"
      ∷ codes "1.12 dispose w -> refused disposed"
      ∷ [];
}

-- copies of a walk share its place; a place that is given back has another owner later
abbrev pub shared_walk : Example
shared_walk = record {
  commands =
      commands.New (codes "x") kinds.List (values.List (map Int (pos 1 ∷ pos 2 ∷ []))) None
      ∷ commands.Walk (codes "w") (codes "x")
      ∷ commands.Copy (codes "v") (codes "w")
      ∷ commands.Next (codes "w")
      ∷ commands.Current (codes "v")
      ∷ commands.Dispose (codes "w")
      ∷ commands.Next (codes "v")
      ∷ commands.Walk (codes "u") (codes "x")
      ∷ commands.Current (codes "u")
      ∷ commands.Next (codes "u")
      ∷ commands.Next (codes "v")
      ∷ commands.Next (codes "u")
      ∷ commands.Next (codes "u")
      ∷ commands.Current (codes "u")
      ∷ commands.Reset (codes "u")
      ∷ commands.Next (codes "u")
      ∷ [];
  lines =
      codes "1.1 new x list 1 2 -> 2"
      ∷ codes "1.2 walk w x -> ok"
      ∷ codes "1.3 copy v w -> ok"
      ∷ codes "1.4 next w -> true 1"
      ∷ codes "1.5 current v -> 1"
      ∷ codes "1.6 dispose w -> ok"
      ∷ codes "1.7 next v -> refused disposed"
      ∷ codes "1.8 walk u x -> ok"
      ∷ codes "1.9 current u -> refused nocurrent"
      ∷ codes "1.10 next u -> true 1"
      ∷ codes "1.11 next v -> refused disposed"
      ∷ codes "1.12 next u -> true 2"
      ∷ codes "1.13 next u -> false"
      ∷ codes "1.14 current u -> refused nocurrent"
      ∷ codes "1.15 reset u -> ok"
      ∷ codes "1.16 next u -> true 1"
      ∷ [];
}

-- walks over a map, and handles that lose their walk
abbrev pub lost_handles : Example
lost_handles = record {
  commands =
      commands.New (codes "x") (kinds.Dict equalities.NoCase) (values.Pairs ((Text (codes "b"), Int (pos 1)) ∷ (Text (codes "a"), Int (pos 2)) ∷ [])) None
      ∷ commands.Builder (codes "b") (codes "x")
      ∷ commands.Walk (codes "w") (codes "b")
      ∷ commands.Walk (codes "w") (codes "x")
      ∷ commands.Dispose (codes "w")
      ∷ commands.Next (codes "w")
      ∷ commands.Current (codes "w")
      ∷ commands.Reset (codes "w")
      ∷ commands.Copy (codes "w") (codes "w")
      ∷ commands.Next (codes "w")
      ∷ commands.Walk (codes "w") (codes "b")
      ∷ commands.Change (codes "b") (ops.RemoveKey (Text (codes "A"))) None
      ∷ commands.Current (codes "w")
      ∷ commands.Next (codes "w")
      ∷ commands.Walk (codes "w") (codes "b")
      ∷ commands.Next (codes "w")
      ∷ commands.Current (codes "w")
      ∷ commands.Next (codes "w")
      ∷ commands.Show (codes "b")
      ∷ commands.Ask (codes "b") queries.Count None
      ∷ commands.Freeze (codes "x") (codes "b")
      ∷ commands.Show (codes "x")
      ∷ [];
  lines =
      codes "1.1 new x dict nocase \"b\"=1 \"a\"=2 -> 2"
      ∷ codes "1.2 builder b x -> 2"
      ∷ codes "1.3 walk w b -> ok"
      ∷ codes "1.4 walk w x -> ok"
      ∷ codes "1.5 dispose w -> ok"
      ∷ codes "1.6 next w -> refused disposed"
      ∷ codes "1.7 current w -> refused disposed"
      ∷ codes "1.8 reset w -> refused disposed"
      ∷ codes "1.9 copy w w -> ok"
      ∷ codes "1.10 next w -> refused disposed"
      ∷ codes "1.11 walk w b -> ok"
      ∷ codes "1.12 change b removekey \"A\" -> new"
      ∷ codes "1.13 current w -> refused nocurrent"
      ∷ codes "1.14 next w -> refused changed 0 1"
      ∷ codes "1.15 walk w b -> ok"
      ∷ codes "1.16 next w -> true \"b\"=1"
      ∷ codes "1.17 current w -> \"b\"=1"
      ∷ codes "1.18 next w -> false"
      ∷ codes "1.19 show b -> 1: \"b\"=1"
      ∷ codes "1.20 ask b count -> 1"
      ∷ codes "1.21 freeze x b -> 1"
      ∷ codes "1.22 show x -> 1: \"b\"=1"
      ∷ [];
}

-- a worker owns at most 35 places
abbrev pub many_walks : Example
many_walks = record {
  commands =
      commands.New (codes "x") kinds.List (values.List (Int (pos 1) ∷ [])) None
      ∷ replicate 36 (commands.Walk (codes "w") (codes "x"));
  lines =
      codes "1.1 new x list 1 -> 1"
      ∷ map (λ k. codes "1." ++ decimal k ++ codes " walk w x -> ok") (numbers_from 2 35)
      ++ codes "1.37 walk w x -> refused poolfull"
      ∷ [];
}

-- a place that is given back is taken again, and a refused handle is nobody's
abbrev pub places_again : Example
places_again = record {
  commands =
      commands.New (codes "x") kinds.List (values.List (Int (pos 1) ∷ [])) None
      ∷ replicate 35 (commands.Walk (codes "v") (codes "x"))
      ++ commands.Walk (codes "u") (codes "x")
      ∷ commands.Next (codes "u")
      ∷ commands.Dispose (codes "u")
      ∷ commands.Dispose (codes "v")
      ∷ commands.Walk (codes "u") (codes "x")
      ∷ commands.Next (codes "u")
      ∷ commands.Walk (codes "u") (codes "x")
      ∷ [];
  lines =
      codes "1.1 new x list 1 -> 1"
      ∷ map (λ k. codes "1." ++ decimal k ++ codes " walk v x -> ok") (numbers_from 2 35)
      ++ codes "1.37 walk u x -> refused poolfull"
      ∷ codes "1.38 next u -> refused disposed"
      ∷ codes "1.39 dispose u -> refused disposed"
      ∷ codes "1.40 dispose v -> ok"
      ∷ codes "1.41 walk u x -> ok"
      ∷ codes "1.42 next u -> true 1"
      ∷ codes "1.43 walk u x -> refused poolfull"
      ∷ [];
}

abbrev pub walk_examples : List Example
walk_examples = places_again ∷ many_walks ∷ changed_builder ∷ shared_walk ∷ lost_handles ∷ []
