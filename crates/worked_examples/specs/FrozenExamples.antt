-- Worked lines of frozen collections.
use Rattle.std.specs.Prelude.{pos, List, [], ◌∷◌, map, codes, None}
use Rattle.imm_base.specs.declared.val.Val.TheVariants.{Int, Text}
use Rattle.imm_base.specs.declared.comparers.ValEq.TheVariants as equalities
use Rattle.plain_model.specs.declared.plain.Values.TheVariants as values
use Rattle.plain_model.specs.declared.commands.Query.TheVariants as queries
use Rattle.plain_model.specs.declared.commands.Command.TheVariants as commands
use Rattle.worked_examples.specs.Examples.{Example, texts}

-- the latter of pairs, the first of elements, and three strategies
abbrev pub frozen : Example
frozen = record {
  commands =
      commands.FrozenMap (codes "f") equalities.Ordinal (values.Pairs ((Text (codes "a"), Int (pos 1)) ∷ (Text (codes "a"), Int (pos 2)) ∷ (Text (codes "a"), Int (pos 3)) ∷ [])) None
      ∷ commands.Ask (codes "f") (queries.Lookup (Text (codes "a"))) None
      ∷ commands.Ask (codes "f") queries.Keys None
      ∷ commands.Ask (codes "f") queries.Values None
      ∷ commands.Ask (codes "f") queries.Strategy None
      ∷ commands.FrozenSet (codes "g") equalities.Ordinal (texts (codes "ax1" ∷ codes "ax2" ∷ codes "ax3" ∷ codes "ax4" ∷ codes "ax5" ∷ [])) None
      ∷ commands.Ask (codes "g") queries.Strategy None
      ∷ commands.Ask (codes "g") (queries.Contains (Text (codes "ax3"))) None
      ∷ commands.Ask (codes "g") (queries.Contains (Text (codes "bx3"))) None
      ∷ commands.FrozenSet (codes "h") equalities.Ordinal (texts (codes "a" ∷ codes "bb" ∷ codes "ccc" ∷ codes "dddd" ∷ codes "eeeee" ∷ [])) None
      ∷ commands.Ask (codes "h") queries.Strategy None
      ∷ commands.FrozenSet (codes "k") equalities.NoCase (texts (codes "A" ∷ codes "a" ∷ codes "b" ∷ [])) None
      ∷ commands.Show (codes "k")
      ∷ [];
  lines =
      codes "1.1 frozenmap f ordinal \"a\"=1 \"a\"=2 \"a\"=3 -> 1"
      ∷ codes "1.2 ask f lookup \"a\" -> 3"
      ∷ codes "1.3 ask f keys -> 1: \"a\""
      ∷ codes "1.4 ask f values -> 1: 3"
      ∷ codes "1.5 ask f strategy -> linear"
      ∷ codes "1.6 frozenset g ordinal \"ax1\" \"ax2\" \"ax3\" \"ax4\" \"ax5\" -> 5"
      ∷ codes "1.7 ask g strategy -> slice 2 1"
      ∷ codes "1.8 ask g contains \"ax3\" -> true"
      ∷ codes "1.9 ask g contains \"bx3\" -> false"
      ∷ codes "1.10 frozenset h ordinal \"a\" \"bb\" \"ccc\" \"dddd\" \"eeeee\" -> 5"
      ∷ codes "1.11 ask h strategy -> length"
      ∷ codes "1.12 frozenset k nocase \"A\" \"a\" \"b\" -> 2"
      ∷ codes "1.13 show k -> 2: \"A\" \"b\""
      ∷ [];
}

-- how a strategy is chosen
abbrev pub strategies : Example
strategies = record {
  commands =
      commands.FrozenSet (codes "f") equalities.Ordinal (texts (codes "abc1" ∷ codes "abd2" ∷ codes "abe3" ∷ codes "abf14" ∷ codes "abg2" ∷ [])) None
      ∷ commands.Ask (codes "f") queries.Strategy None
      ∷ commands.FrozenSet (codes "g") equalities.Ordinal (texts (codes "aab" ∷ codes "aba" ∷ codes "baa" ∷ codes "bbb" ∷ codes "abb" ∷ [])) None
      ∷ commands.Ask (codes "g") queries.Strategy None
      ∷ commands.FrozenSet (codes "h") equalities.Ordinal (texts (codes "" ∷ codes "a" ∷ codes "aa" ∷ codes "aab" ∷ codes "b" ∷ [])) None
      ∷ commands.Ask (codes "h") queries.Strategy None
      ∷ commands.FrozenSet (codes "i") equalities.NoCase (texts (codes "" ∷ codes "a" ∷ codes "aa" ∷ codes "aaa" ∷ codes "aaaa" ∷ [])) None
      ∷ commands.Ask (codes "i") queries.Strategy None
      ∷ commands.FrozenSet (codes "j") equalities.Ordinal (values.List (map Int (pos 1 ∷ pos 2 ∷ pos 3 ∷ pos 4 ∷ pos 5 ∷ []))) None
      ∷ commands.Ask (codes "j") queries.Strategy None
      ∷ commands.Ask (codes "j") (queries.Actual (Int (pos 3))) None
      ∷ commands.Ask (codes "j") (queries.Actual (Int (pos 6))) None
      ∷ commands.Ask (codes "j") queries.Count None
      ∷ commands.Ask (codes "j") (queries.Contains (Int (pos 4))) None
      ∷ [];
  lines =
      codes "1.1 frozenset f ordinal \"abc1\" \"abd2\" \"abe3\" \"abf14\" \"abg2\" -> 5"
      ∷ codes "1.2 ask f strategy -> slice 2 1"
      ∷ codes "1.3 frozenset g ordinal \"aab\" \"aba\" \"baa\" \"bbb\" \"abb\" -> 5"
      ∷ codes "1.4 ask g strategy -> slice 0 3"
      ∷ codes "1.5 frozenset h ordinal \"\" \"a\" \"aa\" \"aab\" \"b\" -> 5"
      ∷ codes "1.6 ask h strategy -> hash"
      ∷ codes "1.7 frozenset i nocase \"\" \"a\" \"aa\" \"aaa\" \"aaaa\" -> 5"
      ∷ codes "1.8 ask i strategy -> hash"
      ∷ codes "1.9 frozenset j ordinal 1 2 3 4 5 -> 5"
      ∷ codes "1.10 ask j strategy -> hash"
      ∷ codes "1.11 ask j actual 3 -> 3"
      ∷ codes "1.12 ask j actual 6 -> none"
      ∷ codes "1.13 ask j count -> 5"
      ∷ codes "1.14 ask j contains 4 -> true"
      ∷ [];
}

abbrev pub frozen_examples : List Example
frozen_examples = frozen ∷ strategies ∷ []
