-- Collections that are full: what is refused, in which order, and what is not.
use Rattle.std.specs.Prelude.{◌≡◌, ◌++◌, ℕ, pos, negsuc, List, [], ◌∷◌, codes, is_some}
use Rattle.imm_base.specs.declared.TheConstants.{LIMIT}
use Rattle.imm_base.specs.declared.val.Val.TheVariants.{Int, Text}
use Rattle.imm_base.specs.declared.comparers.ValOrder.TheVariants as orders
use Rattle.imm_base.specs.declared.comparers.ValEq.TheVariants as equalities
use Rattle.plain_model.specs.declared.plain.Kind.{Kind}
use Rattle.plain_model.specs.declared.plain.Kind.TheVariants as kinds
use Rattle.plain_model.specs.declared.plain.Values.TheVariants as values
use Rattle.plain_model.specs.declared.plain.Plain.{Plain}
use Rattle.plain_model.specs.declared.commands.PlainOp.{PlainOp}
use Rattle.plain_model.specs.declared.commands.PlainOp.TheVariants as ops
use Rattle.plain_model.specs.declared.commands.PlainCall.{PlainCall}
use Rattle.plain_model.specs.declared.commands.PlainCall.TheVariants as calls
use Rattle.plain_model.specs.declared.commands.Transform.TheVariants.{Plus}
use Rattle.plain_model.specs.Plain.{elements, pairs, plain}
use Rattle.plain_model.specs.Cell.{cell, after}
use Rattle.imm_base.specs.Arrays.{capacity_for}
use Rattle.plain_model.specs.Locals.{change_answer}
use Rattle.plain_model.specs.Text.{spaced, collection_words, answer_words, reply_words, mark}

-- the numbers from 0 to one less than the limit
abbrev pub full : Kind → Plain
full kind = record { kind = kind; values = values.List (elements (values.Seq (pos 0) LIMIT)) }

abbrev pub full_pairs : Kind → Plain
full_pairs kind = record { kind = kind; values = values.Pairs (pairs (values.Seq (pos 0) LIMIT)) }

-- what an operation answers
abbrev pub gives : PlainOp → Plain → List ℕ
gives op p = spaced (answer_words (change_answer (plain op p)))

-- what a call replies, with the mark whether it installs
abbrev pub replies : PlainCall → Plain → List ℕ
replies call p = mark (is_some (cell call p).installs) ++ 32 ∷ spaced (reply_words (cell call p).reply)

-- a dictionary that takes no notice of capitals
abbrev pub small : Plain
small = record { kind = kinds.Dict equalities.NoCase; values = values.Pairs ((Text (codes "a"), Int (pos 1)) ∷ []) }

-- what a call makes of it
abbrev pub turned : PlainCall → List ℕ
turned call = spaced (collection_words (after call small).values)

-- the capacity of an array builder never grows above the limit
abbrev pub capacities : List ℕ
capacities = capacity_for 40001 40000 ∷ capacity_for 3 2 ∷ capacity_for 7 2 ∷ capacity_for 2 4 ∷ []

pub record LimitExamples : Type 0 where
  pub array_add : gives (ops.Add (Int (pos 1))) (full kinds.Array) ≡ codes "refused toolarge 65536"
  pub insert_far : gives (ops.Insert 65537 (Int (pos 1))) (full kinds.List) ≡ codes "refused outofrange 65537 65536"
  pub insert_range_far : gives (ops.InsertRange 65537 (values.Seq (pos 0) 1)) (full kinds.List) ≡ codes "refused outofrange 65537 65536"
  pub insert_range : gives (ops.InsertRange 0 (values.Seq (pos 0) 1)) (full kinds.List) ≡ codes "refused toolarge 65536"
  pub add_nothing : gives (ops.AddRange (values.List [])) (full kinds.List) ≡ codes "same"
  pub push : gives (ops.Push (Int (pos 1))) (full kinds.Stack) ≡ codes "refused toolarge 65536"
  pub enqueue : gives (ops.Enqueue (Int (pos 1))) (full kinds.Queue) ≡ codes "refused toolarge 65536"
  pub set_add_present : gives (ops.Add (Int (pos 5))) (full (kinds.SSet orders.Ordinal)) ≡ codes "same"
  pub set_add : gives (ops.Add (Int (negsuc 0))) (full (kinds.HSet equalities.NoCase)) ≡ codes "refused toolarge 65536"
  pub set_union : gives (ops.Union (values.Seq (negsuc 0) 2)) (full (kinds.SSet orders.Ordinal)) ≡ codes "refused toolarge 65536"
  pub set_exchange : gives (ops.SymExcept (values.Seq (negsuc 0) 2)) (full (kinds.SSet orders.Ordinal)) ≡ codes "new"
  pub set_symmetric : gives (ops.SymExcept (values.Seq (negsuc 0) 1)) (full (kinds.HSet equalities.Ordinal)) ≡ codes "refused toolarge 65536"
  pub add_other : gives (ops.AddPair (Int (pos 5)) (Int (pos 6))) (full_pairs (kinds.Dict equalities.Ordinal)) ≡ codes "refused keyexists 5"
  pub add_pair : gives (ops.AddPair (Int (negsuc 0)) (Int (pos 6))) (full_pairs (kinds.Dict equalities.Ordinal)) ≡ codes "refused toolarge 65536"
  pub add_pairs_other : gives (ops.AddPairs (values.Pairs ((Int (negsuc 0), Int (pos 0)) ∷ (Int (pos 5), Int (pos 6)) ∷ []))) (full_pairs (kinds.SMap orders.Ordinal)) ≡ codes "refused keyexists 5"
  pub add_pairs : gives (ops.AddPairs (values.Seq (negsuc 0) 2)) (full_pairs (kinds.SMap orders.Ordinal)) ≡ codes "refused toolarge 65536"
  pub set_pair : gives (ops.SetPair (Int (pos 5)) (Int (pos 6))) (full_pairs (kinds.SMap orders.Ordinal)) ≡ codes "new"
  pub set_pairs : gives (ops.SetPairs (values.Seq (negsuc 0) 2)) (full_pairs (kinds.Dict equalities.Ordinal)) ≡ codes "refused toolarge 65536"
  pub get_or_add : replies (calls.GetOrAdd (Int (negsuc 0)) (Int (pos 1))) (full_pairs (kinds.Dict equalities.Ordinal)) ≡ codes ". refused toolarge 65536"
  pub add_or_update : replies (calls.AddOrUpdate (Int (pos 5)) (Int (pos 1)) (Plus (pos 2))) (full_pairs (kinds.Dict equalities.Ordinal)) ≡ codes "+ 7"
  pub add_or_update_absent : replies (calls.AddOrUpdate (Int (negsuc 0)) (Int (pos 1)) (Plus (pos 2))) (full_pairs (kinds.Dict equalities.Ordinal)) ≡ codes ". refused toolarge 65536"
  pub try_add_present : replies (calls.TryAdd (Int (pos 5)) (Int (pos 1))) (full_pairs (kinds.Dict equalities.Ordinal)) ≡ codes ". false"
  pub try_add : replies (calls.TryAdd (Int (negsuc 0)) (Int (pos 1))) (full_pairs (kinds.Dict equalities.Ordinal)) ≡ codes ". refused toolarge 65536"
  pub cell_push : replies (calls.Push (Int (pos 1))) (full kinds.Stack) ≡ codes ". refused toolarge 65536"
  pub cell_enqueue : replies (calls.Enqueue (Int (pos 1))) (full kinds.Queue) ≡ codes ". refused toolarge 65536"
  pub update_refused : replies (calls.Update (ops.RemoveAt 0)) (record { kind = kinds.List; values = values.List [] }) ≡ codes ". refused outofrange 0 0"
  pub updated_spelling : turned (calls.AddOrUpdate (Text (codes "A")) (Int (pos 5)) (Plus (pos 1))) ≡ codes "1: \"A\"=2"
  pub updated_equal : turned (calls.AddOrUpdate (Text (codes "A")) (Int (pos 5)) (Plus (pos 0))) ≡ codes "1: \"a\"=1"
  pub exchanged_spelling : turned (calls.TryUpdate (Text (codes "A")) (Int (pos 5)) (Int (pos 1))) ≡ codes "1: \"A\"=5"
  pub not_exchanged : turned (calls.TryUpdate (Text (codes "A")) (Int (pos 5)) (Int (pos 5))) ≡ codes "1: \"a\"=1"
  pub added : turned (calls.TryAdd (Text (codes "B")) (Int (pos 5))) ≡ codes "2: \"B\"=5 \"a\"=1"
  pub added_reply : replies (calls.TryAdd (Text (codes "B")) (Int (pos 5))) small ≡ codes "+ true"
  pub capacity : capacities ≡ 65536 ∷ 4 ∷ 7 ∷ 4 ∷ []
