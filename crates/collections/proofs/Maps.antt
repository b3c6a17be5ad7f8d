-- Maps, sorted and hashed, as the plain model sees them.
use Rattle.std.proofs.Common.{◌≡◌, Bool, true, false, [], ◌∷◌, length, Ok, Err, ap, sym, ◌∙◌, refl}
use Rattle.std.specs.Prelude.{Result, IfOk, if◌then◌else◌}
use Rattle.std.specs.declared.cmp.Ordering.{Ordering}
use Rattle.imm_base.specs.declared.val.Val.{Val}
use Rattle.imm_base.specs.declared.val.Edit.{Edit}
use Rattle.imm_base.specs.declared.val.Edit.TheVariants.{Same, New}
use Rattle.imm_base.specs.declared.faults.MapFault.{MapFault}
use Rattle.imm_base.specs.Answers.{Answers, IsKept, map_why}
use Rattle.imm_base.specs.Order.{val_eq}
use Rattle.imm_base.specs.Edits.{Gives, too_large, is_over}
use Rattle.imm_base.specs.Maps.{Entries, set_all, map_set_all}
use Rattle.imm_base.specs.Rekey.{new_or_present}
use Rattle.plain_model.specs.declared.plain.Kind.{Kind}
use Rattle.plain_model.specs.declared.plain.Plain.{Plain}
use Rattle.plain_model.specs.declared.plain.Values.{Values}
use Rattle.plain_model.specs.declared.plain.Values.TheVariants as values
use Rattle.plain_model.specs.declared.history.Refusal.{Refusal}
use Rattle.plain_model.specs.declared.history.Refusal.TheVariants as refusals
use Rattle.plain_model.specs.Locals.{pairs_or_present}
use Rattle.plain_model.specs.Plain.{count, filled, made, of_pairs, pairs}
use Rattle.collections.specs.Changes.{judged_by, change_map, made_map, or_unchanged, new_or_refused}
use Rattle.collections.specs.Kinds.{kind_of_pairs}
use Rattle.collections.proofs.JudgedCalls.{judged_is, or_unchanged-map}

new_is : (kind : Kind) (over : Bool) (m : Entries Val Val)
    → or_unchanged (kind_of_pairs kind []) (of_pairs (kind_of_pairs kind []) (if over then Err (too_large 0) else Ok (New m)))
    ≡ (if over then Err (refusals.TooLarge 0) else Ok (kind_of_pairs kind m))
new_is kind true m = refl
new_is kind false m = refl

module _ (cmp : Val → Val → Ordering) (same : Val → Val → Bool) where
  set_is : (kind : Kind) (ps : Entries Val Val) → let m = set_all cmp same val_eq ps [] in
      or_unchanged (kind_of_pairs kind []) (of_pairs (kind_of_pairs kind []) (map_set_all cmp same val_eq ps []))
      ≡ (if is_over (length m) then Err (refusals.TooLarge 0) else Ok (kind_of_pairs kind m))
  set_is kind [] = refl
  set_is kind (p ∷ ps) =
      let m : Entries Val Val = set_all cmp same val_eq (p ∷ ps) [] in
      new_is kind (is_over (length m)) m

-- a map under another comparer, or the value of the first key that can't be added
pub added : (kind : Kind) (ps : Entries Val Val) (r : Result (Entries Val Val) Val)
    → of_pairs (kind_of_pairs kind ps) (new_or_present r) ≡ new_or_refused (pairs_or_present kind r)
added kind ps (Ok qs) = refl
added kind ps (Err u) = refl

-- `contents` and `comparer` are what a map has, and `kind` is the kind of maps under a comparer
module _ {S O : Type 0} (contents : S → Entries Val Val) (comparer : S → O) (kind : O → Kind) where
  abbrev seen : S → Plain
  seen map = kind_of_pairs (kind (comparer map)) (contents map)

  map_given : (own : O) (ps : Entries Val Val) (answer : Edit S) (gives : Gives Val (Entries Val Val)) → IsKept contents comparer own answer gives
      → change_map seen (Ok answer) ≡ of_pairs (kind_of_pairs (kind own) ps) gives
  map_given own ps Same gives e = sym (ap (of_pairs (kind_of_pairs (kind own) ps)) e)
  map_given own ps (New map) gives h =
      let at : change_map seen (Ok (New map)) ≡ Ok (New (kind_of_pairs (kind own) (contents map))) = ap (λ (o : O). Ok (New (kind_of_pairs (kind o) (contents map)))) h.1 in
      at ∙ sym (ap (of_pairs (kind_of_pairs (kind own) ps)) h.0)

  -- what a call gives of the map ps, which is kept under the comparer then
  pub map_judged : (own : O) (ps : Entries Val Val) (called : Result (Edit S) (MapFault Val)) (gives : Gives Val (Entries Val Val))
      → Answers map_why (IsKept contents comparer own) called gives → IfOk (judged_by map_why called) (λ c. change_map seen c ≡ of_pairs (kind_of_pairs (kind own) ps) gives)
  map_judged own ps = judged_is map_why (change_map seen) (of_pairs (kind_of_pairs (kind own) ps)) (λ w. refl) (IsKept contents comparer own) (map_given own ps)

  -- the map of these pairs is the empty one with the pairs set
  pub new_map : (own : O) (cmp : Val → Val → Ordering) (same : Val → Val → Bool) (src : Values)
      → filled (kind own) src ≡ values.Pairs (set_all cmp same val_eq (pairs src) []) → (empty : S) (change : Result (Edit S) Refusal)
      → seen empty ≡ kind_of_pairs (kind own) []
      → change_map seen change ≡ of_pairs (kind_of_pairs (kind own) []) (map_set_all cmp same val_eq (pairs src) [])
      → made_map seen (or_unchanged empty change) ≡ made (kind own) src
  new_map own cmp same src e empty change none is =
      or_unchanged-map seen empty change
      ∙ ap (λ p. or_unchanged p (change_map seen change)) none
      ∙ ap (λ c. or_unchanged (kind_of_pairs (kind own) []) c) is
      ∙ set_is cmp same (kind own) (pairs src)
      ∙ sym (ap (λ vs. if is_over (count vs) then Err (refusals.TooLarge 0) else Ok (record { kind = kind own; values = vs })) e)
