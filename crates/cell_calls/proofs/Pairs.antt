-- What operations on pairs give, where it is known what the key has.
use Rattle.std.proofs.Common.{◌≡◌, ℕ, zero, suc, ◌+◌, ◌≤◌, Bool, true, false, not, cond, List, [], ◌∷◌, length, refl, ap, sym, subst, ◌∙◌, arith}
use Rattle.std.specs.Prelude.{ℤ, pos, ◌+ℤ◌, map, ◌&&◌, Option, Some, None, is_some, option_map, find, filter, Ok, Err, if◌then◌else◌}
use Rattle.std.specs.List.{list_any}
use Rattle.std.specs.Option.{option_map_or}
use Rattle.std.specs.Ordering.{on}
use Rattle.std.specs.Cmp.{eq_by_cmp_equiv}
use Rattle.std.proofs.lemmas.Bool.Decides.{nat_tests}
use Rattle.imm_base.specs.declared.val.Val.{Val}
use Rattle.imm_base.specs.declared.val.Val.TheVariants.{Int}
use Rattle.imm_base.specs.declared.val.Edit.TheVariants.{Same, New}
use Rattle.imm_base.specs.Edits.{Gives, is_over, too_large}
use Rattle.imm_base.specs.Lists.{insert_sorted}
use Rattle.imm_base.specs.Maps.{entry_of, has_key, without_key, with_pair}
use Rattle.imm_base.specs.Order.{val_eq}
use Rattle.imm_base.specs.OrderLaws.{order_total, eq_equivalence, val_eq_equivalence, val_eq_exact}
use Rattle.imm_base.proofs.Inserted.{insert_sorted_is_put, find-put, filter-put_left_out}
use Rattle.imm_base.proofs.KeptMaps.{is_some-find, none_left, none_out}
use Rattle.plain_model.specs.declared.plain.Kind.{Kind}
use Rattle.plain_model.specs.declared.plain.Kind.TheVariants as kinds
use Rattle.plain_model.specs.declared.plain.Values.{Values}
use Rattle.plain_model.specs.declared.plain.Values.TheVariants as values
use Rattle.plain_model.specs.declared.plain.Plain.{Plain}
use Rattle.plain_model.specs.declared.commands.PlainOp.TheVariants as ops
use Rattle.plain_model.specs.declared.history.Refusal.TheVariants as refusals
use Rattle.plain_model.specs.declared.history.Reply.{Reply}
use Rattle.plain_model.specs.declared.history.Reply.TheVariants.{Refused}
use Rattle.plain_model.specs.Cell.{Outcome, add_if_room, install_and_reply, is_map, reply_only, with_value, without_value}
use Rattle.plain_model.specs.Plain.{Shape, list_like, stack_like, queue_like, set_like, map_like, Changed, shape_of, shape_op, order_of, same_of, pairs, integers_from, count, of_pairs, plain}
use Rattle.cell_calls.specs.Lookups.{Finds}
use Rattle.cell_calls.specs.Outcomes.{GivesOther}

-- ---- maps

clash : {A : Type 0} → false ≡ true → A
clash e = absurd (let f : false ≡ true = e in cc)

map_shape : (s : Shape) → is_map s ≡ true → s ≡ map_like
map_shape list_like e = clash e
map_shape stack_like e = clash e
map_shape queue_like e = clash e
map_shape set_like e = clash e
map_shape map_like e = refl

-- ---- another collection

abbrev pub gives : Plain → Changed
gives q = Ok (New q)

pub gives_other : (c : Changed) (q : Plain) → c ≡ gives q → GivesOther c
gives_other c q e = subst GivesOther (sym e) tt

pub other_is : (c : Changed) (q r : Plain) → c ≡ gives q → c ≡ gives r → r ≡ q
other_is c q r e f = same (sym f ∙ e)
  where
    same : gives r ≡ gives q → r ≡ q
    same e = cc

-- ---- counts

length-integers : (first : ℤ) (n : ℕ) → length (integers_from first n) ≤ n
length-integers first zero = omega arith
length-integers first (suc n) = let rest = length-integers (first +ℤ pos 1) n in omega arith

length-map_most : {A B : Type 0} (f : A → B) (xs : List A) (n : ℕ) → length xs ≤ n → length (map f xs) ≤ n
length-map_most f [] n h = omega arith
length-map_most f (x ∷ xs) zero h = absurd (omega arith)
length-map_most f (x ∷ xs) (suc n) h = let rest = length-map_most f xs n (omega arith) in omega arith

-- there are no more pairs than are counted
pairs_counted : (vs : Values) → length (pairs vs) ≤ count vs
pairs_counted (values.List xs) = omega arith
pairs_counted (values.Pairs ps) = omega arith
pairs_counted (values.Seq first n) = length-map_most (λ z. (Int z, Int z)) (integers_from first n) n (length-integers first n)
pairs_counted values.Unset = omega arith

not_over : (a b : ℕ) → a ≤ b → is_over (b + 1) ≡ false → is_over (a + 1) ≡ false
not_over a b h e = grind (arith, nat_tests)

-- ---- keys

same_itself : (kind : Kind) (k : Val) → same_of kind k k ≡ true
same_itself (kinds.SSet order) k = (eq_by_cmp_equiv (order_total order)).refl k
same_itself (kinds.SMap order) k = (eq_by_cmp_equiv (order_total order)).refl k
same_itself (kinds.Dict eq) k = (eq_equivalence eq).refl k
same_itself (kinds.HSet eq) k = (eq_equivalence eq).refl k
same_itself kinds.List k = val_eq_equivalence.refl k
same_itself kinds.Array k = val_eq_equivalence.refl k
same_itself kinds.Stack k = val_eq_equivalence.refl k
same_itself kinds.Queue k = val_eq_equivalence.refl k

is_some-map : {A B : Type 0} (f : A → B) (o : Option A) → is_some (option_map f o) ≡ is_some o
is_some-map f None = refl
is_some-map f (Some x) = refl

module _ (p : Plain) (k : Val) where
  -- the pairs, and whether the key has one
  abbrev its_pairs : List (Val × Val)
  its_pairs = pairs p.values

  abbrev its_key : Bool
  its_key = has_key (same_of p.kind) k its_pairs

  has_key_by : (found : Option Val) → Finds k p found → its_key ≡ is_some found
  has_key_by found f = sym (is_some-map (λ (e : Val × Val). e.1) (entry_of (same_of p.kind) k its_pairs)) ∙ ap is_some f.value

  -- what setting a pair gives, by whether the key has this value, and whether it has one
  abbrev set_row : Val → Bool → Bool → Gives Val (List (Val × Val))
  set_row v has there =
      if has then Ok Same
      else if not there && is_over (length its_pairs + 1) then Err (too_large (length its_pairs))
      else Ok (New (with_pair (order_of p.kind) (same_of p.kind) k v its_pairs))

  abbrev has_value : Val → Option Val → Bool
  has_value v found = option_map_or (λ u. val_eq u v) found false

  set_is : (v : Val) (found : Option Val) → Finds k p found → plain (ops.SetPair k v) p ≡ of_pairs p (set_row v (has_value v found) (is_some found))
  set_is v found f =
      ap (λ s. shape_op s (ops.SetPair k v) p) (map_shape (shape_of p.kind) f.map)
      ∙ (ap (λ o. of_pairs p (set_row v (has_value v o) its_key)) f.value
      ∙ ap (λ t. of_pairs p (set_row v (has_value v found) t)) (has_key_by found f))

  -- another value for a key that has one
  pub sets_other : (u v : Val) → Finds k p (Some u) → val_eq u v ≡ false → plain (ops.SetPair k v) p ≡ Ok (New (with_value k v p))
  sets_other u v f e = set_is v (Some u) f ∙ ap (λ b. of_pairs p (set_row v b true)) e

  -- a value for a key that has none, where there is room
  pub sets_new : (v : Val) → Finds k p None → is_over (count p.values + 1) ≡ false → plain (ops.SetPair k v) p ≡ Ok (New (with_value k v p))
  sets_new v f room =
      set_is v None f
      ∙ ap (λ b. of_pairs p (if b then Err (too_large (length its_pairs)) else Ok (New (with_pair (order_of p.kind) (same_of p.kind) k v its_pairs)))) (not_over (length its_pairs) (count p.values) (pairs_counted p.values) room)

  pub removes : (u : Val) → Finds k p (Some u) → plain (ops.RemoveKey k) p ≡ Ok (New (without_value k p))
  removes u f =
      ap (λ s. shape_op s (ops.RemoveKey k) p) (map_shape (shape_of p.kind) f.map)
      ∙ ap (λ b. of_pairs p (if b then Ok (New (without_key (same_of p.kind) k its_pairs)) else Ok Same)) (has_key_by (Some u) f)

  -- ---- a pair set where another one was set before

  module _ (w : Val) where
    abbrev rest : List (Val × Val)
    rest = without_key (same_of p.kind) k its_pairs

    abbrev between : Plain
    between = with_value k w p

    none_there : list_any (λ e. same_of p.kind k e.0) rest ≡ false
    none_there = none_left (λ e. same_of p.kind k e.0) its_pairs

    entry_there : entry_of (same_of p.kind) k (with_pair (order_of p.kind) (same_of p.kind) k w its_pairs) ≡ Some (k, w)
    entry_there =
        ap (find (λ e. same_of p.kind k e.0)) (insert_sorted_is_put (on (λ e. e.0) (order_of p.kind)) (k, w) rest)
        ∙ (find-put (on (λ e. e.0) (order_of p.kind)) (λ e. same_of p.kind k e.0) (k, w) rest (λ _. none_there)
        ∙ ap (λ b. cond b (Some (k, w)) (find (λ e. same_of p.kind k e.0) rest)) (same_itself p.kind k))

    pub finds_it : {found : Option Val} → Finds k p found → Finds k between (Some w)
    finds_it f = record { map = f.map; value = ap (option_map (λ (e : Val × Val). e.1)) entry_there }

    without_it : without_key (same_of p.kind) k (with_pair (order_of p.kind) (same_of p.kind) k w its_pairs) ≡ rest
    without_it =
        ap (filter (λ e. not (same_of p.kind k e.0))) (insert_sorted_is_put (on (λ e. e.0) (order_of p.kind)) (k, w) rest)
        ∙ (filter-put_left_out (on (λ e. e.0) (order_of p.kind)) (λ e. not (same_of p.kind k e.0)) (k, w) rest (ap not (same_itself p.kind k))
        ∙ none_out (same_of p.kind) k rest (is_some-find (λ e. same_of p.kind k e.0) rest ∙ none_there))

    pub set_again : (v : Val) → with_value k v between ≡ with_value k v p
    set_again v = ap (λ ps. record p { values = values.Pairs (insert_sorted (on (λ e. e.0) (order_of p.kind)) (k, v) ps) }) without_it

-- ---- values that are not equal

pub turned_false : (u v : Val) → val_eq u v ≡ false → val_eq v u ≡ false
turned_false u v e = val_eq_equivalence.symm v u ∙ e

pub found_equal : (p : Plain) (k u v : Val) → Finds k p (Some u) → val_eq u v ≡ true → Finds k p (Some v)
found_equal p k u v f e = subst (λ x. Finds k p (Some x)) (val_eq_exact u v e) f

-- ---- outcomes

module _ (k v : Val) (r : Reply) (p : Plain) where
  -- the outcome of adding, by whether one pair more is too many
  abbrev by_room : Bool → Outcome
  by_room full = if full then reply_only (Refused (refusals.TooLarge (count p.values))) else install_and_reply (with_value k v p) r

  pub added : (q : Plain) → Finds k p None → is_over (count p.values + 1) ≡ false → plain (ops.SetPair k v) p ≡ Ok (New q) → install_and_reply q r ≡ add_if_room k v r p
  added q f room is =
      ap (λ x. install_and_reply x r) (other_is (plain (ops.SetPair k v) p) (with_value k v p) q (sets_new p k v f room) is) ∙ ap by_room (sym room)

-- another value in place of the one of a key
pub set_other : (p : Plain) (k u v : Val) (q : Plain) → Finds k p (Some u) → val_eq u v ≡ false → plain (ops.SetPair k v) p ≡ Ok (New q) → q ≡ with_value k v p
set_other p k u v q f e is = other_is (plain (ops.SetPair k v) p) (with_value k v p) q (sets_other p k u v f e) is

module _ (p : Plain) (k v w : Val) (f : Finds k p (Some v)) (e : val_eq v w ≡ false) (q : Plain) (is : plain (ops.SetPair k w) p ≡ Ok (New q)) where
  set_between : q ≡ with_value k w p
  set_between = set_other p k v w q f e is

  sets_back : plain (ops.SetPair k v) q ≡ Ok (New (with_value k v p))
  sets_back =
      ap (plain (ops.SetPair k v)) set_between
      ∙ (sets_other (with_value k w p) k w v (finds_it p k w f) (turned_false v w e) ∙ ap gives (set_again p k w v))

  pub gives_back : GivesOther (plain (ops.SetPair k v) q)
  gives_back = gives_other (plain (ops.SetPair k v) q) (with_value k v p) sets_back

  pub set_back : (t : Plain) → plain (ops.SetPair k v) q ≡ Ok (New t) → t ≡ with_value k v p
  set_back t at = other_is (plain (ops.SetPair k v) q) (with_value k v p) t sets_back at
