-- Counts at numbers in a dictionary: what many calls come to, by lists of numbers with their counts.
use Rattle.std.specs.Prelude.{◌≡◌, ℕ, suc, pos, ◌+◌, ◌-◌, ◌^◌, ◌≤◌, ◌<◌, List, [], ◌∷◌, length, map, fold, filter, find, min, Bool, true, false, not, cond, nat_lt, Option, Some, None, option_map, if◌then◌else◌}
use Rattle.std.specs.Ordering.{is_eq, is_lt, int_cmp, on}
use Rattle.std.specs.declared.cmp.Ordering.{Ordering}
use Rattle.std.specs.declared.cmp.Ordering.TheVariants.{Less, Equal, Greater}
use Rattle.std.proofs.Math.Nat.{min-eq_left}
use Rattle.std.proofs.Common.{refl, ap, subst, ◌∙◌, arith}
use Rattle.std.proofs.lemmas.Bool.{le-ltb, lt-ltb, ltb-true, ltb-false}
use Rattle.imm_base.specs.declared.TheConstants.{LIMIT}
use Rattle.imm_base.specs.declared.comparers.ValEq.TheVariants as equalities
use Rattle.imm_base.specs.declared.val.Val.{Val}
use Rattle.imm_base.specs.declared.val.Val.TheVariants.{Int}
use Rattle.imm_base.specs.Edits.{is_over}
use Rattle.imm_base.specs.Order.{val_cmp, val_eq, eq_same}
use Rattle.imm_base.specs.Maps.{value_of, with_pair}
use Rattle.imm_base.proofs.Inserted.{put, insert_sorted_is_put}
use Rattle.plain_model.specs.declared.plain.Kind.TheVariants as kinds
use Rattle.plain_model.specs.declared.plain.Values.TheVariants as values
use Rattle.plain_model.specs.declared.plain.Plain.{Plain}
use Rattle.plain_model.specs.declared.commands.Transform.TheVariants.{Plus}
use Rattle.plain_model.specs.declared.commands.PlainCall.{PlainCall}
use Rattle.plain_model.specs.declared.commands.PlainCall.TheVariants as calls
use Rattle.plain_model.specs.declared.history.Reply.TheVariants.{Value, Refused}
use Rattle.plain_model.specs.declared.history.Refusal.TheVariants.{TooLarge}
use Rattle.plain_model.specs.Cell as cells
use Rattle.plain_model.specs.Cell.{cell, add_or_update, put_unless_equal, reply_only, install_and_reply}
use Rattle.worked_examples.proofs.Generated.{moved, stepped}

-- numbers with their counts
abbrev pub Counts : Type 0
Counts = List (ℕ × ℕ)

abbrev entry : ℕ × ℕ → Val × Val
entry e = (Int (pos e.0), Int (pos e.1))

abbrev pub dict_of : Counts → Plain
dict_of m = record { kind = kinds.Dict equalities.Ordinal; values = values.Pairs (map entry m) }

abbrev pub count_call : ℕ → PlainCall
count_call t = calls.AddOrUpdate (Int (pos t)) (Int (pos 1)) (Plus (pos 1))

abbrev same : Val → Val → Bool
same = eq_same equalities.Ordinal

abbrev is_same : ℕ → ℕ → Bool
is_same t u = is_eq (int_cmp (pos t) (pos u))

abbrev by_key : Val × Val → Val × Val → Ordering
by_key = on (λ e. e.0) val_cmp

abbrev pub count_at : ℕ → Counts → Option ℕ
count_at t [] = None
count_at t (e ∷ m) = cond (is_same t e.0) (Some e.1) (count_at t m)

abbrev pub with_count : ℕ → ℕ → Counts → Counts
with_count t x [] = (t, x) ∷ []
with_count t x (e ∷ m) = cond (nat_lt t e.0) ((t, x) ∷ e ∷ m) (cond (nat_lt e.0 t) (e ∷ with_count t x m) ((t, x) ∷ m))

abbrev pub next_count : Option ℕ → ℕ
next_count None = 1
next_count (Some c) = c + 1

abbrev pub counted : Counts → ℕ → Counts
counted m t = with_count t (next_count (count_at t m)) m

-- the numbers rise, from b on
abbrev RisesFrom : ℕ → Counts → Type 0
RisesFrom b [] = Unit {0}
RisesFrom b (e ∷ m) = (b ≤ e.0) × RisesFrom (e.0 + 1) m

-- each count is at most n
abbrev AreUpTo : ℕ → Counts → Type 0
AreUpTo n [] = Unit {0}
AreUpTo n (e ∷ m) = (e.1 ≤ n) × AreUpTo n m

value_is : (t : ℕ) (m : Counts) → value_of same (Int (pos t)) (map entry m) ≡ option_map (λ c. Int (pos c)) (count_at t m)
value_is t [] = refl
value_is t (e ∷ m) = elim (is_same t e.0) as (λ b. option_map (λ p. p.1) (cond b (Some (entry e)) (find (λ p. same (Int (pos t)) p.0) (map entry m))) ≡ option_map (λ c. Int (pos c)) (cond b (Some e.1) (count_at t m))) [
  | true ↦ refl
  | false ↦ value_is t m
]

-- the tests of a number against the first, where the comparison is known
abbrev ordering_by : Bool → Bool → Ordering
ordering_by below above = cond below Less (cond above Greater Equal)

abbrev others : ℕ → Val × Val → Bool
others t e = not (same (Int (pos t)) e.0)

-- a number below all others is not among them
all_kept : (t b : ℕ) (m : Counts) → t < b → RisesFrom b m → filter (others t) (map entry m) ≡ map entry m
all_kept t b [] h r = refl
all_kept t b (e ∷ m) h r =
    let low : b ≤ e.0 = r.0 in
    let below : nat_lt t e.0 ≡ true = lt-ltb t e.0 (omega arith) in
    ap (λ x. cond (not (is_eq (ordering_by x (nat_lt e.0 t)))) (entry e ∷ filter (others t) (map entry m)) (filter (others t) (map entry m))) below
    ∙ ap (λ l. entry e ∷ l) (all_kept t (e.0 + 1) m (omega arith) r.1)

-- and goes before them
put_first : (t x b : ℕ) (m : Counts) → t < b → RisesFrom b m → put by_key (entry (t, x)) (map entry m) ≡ entry (t, x) ∷ map entry m
put_first t x b [] h r = refl
put_first t x b (e ∷ m) h r =
    let low : b ≤ e.0 = r.0 in
    let below : nat_lt t e.0 ≡ true = lt-ltb t e.0 (omega arith) in
    ap (λ y. cond (is_lt (ordering_by y (nat_lt e.0 t))) (entry (t, x) ∷ entry e ∷ map entry m) (entry e ∷ put by_key (entry (t, x)) (map entry m))) below

abbrev Puts : ℕ → ℕ → Counts → Type 0
Puts t x m = put by_key (entry (t, x)) (filter (others t) (map entry m)) ≡ map entry (with_count t x m)

put_by : (t x b : ℕ) (e : ℕ × ℕ) (m : Counts) → RisesFrom (e.0 + 1) m → Puts t x m → (below above : Bool) → nat_lt t e.0 ≡ below → nat_lt e.0 t ≡ above
    → put by_key (entry (t, x)) (cond (not (is_eq (ordering_by below above))) (entry e ∷ filter (others t) (map entry m)) (filter (others t) (map entry m)))
    ≡ map entry (cond below ((t, x) ∷ e ∷ m) (cond above (e ∷ with_count t x m) ((t, x) ∷ m)))
put_by t x b e m r puts true above p q =
    let less : t < e.0 = ltb-true t e.0 p in
    ap (λ l. put by_key (entry (t, x)) (entry e ∷ l)) (all_kept t (e.0 + 1) m (omega arith) r)
    ∙ ap (λ y. cond (is_lt (ordering_by y (nat_lt e.0 t))) (entry (t, x) ∷ entry e ∷ map entry m) (entry e ∷ put by_key (entry (t, x)) (map entry m))) p
put_by t x b e m r puts false true p q =
    let all : List (Val × Val) = filter (others t) (map entry m) in
    ap (λ y. cond (is_lt (ordering_by y (nat_lt e.0 t))) (entry (t, x) ∷ entry e ∷ all) (entry e ∷ put by_key (entry (t, x)) all)) p
    ∙ ap (λ y. cond (is_lt (ordering_by false y)) (entry (t, x) ∷ entry e ∷ all) (entry e ∷ put by_key (entry (t, x)) all)) q
    ∙ ap (λ l. entry e ∷ l) puts
put_by t x b e m r puts false false p q =
    let up : e.0 ≤ t = ltb-false t e.0 p in
    let down : t ≤ e.0 = ltb-false e.0 t q in
    let front : t < e.0 + 1 = omega arith in
    ap (λ l. put by_key (entry (t, x)) l) (all_kept t (e.0 + 1) m front r) ∙ put_first t x (e.0 + 1) m front r

put_counted : (t x b : ℕ) (m : Counts) → RisesFrom b m → Puts t x m
put_counted t x b [] r = refl
put_counted t x b (e ∷ m) r = put_by t x b e m r.1 (put_counted t x (e.0 + 1) m r.1) (nat_lt t e.0) (nat_lt e.0 t) refl refl

with_pair_is : (t x : ℕ) (m : Counts) → RisesFrom 0 m → with_pair val_cmp same (Int (pos t)) (Int (pos x)) (map entry m) ≡ map entry (with_count t x m)
with_pair_is t x m r = insert_sorted_is_put by_key (entry (t, x)) (filter (others t) (map entry m)) ∙ put_counted t x 0 m r

-- ---- what stays

rises_by : (t x b : ℕ) (e : ℕ × ℕ) (m : Counts) → b ≤ t → b ≤ e.0 → RisesFrom (e.0 + 1) m → (e.0 + 1 ≤ t → RisesFrom (e.0 + 1) (with_count t x m))
    → (below above : Bool) → nat_lt t e.0 ≡ below → nat_lt e.0 t ≡ above → RisesFrom b (cond below ((t, x) ∷ e ∷ m) (cond above (e ∷ with_count t x m) ((t, x) ∷ m)))
rises_by t x b e m h low r more true above p q = let less : t < e.0 = ltb-true t e.0 p in (h, (omega arith, r))
rises_by t x b e m h low r more false true p q = let above : e.0 < t = ltb-true e.0 t q in (low, more (omega arith))
rises_by t x b e m h low r more false false p q =
    let up : e.0 ≤ t = ltb-false t e.0 p in
    let down : t ≤ e.0 = ltb-false e.0 t q in
    let here : e.0 ≡ t = omega arith in
    (h, subst (λ k. RisesFrom (k + 1) m) here r)

rises : (t x b : ℕ) (m : Counts) → b ≤ t → RisesFrom b m → RisesFrom b (with_count t x m)
rises t x b [] h r = (h, tt)
rises t x b (e ∷ m) h r = rises_by t x b e m h r.0 r.1 (λ g. rises t x (e.0 + 1) m g r.1) (nat_lt t e.0) (nat_lt e.0 t) refl refl

longer : (t x : ℕ) (m : Counts) → length (with_count t x m) ≤ length m + 1
longer t x [] = omega arith
longer t x (e ∷ m) = by_cases (nat_lt t e.0) (nat_lt e.0 t) (longer t x m)
  where
    by_cases : (below above : Bool) → length (with_count t x m) ≤ length m + 1 → length (cond below ((t, x) ∷ e ∷ m) (cond above (e ∷ with_count t x m) ((t, x) ∷ m))) ≤ suc (length m) + 1
    by_cases true above h = omega arith
    by_cases false true h = omega arith
    by_cases false false h = omega arith

more_up_to : (n : ℕ) (m : Counts) → AreUpTo n m → AreUpTo (n + 1) m
more_up_to n [] h = tt
more_up_to n (e ∷ m) h = let low : e.1 ≤ n = h.0 in (omega arith, more_up_to n m h.1)

up_to : (t x n : ℕ) (m : Counts) → x ≤ n → AreUpTo n m → AreUpTo n (with_count t x m)
up_to t x n [] h r = (h, tt)
up_to t x n (e ∷ m) h r = by_cases (nat_lt t e.0) (nat_lt e.0 t) (up_to t x n m h r.1)
  where
    by_cases : (below above : Bool) → AreUpTo n (with_count t x m) → AreUpTo n (cond below ((t, x) ∷ e ∷ m) (cond above (e ∷ with_count t x m) ((t, x) ∷ m)))
    by_cases true above g = (h, (r.0, r.1))
    by_cases false true g = (r.0, g)
    by_cases false false g = (h, r.1)

-- ---- one call

abbrev IsFoundUpTo : ℕ → Option ℕ → Type 0
IsFoundUpTo n None = Unit {0}
IsFoundUpTo n (Some c) = c ≤ n

found_up_to : (t n : ℕ) (m : Counts) → AreUpTo n m → IsFoundUpTo n (count_at t m)
found_up_to t n [] h = tt
found_up_to t n (e ∷ m) h = by_cases (is_same t e.0) (found_up_to t n m h.1)
  where
    by_cases : (b : Bool) → IsFoundUpTo n (count_at t m) → IsFoundUpTo n (cond b (Some e.1) (count_at t m))
    by_cases true g = h.0
    by_cases false g = g

next_up_to : (n : ℕ) (o : Option ℕ) → IsFoundUpTo n o → next_count o ≤ n + 1
next_up_to n None h = omega arith
next_up_to n (Some c) h = let low : c ≤ n = h in omega arith

entries : (m : Counts) → length (map entry m) ≡ length m
entries [] = refl
entries (e ∷ m) = ap (λ k. suc k) (entries m)

-- a number is not the one before it
not_before : (c : ℕ) → val_eq (Int (pos (c + 1))) (Int (pos c)) ≡ false
not_before c = ap (λ b. is_eq (ordering_by b (nat_lt c (c + 1)))) (le-ltb (c + 1) c (omega arith)) ∙ ap (λ b. is_eq (ordering_by false b)) (lt-ltb c (c + 1) (omega arith))

small_sum : (c : ℕ) → c < LIMIT → min (c + 1) (2 ^ 63 - 1) ≡ c + 1
small_sum c h = min-eq_left (omega arith)

put_pair : (t x : ℕ) (m : Counts) → RisesFrom 0 m → Some (record (dict_of m) { values = values.Pairs (with_pair val_cmp same (Int (pos t)) (Int (pos x)) (map entry m)) }) ≡ Some (dict_of (with_count t x m))
put_pair t x m r = ap (λ ps. Some (record (dict_of m) { values = values.Pairs ps })) (with_pair_is t x m r)

one_by : (t n : ℕ) (m : Counts) → RisesFrom 0 m → length m ≤ n → n < LIMIT → (o : Option ℕ) → IsFoundUpTo n o
    → (add_or_update (Int (pos t)) (Int (pos 1)) (Plus (pos 1)) (dict_of m) (option_map (λ c. Int (pos c)) o)).installs ≡ Some (dict_of (with_count t (next_count o) m))
one_by t n m r short few None h =
    let room : is_over (length (map entry m) + 1) ≡ false = le-ltb LIMIT (length (map entry m) + 1) (omega (arith, entries m)) in
    ap (λ b. (if b then reply_only (Refused (TooLarge (length (map entry m)))) else install_and_reply (cells.with_value (Int (pos t)) (Int (pos 1)) (dict_of m)) (Value (Int (pos 1)))).installs) room ∙ put_pair t 1 m r
one_by t n m r short few (Some c) h =
    let low : c ≤ n = h in
    ap (λ z. (put_unless_equal (Int (pos t)) (Int (pos c)) (Int (pos z)) (dict_of m)).installs) (small_sum c (omega arith))
    ∙ ap (λ b. (if b then reply_only (Value (Int (pos (c + 1)))) else install_and_reply (cells.with_value (Int (pos t)) (Int (pos (c + 1))) (dict_of m)) (Value (Int (pos (c + 1))))).installs) (not_before c)
    ∙ put_pair t (c + 1) m r

one_count : (t n : ℕ) (m : Counts) → RisesFrom 0 m → length m ≤ n → AreUpTo n m → n < LIMIT → (cell (count_call t) (dict_of m)).installs ≡ Some (dict_of (counted m t))
one_count t n m r short up few =
    ap (λ o. (add_or_update (Int (pos t)) (Int (pos 1)) (Plus (pos 1)) (dict_of m) o).installs) (value_is t m) ∙ one_by t n m r short few (count_at t m) (found_up_to t n m up)

-- ---- all calls

all_counted : (ts : List ℕ) (i n : ℕ) (m : Counts) → RisesFrom 0 m → length m ≤ n → AreUpTo n m → n + length ts ≤ LIMIT
    → fold stepped (i, dict_of m) (map count_call ts) ≡ (i + length ts, dict_of (fold counted m ts))
all_counted [] i n m r short up few =
    let e : i ≡ i + 0 = omega arith in
    ap (λ k. (k, dict_of m)) e
all_counted (t ∷ ts) i n m r short up few =
    let next : ℕ = next_count (count_at t m) in
    let e : i + 1 + length ts ≡ i + length (t ∷ ts) = omega arith in
    let fewer : n < LIMIT = omega arith in
    let rest : n + 1 + length ts ≤ LIMIT = omega arith in
    let grown : length (counted m t) ≤ n + 1 = omega (arith, longer t next m) in
    ap (λ o. fold stepped (moved (i, dict_of m) o) (map count_call ts)) (one_count t n m r short up fewer)
    ∙ all_counted ts (i + 1) (n + 1) (counted m t) (rises t next 0 m (omega arith) r) grown (up_to t next (n + 1) m (next_up_to n (count_at t m) (found_up_to t n m up)) (more_up_to n m up)) rest
    ∙ ap (λ k. (k, dict_of (fold counted (counted m t) ts))) e

pub counts_told : (ts : List ℕ) → length ts ≤ LIMIT → fold stepped (0, dict_of []) (map count_call ts) ≡ (0 + length ts, dict_of (fold counted [] ts))
counts_told ts few = all_counted ts 0 0 [] tt (omega arith) tt (omega arith)
