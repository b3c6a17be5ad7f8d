-- The order of lines.
use Rattle.std.proofs.Common.{◌≡◌, ℕ, ◌<◌, ◌≤◌, ◌≢◌, ◌==◌, ◌⊎◌, Bool, true, false, ◌||◌, ◌&&◌, nat_lt, arith}
use Rattle.std.proofs.lemmas.Bool.Decides.{nat_tests}
use Rattle.plain_model.specs.declared.history.Line.{Line}
use Rattle.history_merge.specs.Lines.{place_of, is_below}

-- three numbers in order
abbrev pub lex : ℕ → ℕ → ℕ → ℕ → ℕ → ℕ → Bool
lex a b c a' b' c' = nat_lt a a' || ((a == a') && (nat_lt b b' || ((b == b') && nat_lt c c')))

pub lex_trans : (a b c a' b' c' a'' b'' c'' : ℕ) → lex a b c a' b' c' ≡ true → lex a' b' c' a'' b'' c'' ≡ true → lex a b c a'' b'' c'' ≡ true
lex_trans a b c a' b' c' a'' b'' c'' h k = grind (arith, nat_tests)

pub lex_total : (a b c a' b' c' : ℕ) → lex a' b' c' a b c ≡ false → b ≢ b' → lex a b c a' b' c' ≡ true
lex_total a b c a' b' c' h ne = grind (arith, nat_tests)

pub lex_le : (a b c a' b' c' : ℕ) → lex a b c a' b' c' ≡ true → a ≤ a'
lex_le a b c a' b' c' h = grind (arith, nat_tests)

pub lex_apart : (a b c a' b' c' : ℕ) → lex a b c a' b' c' ≡ true → b ≡ b' → c ≡ c' → a < a'
lex_apart a b c a' b' c' h e f = grind (arith, nat_tests)

pub lex_tie : (a b c a' b' c' : ℕ) → lex a b c a' b' c' ≡ true → a ≡ a' → (b < b') ⊎ ((b ≡ b') × (c < c'))
lex_tie a b c a' b' c' h e = grind (arith, nat_tests)

pub below_trans : (x y z : Line) → is_below x y ≡ true → is_below y z ≡ true → is_below x z ≡ true
below_trans x y z h k = lex_trans (place_of x) x.caller x.ordinal (place_of y) y.caller y.ordinal (place_of z) z.caller z.ordinal h k

pub below_total : (x y : Line) → is_below y x ≡ false → x.caller ≢ y.caller → is_below x y ≡ true
below_total x y h ne = lex_total (place_of x) x.caller x.ordinal (place_of y) y.caller y.ordinal h ne

pub lex_above : (a b c a' b' c' : ℕ) → a < a' → lex a b c a' b' c' ≡ true
lex_above a b c a' b' c' h = grind (arith, nat_tests)

pub lex_tied : (a b c a' b' c' : ℕ) → a ≤ a' → b ≡ b' → c < c' → lex a b c a' b' c' ≡ true
lex_tied a b c a' b' c' h e k = grind (arith, nat_tests)
