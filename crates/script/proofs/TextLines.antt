-- The lines of a text that is written line by line.
use Rattle.std.proofs.Common.{◌≡◌, ℕ, ◌-◌, true, false, List, [], ◌∷◌, ◌++◌, map, length, get_or, refl, ap, ◌∙◌, arith, append_assoc}
use Rattle.std.specs.Prelude.{◌==◌}
use Rattle.std.specs.List.{flat_map, list_all, AllByRecursion}
use Rattle.std.specs.Str.Lines.{lines, lines_of_parts, strip_carriage_return}
use Rattle.std.proofs.lemmas.Bool.Decides.{nat_tests}
use Rattle.std.proofs.lemmas.List.Sums.{AllPass-from_list_all}
use Rattle.std.proofs.lemmas.List.Splits.{slice_split_at}
use Rattle.plain_model.specs.Text.{spaced, line}
use Rattle.script.specs.Parser.{is_allowed}
use Rattle.script.proofs.Passes.{words_allowed}
use Rattle.script.proofs.FirstLines.{ends_line, rest_parts}
use Rattle.script_line.proofs.WrittenWords.{AreWords}
use Rattle.script_line.proofs.ReadAgain.{Words}

not_feed : (b : ℕ) → is_allowed b ≡ true → (b == 10) ≡ false
not_feed b e = grind (arith, nat_tests)

not_return : (b : ℕ) → is_allowed b ≡ true → (b == 13) ≡ false
not_return b e = grind (arith, nat_tests)

strip-allowed : (text : List ℕ) → list_all is_allowed text ≡ true → strip_carriage_return text ≡ text
strip-allowed [] e = refl
strip-allowed (b ∷ bs) e =
    let at : is_allowed (get_or (b ∷ bs) (length (b ∷ bs) - 1) 0) ≡ true = AllPass-from_list_all is_allowed (b ∷ bs) e (length (b ∷ bs) - 1) 0 (omega arith) in
    rw (not_return (get_or (b ∷ bs) (length (b ∷ bs) - 1) 0) at) refl

one_line : (text rest : List ℕ) → list_all is_allowed text ≡ true → lines (text ++ 10 ∷ rest) ≡ text ∷ lines rest
one_line text rest e =
    ap lines_of_parts (slice_split_at ends_line text 10 rest (λ k d lt. not_feed (get_or text k d) (AllPass-from_list_all is_allowed text e k d lt)) refl)
    ∙ rest_parts text rest ∙ ap (λ (first : List ℕ). first ∷ lines rest) (strip-allowed text e)

pub lines-written : (all : List Words) → AllByRecursion AreWords all → lines (flat_map line all) ≡ map spaced all
lines-written [] h = refl
lines-written (ws ∷ all) h =
    ap lines (append_assoc (spaced ws) (10 ∷ []) (flat_map line all)) ∙ one_line (spaced ws) (flat_map line all) (words_allowed ws h.0) ∙ ap (λ (more : List (List ℕ)). spaced ws ∷ more) (lines-written all h.1)
