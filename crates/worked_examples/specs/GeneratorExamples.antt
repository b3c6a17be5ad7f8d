-- The summaries of two generated scripts.
use Rattle.std.specs.Prelude.{◌≡◌, ◌++◌, ℕ, List, [], ◌∷◌, codes}
use Rattle.std.specs.List.{flat_map}
use Rattle.plain_model.specs.declared.report.Report.{Report}
use Rattle.plain_model.specs.Generator.{generated, IsSummary}
use Rattle.plain_model.specs.Lawful.{Lawful}
use Rattle.plain_model.specs.Text.{end_line}

abbrev pub lines_text : List (List ℕ) → List ℕ
lines_text lines = flat_map (λ l. l ++ end_line) lines

-- the number has a summary of these lines, and no other
pub record HasSummary (n : ℕ) (lines : List (List ℕ)) : Type 0 where
  pub has : IsSummary n (lines_text lines)
  pub only : (text : List ℕ) → IsSummary n text → text ≡ lines_text lines

abbrev pub summary_of_0 : List (List ℕ)
summary_of_0 =
    codes "gen 0"
    ∷ codes "commands 16000"
    ∷ codes "cell D dict ordinal installs 4000 final 100 first 0=40"
    ∷ codes "cell S stack installs 4000 final 4000 first 18"
    ∷ codes "cell Q queue installs 4000 final 4000 first 14"
    ∷ codes "cell L list installs 4000 final 4000 first 21"
    ∷ codes "end"
    ∷ []

abbrev pub summary_of_7 : List (List ℕ)
summary_of_7 =
    codes "gen 7"
    ∷ codes "commands 16000"
    ∷ codes "cell D dict ordinal installs 4000 final 100 first 0=40"
    ∷ codes "cell S stack installs 4000 final 4000 first 25"
    ∷ codes "cell Q queue installs 4000 final 4000 first 21"
    ∷ codes "cell L list installs 4000 final 4000 first 28"
    ∷ codes "end"
    ∷ []

pub record GeneratorExamples : Type 0 where
  -- the script of any number has a lawful report of one worker
  pub reports : (n : ℕ) → (r : Report) × Lawful (generated n) 1 r
  pub of_0 : HasSummary 0 summary_of_0
  pub of_7 : HasSummary 7 summary_of_7
