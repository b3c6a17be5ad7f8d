-- What is made number by number.
use Rattle.std.specs.Prelude.{◌≡◌, ℕ, zero, suc, ◌+◌, List, [], ◌∷◌, ◌++◌, map}
use Rattle.std.proofs.Common.{ap, sym, ◌∙◌, arith, zero-add}
use Rattle.plain_model.specs.declared.commands.Command.{Command}
use Rattle.plain_model.specs.declared.report.CellDecl.{CellDecl}
use Rattle.plain_model.specs.declared.report.Part.{Part}
use Rattle.plain_model.specs.declared.report.Script.{Script}
use Rattle.plain_model.specs.declared.report.Version.TheVariants as versions
use Rattle.plain_model.specs.Frozen.{numbers_from}
use Rattle.plain_model.specs.Generator.{generated_cells, generated}
use Rattle.generator.specs.Beginnings.{first_commands, front_of_part, first_parts}

one_more : {A : Type 0} (f : ℕ → A) (first n : ℕ) → map f (numbers_from first (n + 1)) ≡ map f (numbers_from first n) ++ f (first + n) ∷ []
one_more f first zero = let e : first ≡ first + 0 = omega arith in ap (λ k. f k ∷ []) e
one_more f first (suc n) =
    let e : first + 1 + n ≡ first + suc n = omega arith in
    let s : suc n + 1 ≡ suc (n + 1) = omega arith in
    ap (λ k. map f (numbers_from first k)) s ∙ ap (λ l. f first ∷ l) (one_more f (first + 1) n) ∙ ap (λ k. f first ∷ (map f (numbers_from (first + 1) n) ++ f k ∷ [])) e

pub pushed : {A : Type 0} (f : ℕ → A) (n : ℕ) (front all : List A) (x : A) → all ≡ front ++ x ∷ [] → front ≡ map f (numbers_from 0 n) → x ≡ f n → all ≡ map f (numbers_from 0 (n + 1))
pushed f n front all x e so_far is =
    e ∙ ap (λ l. l ++ x ∷ []) so_far ∙ ap (λ y. map f (numbers_from 0 n) ++ y ∷ []) is ∙ ap (λ k. map f (numbers_from 0 n) ++ f k ∷ []) (sym (zero-add n)) ∙ sym (one_more f 0 n)

abbrev part_of : List Command → Part
part_of commands = record { commands = commands }

pub part_pushed : (n count p : ℕ) (front all : List Part) (commands : List Command) → all ≡ front ++ part_of commands ∷ [] → front ≡ first_parts n count p → commands ≡ first_commands n p count → all ≡ first_parts n count (p + 1)
part_pushed n count p front all commands e so_far is = pushed (front_of_part n count) p front all (part_of commands) e so_far (ap part_of is)

abbrev script_of : List CellDecl → List Part → Script
script_of cells parts = record { version = versions.One; cells = cells; parts = parts }

pub all_made : (n : ℕ) (cells : List CellDecl) (parts : List Part) → cells ≡ generated_cells → parts ≡ first_parts n 4000 4 → script_of cells parts ≡ generated n
all_made n cells parts a b = ap (λ cs. script_of cs parts) a ∙ ap (λ ps. script_of generated_cells ps) b
