-- Cells by their places.
use Rattle.std.specs.Prelude.{◌≡◌, ℕ, suc, List, [], ◌∷◌, map, false, if◌then◌else◌, bytes_eq}
use Rattle.std.specs.List.{AllByRecursion}
use Rattle.plain_model.specs.declared.plain.Kind.{Kind}
use Rattle.plain_model.specs.declared.report.CellDecl.{CellDecl}
use Rattle.plain_model.specs.declared.report.CellReport.{CellReport}
use Rattle.plain_model.specs.Names.{Name}

-- the place of the cell of a name, or the count where it is not declared
abbrev pub cell_place : List CellDecl → Name → ℕ
cell_place [] x = 0
cell_place (d ∷ decls) x = if bytes_eq d.name x then 0 else suc (cell_place decls x)

abbrev pub kinds_of : List CellDecl → List Kind
kinds_of decls = map (λ d. d.kind) decls

abbrev pub decls_in : List CellReport → List CellDecl
decls_in reports = map (λ r. r.cell) reports

-- no two cells have one name
abbrev pub AreApart : List CellDecl → Type 0
AreApart [] = Unit {0}
AreApart (d ∷ ds) = AllByRecursion (λ e. bytes_eq d.name e.name ≡ false) ds × AreApart ds
