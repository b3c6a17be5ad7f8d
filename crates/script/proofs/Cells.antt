-- What is known of a cell that is checked.
use Rattle.std.proofs.Common.{◌≡◌, Bool, true, false, not, ◌||◌, List, Ok, refl, ap}
use Rattle.std.specs.Prelude.{is_none}
use Rattle.plain_model.specs.declared.plain.Kind.{Kind}
use Rattle.plain_model.specs.declared.plain.Kind.TheVariants as kinds
use Rattle.plain_model.specs.declared.plain.Values.{Values}
use Rattle.plain_model.specs.declared.plain.Values.TheVariants as values
use Rattle.plain_model.specs.declared.report.CellDecl.{CellDecl}
use Rattle.plain_model.specs.declared.report.Version.{Version}
use Rattle.plain_model.specs.declared.report.Version.TheVariants as versions
use Rattle.plain_model.specs.Kinds.{is_cell_kind}
use Rattle.plain_model.specs.Plain.{first_value, is_unset, made}
use Rattle.plain_model.proofs.SetValues.{first_value_of}
use Rattle.script_line.specs.declared.codes.Code.{Code}
use Rattle.script_line.specs.declared.codes.Code.TheVariants as codes
use Rattle.script_line.proofs.Judgements.{both_ok}
use Rattle.script_line.proofs.ReadAgain.{both}
use Rattle.script.specs.Symbols.{cell_kind, require}
use Rattle.script.specs.Parser.{may_begin, checked_cell}

pub required : (code : Code) (t : Bool) (u : Unit {0}) → require code t ≡ Ok u → t ≡ true
required code true u e = refl
required code false u e = absurd cc

-- a cell that passes is declared once, of a kind that it may have
pub cell_checked : (version : Version) (cells : List CellDecl) (cell : CellDecl) (u : Unit {0} × Unit {0}) → checked_cell version cells cell ≡ Ok u
    → (is_none (cell_kind cells cell.name) ≡ true) × (may_begin version cell ≡ true)
cell_checked version cells cell u e =
    let b = both_ok (require codes.Name (is_none (cell_kind cells cell.name))) (require codes.Kind (may_begin version cell)) u e in
    (required codes.Name (is_none (cell_kind cells cell.name)) u.0 b.0, required codes.Kind (may_begin version cell) u.1 b.1)

-- one that passes in the first version passes in the last one
may_begin_too : (version : Version) (cell : CellDecl) → may_begin version cell ≡ true → may_begin versions.Two cell ≡ true
may_begin_too versions.Two cell e = e
may_begin_too versions.One cell e = ap (λ b. b || not (is_unset cell.values)) e

pub cell_checked_too : (version : Version) (cells : List CellDecl) (cell : CellDecl) (u : Unit {0} × Unit {0}) → checked_cell version cells cell ≡ Ok u → checked_cell versions.Two cells cell ≡ Ok u
cell_checked_too version cells cell u e =
    let b = both_ok (require codes.Name (is_none (cell_kind cells cell.name))) (require codes.Kind (may_begin version cell)) u e in
    let may = may_begin_too version cell (required codes.Kind (may_begin version cell) u.1 b.1) in
    both (require codes.Name (is_none (cell_kind cells cell.name))) (require codes.Kind (may_begin versions.Two cell)) u b.0 (ap (require codes.Kind) may)

-- ---- what a cell begins with

set_first : (k : Kind) (vs : Values) → (is_cell_kind k || not (is_unset vs)) ≡ true → first_value k vs ≡ made k vs
set_first kinds.Array values.Unset e = absurd cc
set_first kinds.Array vs e = refl
set_first k vs e = first_value_of k vs refl

-- a cell that passes begins with its first contents
pub begins_with_contents : (version : Version) (cell : CellDecl) → may_begin version cell ≡ true → first_value cell.kind cell.values ≡ made cell.kind cell.values
begins_with_contents version cell e = set_first cell.kind cell.values (may_begin_too version cell e)
