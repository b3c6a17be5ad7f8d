use Rattle.std.proofs.Common.{◌≡◌, ◌<◌, [], ◌∷◌, ◌++◌, ◌+◌, take, length, map, ap, sym, subst, ◌∙◌, arith, List}
use Rattle.std.proofs.lemmas.List.{map-append, take_more}
use Rattle.plain_model.specs.declared.report.CellDecl.{CellDecl}
use Rattle.interlocked.specs.Known.{Known, Shared}
use Rattle.workers.specs.Opened.{AreCells, all_passes}
use Rattle.workers.proofs.Begins.{cells_snoc}
use Rattle.workers.proofs.opening.open_all.Goals as goal

pub loop-decl-preserved : goal.loop-decl-preserved
loop-decl-preserved c =
    let n = c.args.workers in
    let decls = c.args.decls.now in
    let place = c.loop-decl.decl-index in
    let cells = c.loop-decl.cells.items in
    let its = c.in_ok-cell.its in
    let decl = c.decl-item.result in
    let cell = c.in_ok-cell.cell in
    let below : place < length decls = omega arith in
    let more : take (place + 1) decls ≡ take place decls ++ decl ∷ [] = take_more decls place decl below ∙ ap (λ (d : CellDecl). take place decls ++ d ∷ []) (sym c.decl-item.is) in record {
      cells = subst (λ (ds : List CellDecl). AreCells n ds c.push.new.self.items) (sym more)
          (subst (λ (cs : List Shared). AreCells n (take place decls ++ decl ∷ []) cs) (sym c.in_ok-push.ensures.items) (cells_snoc n (take place decls) cells decl cell c.loop-decl.invariant.cells c.in_ok-cell.ensures.cell));
      passes = ap (map (λ its. its.items)) c.in_ok-push-2.ensures.items ∙ (map-append (λ its. its.items) c.loop-decl.passes.items (its ∷ [])
          ∙ (ap (λ (ps : List (List Known)). ps ++ its.items ∷ []) c.loop-decl.invariant.passes ∙ (ap (λ (p : List Known). map all_passes cells ++ p ∷ []) c.in_ok-cell.ensures.passes
          ∙ (sym (map-append all_passes cells (cell ∷ [])) ∙ ap (map all_passes) (sym c.in_ok-push.ensures.items)))));
    }
