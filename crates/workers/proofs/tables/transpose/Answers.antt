use Rattle.std.proofs.Common.{◌≡◌, ◌<◌, ◌++◌, ◌∷◌, ◌∙◌, [], ap, sym, arith, length, map, append_assoc}
use Rattle.workers.specs.Tables.{entries_at}
use Rattle.workers.proofs.Columns.{column_snoc, columns_are, all_yielded, next_has}
use Rattle.workers.proofs.tables.transpose.Goals as goal

pub push_row-requires : goal.push_row-requires
push_row-requires g c =
    let inv = c.loop-row.invariant in
    let wide : length c.in-Some.row.items ≡ c.args.width = next_has (λ row. length row ≡ c.args.width) (λ row. row.items) c.loop-row.yielded c.in-Some.row c.next.new.self.rest.items c.args.rows.items (ap (λ xs. c.loop-row.yielded ++ xs) (sym c.in-Some.ensures.steps.0) ∙ inv.left) c.requires in
    wide ∙ sym inv.many

pub loop-row-preserved : goal.loop-row-preserved
loop-row-preserved g c =
    let inv = c.loop-row.invariant in
    let push = c.in_ok-push_row.ensures in
    let step = c.in-Some.ensures.steps in
    let row = c.in-Some.row in
    let count = ap length step.0 in record {
      left = append_assoc c.loop-row.yielded (row ∷ []) c.next.new.self.rest.items ∙ (ap (λ xs. c.loop-row.yielded ++ xs) (sym step.0) ∙ inv.left);
      count = omega (arith, inv.count, step.1, count);
      many = push.many ∙ inv.many;
      each = λ k d lt.
          let low : k < length c.loop-row.columns.items = omega (arith, inv.many) in
          let wide : length row.items ≡ c.args.width = next_has (λ row. length row ≡ c.args.width) (λ row. row.items) c.loop-row.yielded row c.next.new.self.rest.items c.args.rows.items (ap (λ xs. c.loop-row.yielded ++ xs) (sym step.0) ∙ inv.left) c.requires in
          column_snoc (λ row. row.items) k c.loop-row.yielded row _ _ (omega (arith, wide)) (λ x. push.each k d x low) (inv.each k d lt);
    }

pub returns : goal.returns
returns g c =
    let inv = c.loop-row.invariant in
    let all : c.loop-row.yielded ≡ c.args.rows.items = all_yielded c.loop-row.yielded c.loop-row.row-iterator.rest.items c.args.rows.items (inv.count ∙ c.in-None.ensures.steps.0) inv.left in
    columns_are (λ column. column.items) c.args.width (map (λ row. row.items) c.args.rows.items) c.loop-row.columns.items inv.many
    (λ k d lt. inv.each k d lt ∙ ap (λ rows. entries_at k (map (λ row. row.items) rows)) all)
