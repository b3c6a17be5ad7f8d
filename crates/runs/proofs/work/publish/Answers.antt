use Rattle.std.proofs.Common.{◌≡◌, refl, ap, sym, subst, ◌∙◌, ◌∷◌, [], ◌++◌, None, Some, false, true, ℕ}
use Rattle.std.specs.Prelude.{nat_lt}
use Rattle.std.specs.Option.{option_copied}
use Rattle.plain_model.specs.declared.limits.TheConstants.{PUBLISH_LIMIT}
use Rattle.plain_model.specs.declared.plain.Plain.{Plain}
use Rattle.plain_model.specs.declared.commands.PlainCall.TheVariants as calls
use Rattle.plain_model.specs.declared.commands.Command.TheVariants as commands
use Rattle.plain_model.specs.declared.history.Refusal.TheVariants.{Publish}
use Rattle.plain_model.specs.declared.report.Answer.TheVariants.{Refused}
use Rattle.plain_model.specs.declared.report.LocalLine.{LocalLine}
use Rattle.plain_model.specs.Plain.{count}
use Rattle.plain_model.specs.Locals.{collection_at}
use Rattle.plain_model.specs.Work.{local_line}
use Rattle.runs.specs.Notes.{Makes}
use Rattle.runs.specs.Places.{cell_place}
use Rattle.runs.specs.Works.{refused_line}
use Rattle.runs.proofs.Deeds.{call_is_done, line_is_done, published, refused, kind_within, some_same}
use Rattle.runs.proofs.work.publish.Goals as goal

pub call_cell-requires-clause-may : goal.call_cell-requires-clause-may
call_cell-requires-clause-may g c =
    let can = c.requires.can in
    let p = c.in-Some.value.now in
    let is : collection_at c.args.worker.now.names c.args.name.now ≡ Some p = sym c.collection.ensures ∙ ap option_copied c.in-Some.is in
    let same : p ≡ can.value = some_same p can.value (sym is ∙ can.is) in
    record { kind = can.value.kind; at = can.kind; suits = ap (λ (v : Plain). v.kind) (c.in_ok-share.ensures ∙ same); probe = refl }

pub returns-clause-done : goal.returns-clause-done
returns-clause-done g c =
    let can = c.requires.can in
    let m = c.args.worker.now.names in
    let x = c.args.name.now in
    let p = c.in-Some.value.now in
    let is : collection_at m x ≡ Some p = sym c.collection.ensures ∙ ap option_copied c.in-Some.is in
    let small : nat_lt PUBLISH_LIMIT (count p.values) ≡ false = ap (nat_lt PUBLISH_LIMIT) (sym c.count-count.ensures.count) ∙ (sym c.is_too_large.ensures ∙ c.if-is_too_large.false) in
    let place = cell_place c.args.decls.now c.args.cell.now in
    let made = subst (λ (v : Plain). Makes g.T.Cells.makes c.args.cells.now place c.args.ordinal (calls.Publish v) None c.call_cell.new.cells) c.in_ok-share.ensures c.in_ok-call_cell.ensures.makes in
    call_is_done g.T.Cells.makes c.args.decls.now c.requires.apart c.args.cells.now c.call_cell.new.cells c.args.cell.now c.args.ordinal
    (commands.Publish c.args.cell.now x) (calls.Publish p) c.args.worker.now c.args.worker.now refl refl (published x c.args.cell.now p c.args.ordinal m is small)
    (kind_within c.args.decls.now c.args.cell.now can.value.kind can.kind) made

pub returns-then-is_too_large-clause-done : goal.returns-then-is_too_large-clause-done
returns-then-is_too_large-clause-done g c =
    let m = c.args.worker.now.names in
    let x = c.args.name.now in
    let p = c.in-Some.value.now in
    let is : collection_at m x ≡ Some p = sym c.collection.ensures ∙ ap option_copied c.in-Some.is in
    let large : nat_lt PUBLISH_LIMIT (count p.values) ≡ true = ap (nat_lt PUBLISH_LIMIT) (sym c.count-count.ensures.count) ∙ (sym c.is_too_large.ensures ∙ c.if-is_too_large.true) in
    let l : ℕ → LocalLine = refused_line c.args.ordinal c.args.cell.now x in
    line_is_done g.T.Cells.makes c.args.decls.now c.args.cells.now c.args.ordinal (commands.Publish c.args.cell.now x) (l (count p.values)) c.args.worker.now c.push_line.new.worker
    c.in_ok-push_line.ensures.names
    (λ reports n. refused x c.args.cell.now p c.args.ordinal m is large reports n ∙ ap (λ a. Some (record { deed = local_line (l (count p.values)); after = a })) (sym c.in_ok-push_line.ensures.names))
    (c.in_ok-push_line.ensures.lines
    ∙ (ap (λ n. c.args.worker.now.lines ++ record { ordinal = c.args.ordinal; command = c.args.command.now; answer = Refused (Publish n) } ∷ []) c.count-count.ensures.count
    ∙ ap (λ q. c.args.worker.now.lines ++ record { ordinal = c.args.ordinal; command = q; answer = Refused (Publish (count p.values)) } ∷ []) c.requires.is))
