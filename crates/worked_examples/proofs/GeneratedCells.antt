-- What the calls of a generated script make of each cell.
use Rattle.std.specs.Prelude.{◌≡◌, codes, ℕ, ◌+◌, ◌≤◌, List, [], ◌∷◌, ◌++◌, length, map, fold, Some, Ok, Err, if◌then◌else◌}
use Rattle.std.proofs.Common.{refl, ap, sym, ◌∙◌, arith, append_assoc, length-append}
use Rattle.std.proofs.lemmas.Bool.{le-ltb}
use Rattle.imm_base.specs.declared.TheConstants.{LIMIT}
use Rattle.imm_base.specs.declared.val.Val.{Val}
use Rattle.imm_base.specs.declared.val.Edit.TheVariants.{New}
use Rattle.imm_base.specs.Edits.{is_over, too_large}
use Rattle.imm_base.specs.declared.comparers.ValEq.TheVariants as equalities
use Rattle.plain_model.specs.declared.report.CellDecl.{CellDecl}
use Rattle.plain_model.specs.declared.plain.Kind.TheVariants as kinds
use Rattle.plain_model.specs.declared.plain.Values.TheVariants as values
use Rattle.plain_model.specs.declared.plain.Plain.{Plain}
use Rattle.plain_model.specs.declared.commands.PlainOp.TheVariants as ops
use Rattle.plain_model.specs.declared.commands.PlainCall.{PlainCall}
use Rattle.plain_model.specs.declared.commands.PlainCall.TheVariants as calls
use Rattle.plain_model.specs.Plain.{of_list}
use Rattle.plain_model.specs.Cell.{cell, update}
use Rattle.worked_examples.proofs.Generated.{moved, stepped}

-- ---- the cells, empty at first

abbrev pub dict_cell : CellDecl
dict_cell = record { name = codes "D"; kind = kinds.Dict equalities.Ordinal; values = values.Pairs [] }

abbrev pub stack_cell : CellDecl
stack_cell = record { name = codes "S"; kind = kinds.Stack; values = values.List [] }

abbrev pub queue_cell : CellDecl
queue_cell = record { name = codes "Q"; kind = kinds.Queue; values = values.List [] }

abbrev pub list_cell : CellDecl
list_cell = record { name = codes "L"; kind = kinds.List; values = values.List [] }

-- ---- values put into a collection, each as one install

abbrev Puts : (Val → PlainCall) → (List Val → Plain) → (List Val → Val → List Val) → Type 0
Puts call of onto = (v : Val) (xs : List Val) → length xs + 1 ≤ LIMIT → (cell (call v) (of xs)).installs ≡ Some (of (onto xs v))

all_put : (call : Val → PlainCall) (of : List Val → Plain) (onto : List Val → Val → List Val) (all : List Val → List Val → List Val) → Puts call of onto
    → ((v : Val) (xs : List Val) → length (onto xs v) ≡ length xs + 1) → ((xs : List Val) → all xs [] ≡ xs) → ((v : Val) (xs vs : List Val) → all (onto xs v) vs ≡ all xs (v ∷ vs))
    → (vs : List Val) (n : ℕ) (xs : List Val) → length xs + length vs ≤ LIMIT → fold stepped (n, of xs) (map call vs) ≡ (n + length vs, of (all xs vs))
all_put call of onto all put longer none more [] n xs fits =
    let e : n ≡ n + 0 = omega arith in
    ap (λ m. (m, of xs)) e ∙ ap (λ l. (n + 0, of l)) (sym (none xs))
all_put call of onto all put longer none more (v ∷ vs) n xs fits =
    let room : length xs + 1 ≤ LIMIT = omega arith in
    let rest : length (onto xs v) + length vs ≤ LIMIT = omega (arith, longer v xs) in
    let e : n + 1 + length vs ≡ n + length (v ∷ vs) = omega arith in
    ap (λ o. fold stepped (moved (n, of xs) o) (map call vs)) (put v xs room)
    ∙ all_put call of onto all put longer none more vs (n + 1) (onto xs v) rest
    ∙ ap (λ m. (m, of (all (onto xs v) vs))) e ∙ ap (λ l. (n + length (v ∷ vs), of l)) (more v xs vs)

-- not too many
room_for : (p : Plain) (xs ys : List Val) → length xs + 1 ≤ LIMIT
    → (update (of_list p (if is_over (length xs + 1) then Err (too_large (length xs)) else Ok (New ys)))).installs ≡ Some (record p { values = values.List ys })
room_for p xs ys room = ap (λ b. (update (of_list p (if b then Err (too_large (length xs)) else Ok (New ys)))).installs) (le-ltb LIMIT (length xs + 1) room)

abbrev pub stack_of : List Val → Plain
stack_of xs = record { kind = kinds.Stack; values = values.List xs }

abbrev pub queue_of : List Val → Plain
queue_of xs = record { kind = kinds.Queue; values = values.List xs }

abbrev pub list_of : List Val → Plain
list_of xs = record { kind = kinds.List; values = values.List xs }

abbrev pub on_top : List Val → List Val → List Val
on_top xs vs = fold (λ s v. v ∷ s) xs vs

pub pushed : (vs : List Val) → length vs ≤ LIMIT → fold stepped (0, stack_of []) (map calls.Push vs) ≡ (0 + length vs, stack_of (on_top [] vs))
pushed vs fits = all_put calls.Push stack_of (λ xs v. v ∷ xs) on_top (λ v xs room. room_for (stack_of xs) xs (v ∷ xs) room) (λ v xs. omega arith) (λ xs. refl) (λ v xs vs. refl) vs 0 [] (omega arith)

append_nothing : (xs : List Val) → xs ++ [] ≡ xs
append_nothing [] = refl
append_nothing (x ∷ xs) = ap (λ l. x ∷ l) (append_nothing xs)

pub enqueued : (vs : List Val) → length vs ≤ LIMIT → fold stepped (0, queue_of []) (map calls.Enqueue vs) ≡ (0 + length vs, queue_of vs)
enqueued vs fits = all_put calls.Enqueue queue_of (λ xs v. xs ++ v ∷ []) (λ xs ys. xs ++ ys) (λ v xs room. room_for (queue_of xs) xs (xs ++ v ∷ []) room) (λ v xs. length-append xs (v ∷ []))
    append_nothing (λ v xs ws. append_assoc xs (v ∷ []) ws) vs 0 [] (omega arith)

pub added : (vs : List Val) → length vs ≤ LIMIT → fold stepped (0, list_of []) (map (λ v. calls.Update (ops.Add v)) vs) ≡ (0 + length vs, list_of vs)
added vs fits = all_put (λ v. calls.Update (ops.Add v)) list_of (λ xs v. xs ++ v ∷ []) (λ xs ys. xs ++ ys) (λ v xs room. room_for (list_of xs) xs (xs ++ v ∷ []) room) (λ v xs. length-append xs (v ∷ []))
    append_nothing (λ v xs ws. append_assoc xs (v ∷ []) ws) vs 0 [] (omega arith)
