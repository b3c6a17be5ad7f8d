-- What unset arrays change is the same as ever where a value is none.
use Rattle.std.proofs.Common.{◌≡◌, Bool, true, false, refl, ap}
use Rattle.plain_model.specs.declared.plain.Kind.{Kind}
use Rattle.plain_model.specs.declared.plain.Kind.TheVariants as kinds
use Rattle.plain_model.specs.declared.plain.Values.{Values}
use Rattle.plain_model.specs.declared.plain.Values.TheVariants as values
use Rattle.plain_model.specs.declared.plain.Plain.{Plain}
use Rattle.plain_model.specs.declared.commands.PlainOp.{PlainOp}
use Rattle.plain_model.specs.declared.commands.PlainCall.TheVariants as calls
use Rattle.plain_model.specs.declared.history.Reply.TheVariants.{Count}
use Rattle.plain_model.specs.Plain.{plain, count, is_unset, first_value, made}
use Rattle.plain_model.specs.Cell.{cell, update, update_by, count_reply, reply_only, is_array}
use Rattle.plain_model.specs.Work.{values_read, value_read}

clash : true ≡ false → ⊥
clash e = cc

update_by_set : (op : PlainOp) (vs : Values) (p : Plain) → is_unset vs ≡ false → update_by op vs p ≡ update (plain op p)
update_by_set op (values.List xs) p e = refl
update_by_set op (values.Pairs ps) p e = refl
update_by_set op (values.Seq first n) p e = refl
update_by_set op values.Unset p e = absurd (clash e)

-- an operation
pub update_of_set : (op : PlainOp) (p : Plain) → is_unset p.values ≡ false → cell (calls.Update op) p ≡ update (plain op p)
update_of_set op p e = update_by_set op p.values p e

count_of_set : (vs : Values) → is_unset vs ≡ false → count_reply vs ≡ Count (count vs)
count_of_set (values.List xs) e = refl
count_of_set (values.Pairs ps) e = refl
count_of_set (values.Seq first n) e = refl
count_of_set values.Unset e = absurd (clash e)

-- a read, and what it binds
pub read_of_set : (p : Plain) → is_unset p.values ≡ false → cell calls.Read p ≡ reply_only (Count (count p.values))
read_of_set p e = ap reply_only (count_of_set p.values e)

values_of_set : (vs : Values) → is_unset vs ≡ false → values_read vs ≡ vs
values_of_set (values.List xs) e = refl
values_of_set (values.Pairs ps) e = refl
values_of_set (values.Seq first n) e = refl
values_of_set values.Unset e = absurd (clash e)

pub value_of_set : (p : Plain) → is_unset p.values ≡ false → value_read p ≡ p
value_of_set p e = ap (λ vs. record p { values = vs }) (values_of_set p.values e)

-- a cell of a kind other than arrays begins with its first contents
pub first_value_of : (kind : Kind) (vs : Values) → is_array kind ≡ false → first_value kind vs ≡ made kind vs
first_value_of kinds.List vs e = refl
first_value_of kinds.Array vs e = absurd (clash e)
first_value_of kinds.Stack vs e = refl
first_value_of kinds.Queue vs e = refl
first_value_of (kinds.SSet order) vs e = refl
first_value_of (kinds.SMap order) vs e = refl
first_value_of (kinds.Dict eq) vs e = refl
first_value_of (kinds.HSet eq) vs e = refl
