-- What names stand for, and what questions and other comparers come to.
use Rattle.std.proofs.Common.{◌≡◌, Bool, true, false, None, Some, Ok, Err, refl, ap, sym, ◌∙◌}
use Rattle.std.specs.Prelude.{Option, Result, option_map, if◌then◌else◌}
use Rattle.imm_base.specs.declared.val.Edit.TheVariants.{Same}
use Rattle.plain_model.specs.declared.plain.Kind.{Kind}
use Rattle.plain_model.specs.declared.plain.Comparer.{Comparer}
use Rattle.plain_model.specs.declared.plain.Plain.{Plain}
use Rattle.plain_model.specs.declared.plain.Values.{Values}
use Rattle.plain_model.specs.declared.commands.PlainOp.{PlainOp}
use Rattle.plain_model.specs.declared.commands.Query.{Query}
use Rattle.plain_model.specs.declared.commands.Query.TheVariants as queries
use Rattle.plain_model.specs.declared.commands.Command.TheVariants as commands
use Rattle.plain_model.specs.declared.history.Refusal.{Refusal}
use Rattle.plain_model.specs.declared.report.Answer.TheVariants as answers
use Rattle.plain_model.specs.Comparers.{with_comparer, has_comparer}
use Rattle.plain_model.specs.Names.{Name}
use Rattle.plain_model.specs.Sources.{op_with_values, query_with_values}
use Rattle.collections.specs.Frozen.{frozen_set_answers, frozen_map_answers}
use Rattle.locals.specs.Bound.{has_answer, can_answer}
use Rattle.plain_model.specs.Locals.{◌>>=◌, Locals, Given, gives, Bound, bind, bound, collection, frozen, frozen_set, frozen_map, contents, collection_at, contents_at, op_from, query_from, ask_given, rekeyed, rekey, rekey_given, local}
use Rattle.collections.specs.Changes.{new_or_refused, rekeyed_by}
use Rattle.locals.specs.declared.results.LocalResult.{LocalResult}
use Rattle.locals.specs.Results.{given_of}
use Rattle.locals.specs.Commands.{asked, rekey_result}

-- ---- what a name stands for

pub contents_of_bound : {A : Type 0} (s : Locals) (x : Name) (b : Bound) (f : Plain → A) (a : A) → Some b ≡ bound s x → option_map f (contents b) ≡ Some a → Some a ≡ option_map f (contents_at s x)
contents_of_bound s x b f a at is = sym is ∙ ap (λ o. option_map f (o >>= contents)) at

pub contents_of_unbound : {A : Type 0} (s : Locals) (x : Name) (f : Plain → A) → None ≡ bound s x → None ≡ option_map f (contents_at s x)
contents_of_unbound s x f at = ap (λ o. option_map f (o >>= contents)) at

-- an operation and a question on the values of a name
made_from : {A B C : Type 0} (o : Option A) (f : A → B) (g : B → C) (b : B) → Some b ≡ option_map f o → option_map (λ a. g (f a)) o ≡ Some (g b)
made_from None f g b e = cc
made_from (Some a) f g b e = let same : b ≡ f a = cc in ap (λ c. Some (g c)) (sym same)

pub op_from_values : (s : Locals) (op : PlainOp) (x : Name) (vs : Values) → Some vs ≡ option_map (λ p. p.values) (contents_at s x) → op_from s op (Some x) ≡ Some (op_with_values op vs)
op_from_values s op x vs e = made_from (contents_at s x) (λ p. p.values) (op_with_values op) vs e

pub query_from_values : (s : Locals) (query : Query) (x : Name) (vs : Values) → Some vs ≡ option_map (λ p. p.values) (contents_at s x) → query_from s query (Some x) ≡ Some (query_with_values query vs)
query_from_values s query x vs e = made_from (contents_at s x) (λ p. p.values) (query_with_values query) vs e

-- none where the name stands for nothing
none_from : {A B C : Type 0} (o : Option A) (f : A → B) (g : A → C) → None ≡ option_map f o → option_map g o ≡ None
none_from None f g e = refl
none_from (Some a) f g e = absurd cc

pub op_from_nothing : (s : Locals) (op : PlainOp) (x : Name) → None ≡ option_map (λ p. p.values) (contents_at s x) → op_from s op (Some x) ≡ None
op_from_nothing s op x e = none_from (contents_at s x) (λ p. p.values) (λ p. op_with_values op p.values) e

pub query_from_nothing : (s : Locals) (query : Query) (x : Name) → None ≡ option_map (λ p. p.values) (contents_at s x) → query_from s query (Some x) ≡ None
query_from_nothing s query x e = none_from (contents_at s x) (λ p. p.values) (λ p. query_with_values query p.values) e

-- ---- questions

frozen_set_on : (query : Query) (vs : Values) → frozen_set_answers query ≡ true → frozen_set_answers (query_with_values query vs) ≡ true
frozen_set_on queries.Count vs e = refl
frozen_set_on (queries.Contains v) vs e = refl
frozen_set_on (queries.Actual v) vs e = refl
frozen_set_on queries.Strategy vs e = refl
frozen_set_on _ vs e = absurd cc

frozen_map_on : (query : Query) (vs : Values) → frozen_map_answers query ≡ true → frozen_map_answers (query_with_values query vs) ≡ true
frozen_map_on queries.Count vs e = refl
frozen_map_on (queries.Lookup k) vs e = refl
frozen_map_on (queries.KeyOf k) vs e = refl
frozen_map_on queries.Keys vs e = refl
frozen_map_on queries.Values vs e = refl
frozen_map_on queries.Strategy vs e = refl
frozen_map_on _ vs e = absurd cc

-- a question that is answered is answered on other values
pub has_answer_on : (query : Query) (vs : Values) (b : Bound) → has_answer query b ≡ true → has_answer (query_with_values query vs) b ≡ true
has_answer_on query vs (frozen (frozen_set eq xs)) e = frozen_set_on query vs e
has_answer_on query vs (frozen (frozen_map eq ps)) e = frozen_map_on query vs e
has_answer_on query vs _ e = refl

pub has_answer_at : (s : Locals) (x : Name) (query : Query) (b : Bound) → Some b ≡ bound s x → can_answer query (bound s x) ≡ true → has_answer query b ≡ true
has_answer_at s x query b at can = ap (can_answer query) at ∙ can

pub ask_given_of : (s : Locals) (x : Name) (query : Query) (from : Option Name) (b : Bound) (g : Option Given) → Some b ≡ bound s x → g ≡ asked (query_from s query from) b s
    → g ≡ local (commands.Ask x query from) s
ask_given_of s x query from b g at is = is ∙ ap (λ o. o >>= λ c. query_from s query from >>= λ q. ask_given q c s) at

-- ---- comparers

rekey_result_of : (y : Name) (p : Plain) (comparer : Comparer) (kind : Kind) (s : Locals) → given_of (rekey_result y p kind (rekeyed_by comparer kind p)) s ≡ rekey y p comparer kind s
rekey_result_of y p comparer kind s = split (has_comparer p.kind comparer) (rekeyed kind p.values)
  where
    split : (own : Bool) (r : Result Plain Refusal) → given_of (rekey_result y p kind (if own then Ok Same else new_or_refused r)) s
        ≡ (if own then gives answers.Same (bind y (collection p) s) else rekey_given y kind r s)
    split true r = refl
    split false (Ok q) = refl
    split false (Err e) = refl

pub rekey_given_of : (y x : Name) (p : Plain) (comparer : Comparer) (kind : Kind) (s : Locals) (r : LocalResult) → collection_at s x ≡ Some p → with_comparer p.kind comparer ≡ Some kind
    → r ≡ rekey_result y p kind (rekeyed_by comparer kind p) → Some (given_of r s) ≡ local (commands.Rekey y x comparer) s
rekey_given_of y x p comparer kind s r at has is =
    ap (λ t. Some (given_of t s)) is ∙ (ap Some (rekey_result_of y p comparer kind s)
    ∙ sym (ap (λ v. v >>= λ q. with_comparer q.kind comparer >>= λ k. Some (rekey y q comparer k s)) at ∙ ap (λ k. k >>= λ l. Some (rekey y p comparer l s)) has))
