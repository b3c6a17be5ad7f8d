-- What the parser has checked can be done.
use Rattle.std.proofs.Common.{◌≡◌, suc, ◌<◌, Bool, true, false, ◌&&◌, List, [], ◌∷◌, length, None, Some, Ok, Err, refl, ap, sym, subst, ◌∙◌, arith}
use Rattle.std.specs.Prelude.{Option, Result, option_map, if◌then◌else◌, bytes_eq, slice_get}
use Rattle.std.specs.List.{AllByRecursion}
use Rattle.std.proofs.lemmas.Slice.Eq.{bytes_eq-Decides}
use Rattle.imm_base.specs.declared.val.Val.{Val}
use Rattle.imm_base.specs.declared.comparers.ValOrder.{ValOrder}
use Rattle.imm_base.specs.declared.comparers.ValOrder.TheVariants as orders
use Rattle.imm_base.specs.declared.comparers.ValEq.{ValEq}
use Rattle.imm_base.specs.declared.comparers.ValEq.TheVariants as equalities
use Rattle.plain_model.specs.declared.plain.Kind.{Kind}
use Rattle.plain_model.specs.declared.plain.Kind.TheVariants as kinds
use Rattle.plain_model.specs.declared.plain.Comparer.{Comparer}
use Rattle.plain_model.specs.declared.plain.Comparer.TheVariants as comparers
use Rattle.plain_model.specs.declared.plain.Values.{Values}
use Rattle.plain_model.specs.declared.plain.Plain.{Plain}
use Rattle.plain_model.specs.declared.kinds.ItemKind.{ItemKind}
use Rattle.plain_model.specs.declared.kinds.ItemKind.TheVariants.{Elements, Pairs}
use Rattle.plain_model.specs.declared.names.Class.{Class}
use Rattle.plain_model.specs.declared.names.Class.TheVariants as classes
use Rattle.plain_model.specs.declared.commands.PlainOp.{PlainOp}
use Rattle.plain_model.specs.declared.commands.Query.{Query}
use Rattle.plain_model.specs.declared.commands.Command.{Command}
use Rattle.plain_model.specs.declared.commands.Command.TheVariants as commands
use Rattle.plain_model.specs.declared.history.Refusal.{Refusal}
use Rattle.plain_model.specs.declared.report.Answer.{Answer}
use Rattle.plain_model.specs.declared.report.Answer.TheVariants as answers
use Rattle.plain_model.specs.declared.report.CellDecl.{CellDecl}
use Rattle.plain_model.specs.declared.report.Part.{Part}
use Rattle.plain_model.specs.declared.report.Script.{Script}
use Rattle.plain_model.specs.Comparers.{order_named, equality_named, name_of_order, name_of_equality, comparer_eq, with_comparer, has_comparer}
use Rattle.plain_model.specs.Kinds.{is_kind, items_of_kind, items_of_op}
use Rattle.plain_model.specs.Names.{Name, Bindings, get, with_name, contents_kind}
use Rattle.plain_model.specs.Sources.{are_within, query_values, op_with_values, query_with_values}
use Rattle.plain_model.specs.Plain.{Shape, list_like, stack_like, queue_like, set_like, map_like, shape_of, made, nothing, plain}
use Rattle.plain_model.specs.Queries.{answer, shown}
use Rattle.plain_model.specs.Locals.{◌>>=◌, Locals, no_locals, Given, gives, Bound, bind, bound, collection, builder, array_builder, frozen, walk, Frozen, array_of, frozen_contents, frozen_answer, count_answer, as_collection, contents, collection_at, contents_at, source, op_from, query_from, new_given, edited, let_given, rekeyed, shape_rekeyed, pairs_or_present, rekey, rekey_given, ask_given, local}
use Rattle.locals.specs.Bound.{has_answer, can_answer}
use Rattle.locals.specs.Commands.{set_of, map_of}
use Rattle.runs.specs.Places.{cell_place, kinds_of, AreApart}
use Rattle.runs.specs.Needs.{CanDo, Leaves, IsAnswered, CanDoAll, CanBegin}
use Rattle.runs.proofs.OneCell.{made_kind, let_kind}
use Rattle.script_line.specs.Lines.{command_values}
use Rattle.script.specs.Symbols.{Binding, cell_kind, with_bound}
use Rattle.script.specs.Commands.{binding, class_answers}
use Rattle.script.specs.Commands as script
use Rattle.script.specs.Ready.{AreReady, AreDistinct, HasFirst, IsReady}
use Rattle.workers.specs.Scripts.{CanRun}
use Rattle.script.proofs.Checked.{check_binding, dictionary_checked, stack_checked, queue_checked, update_checked, read_checked, publish_checked, new_checked, let_checked, rekey_checked, ask_checked, show_checked, frozen_set_checked, frozen_map_checked, HasContents, HasSource}

clash : (b : Bool) → b ≡ true → b ≡ false → ⊥
clash b t f = cc

same_bytes : (x y : Name) → bytes_eq x y ≡ true → x ≡ y
same_bytes x y e = (bytes_eq-Decides x y).0 e

bytes_same : (x y : Name) → x ≡ y → bytes_eq x y ≡ true
bytes_same x y e = (bytes_eq-Decides x y).1 e

turned : (x y : Name) (b : Bool) → bytes_eq x y ≡ b → bytes_eq y x ≡ b
turned x y true is = bytes_same y x (sym (same_bytes x y is))
turned x y false is = by (bytes_eq y x) refl
  where
    by : (c : Bool) → bytes_eq y x ≡ c → bytes_eq y x ≡ false
    by true at = absurd (clash (bytes_eq x y) (bytes_same x y (sym (same_bytes y x at))) is)
    by false at = at

-- ---- cells

none_named : (cells : List CellDecl) (name : Name) → cell_kind cells name ≡ None → AllByRecursion (λ e. bytes_eq name e.name ≡ false) cells
none_named [] name e = tt
none_named (c ∷ cells) name e = split (bytes_eq c.name name) refl e (none_named cells name)
  where
    split : (t : Bool) → bytes_eq c.name name ≡ t → (if t then Some c.kind else cell_kind cells name) ≡ None → (cell_kind cells name ≡ None → AllByRecursion (λ e. bytes_eq name e.name ≡ false) cells)
        → (bytes_eq name c.name ≡ false) × AllByRecursion (λ e. bytes_eq name e.name ≡ false) cells
    split true is e rest = absurd cc
    split false is e rest = (turned c.name name false is, rest e)

are_apart : (cells : List CellDecl) → AreDistinct cells → AreApart cells
are_apart [] d = tt
are_apart (c ∷ cells) d = (none_named cells c.name d.0, are_apart cells d.1)

can_begin : (cells : List CellDecl) → AllByRecursion HasFirst cells → AllByRecursion CanBegin cells
can_begin [] all = tt
can_begin (c ∷ cells) all = (record { first = all.0.first; within = all.0.within; made = all.0.made }, can_begin cells all.1)

-- a cell that is declared has a place, with its kind
record HasPlace (cells : List CellDecl) (name : Name) (k : Kind) : Type 0 where
  pub place : cell_place cells name < length cells
  pub kind : slice_get (kinds_of cells) (cell_place cells name) ≡ Some k

has_place : (cells : List CellDecl) (name : Name) (k : Kind) → cell_kind cells name ≡ Some k → HasPlace cells name k
has_place [] name k e = absurd cc
has_place (c ∷ cells) name k e = split (bytes_eq c.name name) refl e (has_place cells name k)
  where
    split : (t : Bool) → bytes_eq c.name name ≡ t → (if t then Some c.kind else cell_kind cells name) ≡ Some k → (cell_kind cells name ≡ Some k → HasPlace cells name k) → HasPlace (c ∷ cells) name k
    split true is e rest =
        let at : cell_place (c ∷ cells) name ≡ 0 = ap (λ t. if t then 0 else suc (cell_place cells name)) is in
        record { place = omega arith; kind = ap (slice_get (kinds_of (c ∷ cells))) at ∙ e }
    split false is e rest =
        let h = rest e in
        let at : cell_place (c ∷ cells) name ≡ suc (cell_place cells name) = ap (λ t. if t then 0 else suc (cell_place cells name)) is in
        record { place = let p = h.place in omega arith; kind = ap (slice_get (kinds_of (c ∷ cells))) at ∙ h.kind }

-- ---- names

-- the class of what a name is bound to
abbrev class_of : Bound → Class
class_of (collection p) = classes.Collection p.kind
class_of (builder b) = classes.Builder b.contents.kind
class_of (array_builder b) = classes.Builder kinds.Array
class_of (frozen f) = classes.Frozen (frozen_contents f).kind
class_of (walk h) = classes.Walk

-- a name is bound to something of the class that the parser knows
record HasValue (class : Class) (s : Locals) (x : Name) : Type 0 where
  pub value : Bound
  pub class_is : class ≡ class_of value
  pub is : bound s x ≡ Some value

abbrev HaveKinds : Bindings Class → Locals → Type 0
HaveKinds names s = (x : Name) (class : Class) → get names x ≡ Some class → HasValue class s x

-- what a name is bound to, where another one is bound
get-with_name : {T : Type 0} (x : Name) (v : T) (names : Bindings T) (y : Name) → get (with_name x v names) y ≡ (if bytes_eq x y then Some v else get names y)
get-with_name x v [] y = refl
get-with_name {T} x v (b ∷ names) y = split (bytes_eq b.0 x) (bytes_eq b.0 y) (bytes_eq x y) refl refl refl (get-with_name x v names y)
  where
    split : (t u w : Bool) → bytes_eq b.0 x ≡ t → bytes_eq b.0 y ≡ u → bytes_eq x y ≡ w → get (with_name x v names) y ≡ (if w then Some v else get names y)
        → get (if t then (x, v) ∷ names else b ∷ with_name x v names) y ≡ (if w then Some v else (if u then Some b.1 else get names y))
    split true u true et eu ew rest = ap (λ (z : Bool). if z then Some v else get names y) ew
    split true true false et eu ew rest = absurd (clash (bytes_eq x y) (bytes_same x y (sym (same_bytes b.0 x et) ∙ same_bytes b.0 y eu)) ew)
    split true false false et eu ew rest = ap (λ (z : Bool). if z then Some v else get names y) ew
    split false true true et eu ew rest = absurd (clash (bytes_eq b.0 x) (bytes_same b.0 x (same_bytes b.0 y eu ∙ sym (same_bytes x y ew))) et)
    split false true false et eu ew rest = ap (λ (z : Bool). if z then Some b.1 else get (with_name x v names) y) eu
    split false false w et eu ew rest = ap (λ (z : Bool). if z then Some b.1 else get (with_name x v names) y) eu ∙ rest

have_more : (names : Bindings Class) (s : Locals) (x : Name) (v : Bound) → HaveKinds names s → HaveKinds (with_name x (class_of v) names) (bind x v s)
have_more names s x v have y class e = split (bytes_eq x y) refl (sym (get-with_name x (class_of v) names y) ∙ e)
  where
    split : (t : Bool) → bytes_eq x y ≡ t → (if bytes_eq x y then Some (class_of v) else get names y) ≡ Some class → HasValue class (bind x v s) y
    split true is e =
        let at : Some (class_of v) ≡ Some class = ap (λ (t : Bool). if t then Some (class_of v) else get names y) (sym is) ∙ e in
        let same : class_of v ≡ class = cc in
        record { value = v; class_is = sym same; is = get-with_name x v s.names y ∙ ap (λ (t : Bool). if t then Some v else bound s y) is }
    split false is e =
        let h = have y class (ap (λ (t : Bool). if t then Some (class_of v) else get names y) (sym is) ∙ e) in
        record { value = h.value; class_is = h.class_is; is = get-with_name x v s.names y ∙ (ap (λ (t : Bool). if t then Some v else bound s y) is ∙ h.is) }

-- a name bound with the class that its value has
have_bound : (names : Bindings Class) (s after : Locals) (x : Name) (c : Class) (v : Bound) (b : Option Binding) → HaveKinds names s → class_of v ≡ c → after ≡ bind x v s → b ≡ Some (x, c)
    → HaveKinds (with_bound names b) after
have_bound names s after x c v b have class is binds =
    subst (λ (o : Option Binding). HaveKinds (with_bound names o) after) (sym binds)
    (subst (λ d. HaveKinds (with_name x d names) after) class (subst (HaveKinds (with_name x (class_of v) names)) (sym is) (have_more names s x v have)))

-- a collection bound with its kind
have_collection : (names : Bindings Class) (s after : Locals) (x : Name) (k : Kind) (p : Plain) (b : Option Binding) → HaveKinds names s → p.kind ≡ k → after ≡ bind x (collection p) s → b ≡ script.collection x k
    → HaveKinds (with_bound names b) after
have_collection names s after x k p b have kind is binds = have_bound names s after x (classes.Collection k) (collection p) b have (ap classes.Collection kind) is binds

have_same : (names : Bindings Class) (s after : Locals) (b : Option Binding) → HaveKinds names s → after ≡ s → b ≡ None → HaveKinds (with_bound names b) after
have_same names s after b have is none = subst (λ (o : Option Binding). HaveKinds (with_bound names o) after) (sym none) (subst (HaveKinds names) (sym is) have)

-- ---- what names stand for

-- a name that is bound to a collection of this kind
record HasPlain (s : Locals) (x : Name) (k : Kind) : Type 0 where
  pub value : Plain
  pub kind : value.kind ≡ k
  pub is : collection_at s x ≡ Some value

collection_of : (names : Bindings Class) (s : Locals) (x : Name) (k : Kind) → HaveKinds names s → get names x ≡ Some (classes.Collection k) → HasPlain s x k
collection_of names s x k have e = let h = have x (classes.Collection k) e in by h.value h.class_is h.is
  where
    by : (v : Bound) → classes.Collection k ≡ class_of v → bound s x ≡ Some v → HasPlain s x k
    by (collection p) class is = record { value = p; kind = cc; is = ap (λ b. b >>= as_collection) is }
    by _ class is = absurd cc

-- a name that is bound to what has these contents
record HasElements (s : Locals) (x : Name) : Type 0 where
  pub value : Plain
  pub is : contents_at s x ≡ Some value

contents_plain : (names : Bindings Class) (s : Locals) (x : Name) (k : Kind) → HaveKinds names s → HasContents names x k → HasElements s x
contents_plain names s x k have c =
    let h = have x c.class c.is in by h.value (ap contents_kind (sym h.class_is) ∙ c.kind) h.is
  where
    by : (v : Bound) → contents_kind (class_of v) ≡ Some k → bound s x ≡ Some v → HasElements s x
    by (collection p) kind is = record { value = p; is = ap (λ b. b >>= contents) is }
    by (builder b) kind is = record { value = b.contents; is = ap (λ b. b >>= contents) is }
    by (array_builder b) kind is = record { value = array_of b.contents; is = ap (λ b. b >>= contents) is }
    by (frozen f) kind is = record { value = frozen_contents f; is = ap (λ b. b >>= contents) is }
    by (walk h) kind is = absurd cc

-- the values that a command is given
source_there : (names : Bindings Class) (s : Locals) (needed : ItemKind) (src : Values) (from : Option Name) → HaveKinds names s → HasSource names needed from → (vs : Values) × (source s src from ≡ Some vs)
source_there names s needed src None have h = (src, refl)
source_there names s needed src (Some x) have h =
    let p = contents_plain names s x h.kind have h.has in
    (p.value.values, ap (option_map (λ (q : Plain). q.values)) p.is)

op_there : (names : Bindings Class) (s : Locals) (needed : ItemKind) (op : PlainOp) (from : Option Name) → HaveKinds names s → HasSource names needed from → (o : PlainOp) × (op_from s op from ≡ Some o)
op_there names s needed op None have h = (op, refl)
op_there names s needed op (Some x) have h =
    let p = contents_plain names s x h.kind have h.has in
    (op_with_values op p.value.values, ap (option_map (λ (q : Plain). op_with_values op q.values)) p.is)

query_there : (names : Bindings Class) (s : Locals) (needed : ItemKind) (query : Query) (from : Option Name) → HaveKinds names s → HasSource names needed from → (q : Query) × (query_from s query from ≡ Some q)
query_there names s needed query None have h = (query, refl)
query_there names s needed query (Some x) have h =
    let p = contents_plain names s x h.kind have h.has in
    (query_with_values query p.value.values, ap (option_map (λ (q : Plain). query_with_values query q.values)) p.is)

-- ---- kinds

order_same : (a b : ValOrder) → comparer_eq (name_of_order b) (name_of_order a) ≡ true → a ≡ b
order_same orders.Ordinal orders.Ordinal e = refl
order_same orders.Reverse orders.Reverse e = refl
order_same orders.NoCase orders.NoCase e = refl
order_same _ _ e = cc

equality_same : (a b : ValEq) → comparer_eq (name_of_equality b) (name_of_equality a) ≡ true → a ≡ b
equality_same equalities.Ordinal equalities.Ordinal e = refl
equality_same equalities.NoCase equalities.NoCase e = refl
equality_same equalities.One equalities.One e = refl
equality_same _ _ e = cc

kind_same : (a b : Kind) → is_kind a b ≡ true → a ≡ b
kind_same kinds.List kinds.List e = refl
kind_same kinds.Array kinds.Array e = refl
kind_same kinds.Stack kinds.Stack e = refl
kind_same kinds.Queue kinds.Queue e = refl
kind_same (kinds.SSet a) (kinds.SSet b) e = ap kinds.SSet (order_same a b e)
kind_same (kinds.SMap a) (kinds.SMap b) e = ap kinds.SMap (order_same a b e)
kind_same (kinds.Dict a) (kinds.Dict b) e = ap kinds.Dict (equality_same a b e)
kind_same (kinds.HSet a) (kinds.HSet b) e = ap kinds.HSet (equality_same a b e)
kind_same _ _ e = cc

order_own : (order : ValOrder) (c : Comparer) → comparer_eq c (name_of_order order) ≡ true → order_named c ≡ Some order
order_own orders.Ordinal comparers.Ordinal e = refl
order_own orders.Reverse comparers.Reverse e = refl
order_own orders.NoCase comparers.NoCase e = refl
order_own _ _ e = cc

equality_own : (eq : ValEq) (c : Comparer) → comparer_eq c (name_of_equality eq) ≡ true → equality_named c ≡ Some eq
equality_own equalities.Ordinal comparers.Ordinal e = refl
equality_own equalities.NoCase comparers.NoCase e = refl
equality_own equalities.One comparers.One e = refl
equality_own _ _ e = cc

-- a kind with its own comparer
own_comparer : (kind : Kind) (c : Comparer) → has_comparer kind c ≡ true → with_comparer kind c ≡ Some kind
own_comparer (kinds.SSet order) c e = ap (option_map kinds.SSet) (order_own order c e)
own_comparer (kinds.SMap order) c e = ap (option_map kinds.SMap) (order_own order c e)
own_comparer (kinds.Dict eq) c e = ap (option_map kinds.Dict) (equality_own eq c e)
own_comparer (kinds.HSet eq) c e = ap (option_map kinds.HSet) (equality_own eq c e)
own_comparer _ c e = cc

-- ---- local commands

-- the names after a command that the model answers
after_answer : (c : Command) (s after : Locals) (g : Given) → local c s ≡ Some g → IsAnswered c s after → after ≡ g.after
after_answer c s after g is a = by (sym a.is ∙ is)
  where
    by : Some (gives a.answer after) ≡ Some g → after ≡ g.after
    by e = let same : gives a.answer after ≡ g = cc in ap (λ (x : Given). x.after) same

-- the names after a command bind a name to a collection of this kind
record BindsKind (x : Name) (k : Kind) (s after : Locals) : Type 0 where
  pub value : Plain
  pub kind : value.kind ≡ k
  pub binds : after ≡ bind x (collection value) s

new_binds : (x : Name) (kind : Kind) (vs : Values) (s : Locals) (r : Result Plain Refusal) → made kind vs ≡ r → BindsKind x kind s (new_given x kind r s).after
new_binds x kind vs s (Ok p) is = record { value = p; kind = made_kind kind vs p is; binds = refl }
new_binds x kind vs s (Err e) is = record { value = nothing kind; kind = refl; binds = refl }

rekeyed_binds : (y : Name) (p : Plain) (k : Kind) (s : Locals) (own : Bool) (r : Result Plain Refusal) → (own ≡ true → p.kind ≡ k) → ((q : Plain) → r ≡ Ok q → q.kind ≡ k)
    → BindsKind y k s (if own then gives answers.Same (bind y (collection p) s) else rekey_given y k r s).after
rekeyed_binds y p k s true r same keeps = record { value = p; kind = same refl; binds = refl }
rekeyed_binds y p k s false (Ok q) same keeps = record { value = q; kind = keeps q refl; binds = refl }
rekeyed_binds y p k s false (Err e) same keeps = record { value = nothing k; kind = refl; binds = refl }

-- a collection under another comparer has the kind that it has then
rekeyed_kind : (kind : Kind) (vs : Values) (q : Plain) → rekeyed kind vs ≡ Ok q → q.kind ≡ kind
rekeyed_kind kind vs q e = by_shape (shape_of kind) e
  where
    present : (r : Result (List (Val × Val)) Val) → pairs_or_present kind r ≡ Ok q → q.kind ≡ kind
    present (Ok ps) e = cc
    present (Err u) e = cc

    by_shape : (s : Shape) → shape_rekeyed s kind vs ≡ Ok q → q.kind ≡ kind
    by_shape list_like e = cc
    by_shape stack_like e = cc
    by_shape queue_like e = cc
    by_shape set_like e = cc
    by_shape map_like e = present _ e

-- what a name is bound to answers a question that its class answers
has_its_answer : (query : Query) (v : Bound) → class_answers (class_of v) query ≡ true → has_answer query v ≡ true
has_its_answer query (frozen f) e = e
has_its_answer query _ e = refl

asked_there : (query q : Query) (v : Bound) (s : Locals) → class_answers (class_of v) query ≡ true → (a : Answer) × (ask_given q v s ≡ Some (gives a s))
asked_there query q (collection p) s e = (answer q p, refl)
asked_there query q (builder b) s e = (answer q b.contents, refl)
asked_there query q (array_builder b) s e = (answer q (array_of b.contents), refl)
asked_there query q (frozen f) s e = (frozen_answer f q, refl)
asked_there query q (walk h) s e = absurd cc

-- what `frozenset` and `frozenmap` give
abbrev frozen_given : Name → Frozen → Locals → Given
frozen_given x f s = gives (count_answer (frozen_contents f)) (bind x (frozen f) s)

-- ---- a row for each command

record CanGoOn (cells : List CellDecl) (names : Bindings Class) (c : Command) (b : Option Binding) (s : Locals) : Type 0 where
  pub can : CanDo cells c s
  pub kinds : (after : Locals) → Leaves cells c s after → HaveKinds (with_bound names b) after

both : (a b : Bool) → a ≡ true → b ≡ true → (a && b) ≡ true
both true b e f = f
both false b e f = e

-- a call that cells of one kind alone have
called_goes_on : (cells : List CellDecl) (names : Bindings Class) (c : Command) (b : Option Binding) (s : Locals) (cell : Name) (kind : Kind) → HaveKinds names s → cell_kind cells cell ≡ Some kind → b ≡ None
    → (slice_get (kinds_of cells) (cell_place cells cell) ≡ Some kind → CanDo cells c s) → ((after : Locals) → Leaves cells c s after → after ≡ s) → CanGoOn cells names c b s
called_goes_on cells names c b s cell kind have is none can same = record {
  can = can (has_place cells cell kind is).kind;
  kinds = λ after leaves. have_same names s after b have (same after leaves) none;
}

can_go_on : (cells : List CellDecl) (names : Bindings Class) (c : Command) (b : Option Binding) (s : Locals) → HaveKinds names s → binding cells names c ≡ Ok b → are_within (command_values c) ≡ true → CanGoOn cells names c b s
unfolding binding
can_go_on cells names (commands.Update cell op) b s have ok within =
    let r = update_checked cells names cell op b ok in
    record {
      can = record { kind = r.0; at = (has_place cells cell r.0 r.1).kind; suits = within };
      kinds = λ after leaves. have_same names s after b have leaves r.3;
    }
can_go_on cells names (commands.Read cell x) b s have ok within =
    let r = read_checked cells names cell x b ok in
    let h = has_place cells cell r.0 r.1 in
    record {
      can = h.place;
      kinds = λ after leaves. have_collection names s after x r.0 leaves.value b have (by (sym leaves.kind ∙ h.kind)) leaves.binds r.2;
    }
  where
    by : {k l : Kind} → Some k ≡ Some l → k ≡ l
    by e = cc
can_go_on cells names (commands.Publish cell x) b s have ok within =
    let r = publish_checked cells names cell x b ok in
    let h = has_place cells cell r.0 r.2 in
    let p = collection_of names s x r.1 have r.3 in
    record {
      can = record { value = p.value; is = p.is; kind = h.kind ∙ ap (λ (k : Kind). Some k) (kind_same r.0 r.1 r.4 ∙ sym p.kind) };
      kinds = λ after leaves. have_same names s after b have leaves r.5;
    }
can_go_on cells names (commands.GetOrAdd cell k v) b s have ok within =
    let r = dictionary_checked cells cell b ok in called_goes_on cells names (commands.GetOrAdd cell k v) b s cell r.0 have r.1 r.2 (λ at. record { kind = r.0; at = at; suits = tt }) (λ after h. h)
can_go_on cells names (commands.AddOrUpdate cell k v t) b s have ok within =
    let r = dictionary_checked cells cell b ok in called_goes_on cells names (commands.AddOrUpdate cell k v t) b s cell r.0 have r.1 r.2 (λ at. record { kind = r.0; at = at; suits = tt }) (λ after h. h)
can_go_on cells names (commands.TryAdd cell k v) b s have ok within =
    let r = dictionary_checked cells cell b ok in called_goes_on cells names (commands.TryAdd cell k v) b s cell r.0 have r.1 r.2 (λ at. record { kind = r.0; at = at; suits = tt }) (λ after h. h)
can_go_on cells names (commands.TryUpdate cell k v u) b s have ok within =
    let r = dictionary_checked cells cell b ok in called_goes_on cells names (commands.TryUpdate cell k v u) b s cell r.0 have r.1 r.2 (λ at. record { kind = r.0; at = at; suits = tt }) (λ after h. h)
can_go_on cells names (commands.TryRemove cell k) b s have ok within =
    let r = dictionary_checked cells cell b ok in called_goes_on cells names (commands.TryRemove cell k) b s cell r.0 have r.1 r.2 (λ at. record { kind = r.0; at = at; suits = tt }) (λ after h. h)
can_go_on cells names (commands.Push cell v) b s have ok within =
    let r = stack_checked cells cell b ok in called_goes_on cells names (commands.Push cell v) b s cell r.0 have r.1 r.2 (λ at. record { kind = r.0; at = at; suits = tt }) (λ after h. h)
can_go_on cells names (commands.TryPop cell) b s have ok within =
    let r = stack_checked cells cell b ok in called_goes_on cells names (commands.TryPop cell) b s cell r.0 have r.1 r.2 (λ at. record { kind = r.0; at = at; suits = tt }) (λ after h. h)
can_go_on cells names (commands.Enqueue cell v) b s have ok within =
    let r = queue_checked cells cell b ok in called_goes_on cells names (commands.Enqueue cell v) b s cell r.0 have r.1 r.2 (λ at. record { kind = r.0; at = at; suits = tt }) (λ after h. h)
can_go_on cells names (commands.TryDequeue cell) b s have ok within =
    let r = queue_checked cells cell b ok in called_goes_on cells names (commands.TryDequeue cell) b s cell r.0 have r.1 r.2 (λ at. record { kind = r.0; at = at; suits = tt }) (λ after h. h)
can_go_on cells names (commands.AddOrUpdateMade cell k make t) b s have ok within =
    let r = dictionary_checked cells cell b ok in called_goes_on cells names (commands.AddOrUpdateMade cell k make t) b s cell r.0 have r.1 r.2 (λ at. record { kind = r.0; at = at; suits = tt }) (λ after h. h)
can_go_on cells names (commands.New x kind src from) b s have ok within =
    let r = new_checked cells names x kind src from b ok in
    let vs = source_there names s (items_of_kind kind) src from have r.0 in
    let g = new_given x kind (made kind vs.0) s in
    let is : local (commands.New x kind src from) s ≡ Some g = ap (λ v. v >>= λ us. Some (new_given x kind (made kind us) s)) vs.1 in
    let n = new_binds x kind vs.0 s (made kind vs.0) refl in
    record {
      can = record { built = within; given = g; is = is };
      kinds = λ after leaves. have_collection names s after x kind n.value b have n.kind (after_answer (commands.New x kind src from) s after g is leaves ∙ n.binds) r.1;
    }
can_go_on cells names (commands.Let y x op from) b s have ok within =
    let r = let_checked cells names y x op from b ok in
    let p = collection_of names s x r.0 have r.1 in
    let o = op_there names s (items_of_op op) op from have r.3 in
    let g = let_given y p.value (plain o.0 p.value) s in
    let is : local (commands.Let y x op from) s ≡ Some g =
    ap (λ v. v >>= λ q. op_from s op from >>= λ t. Some (let_given y q (plain t q) s)) p.is ∙ ap (λ v. v >>= λ t. Some (let_given y p.value (plain t p.value) s)) o.1 in
    record {
      can = record { built = within; given = g; is = is };
      kinds = λ after leaves. have_collection names s after y r.0 (edited p.value (plain o.0 p.value)) b have (let_kind o.0 p.value ∙ p.kind)
          (after_answer (commands.Let y x op from) s after g is leaves) r.4;
    }
can_go_on cells names (commands.Rekey y x comparer) b s have ok within =
    let r = rekey_checked cells names y x comparer b ok in
    let p = collection_of names s x r.0 have r.2 in
    let l = r.1 in
    let at : with_comparer p.value.kind comparer ≡ Some l = ap (λ k. with_comparer k comparer) p.kind ∙ r.3 in
    let g = rekey y p.value comparer l s in
    let is : local (commands.Rekey y x comparer) s ≡ Some g =
    ap (λ v. v >>= λ q. with_comparer q.kind comparer >>= λ k. Some (rekey y q comparer k s)) p.is ∙ ap (λ v. v >>= λ k. Some (rekey y p.value comparer k s)) at in
    let n = rekeyed_binds y p.value l s (has_comparer p.value.kind comparer) (rekeyed l p.value.values) (λ own. by (sym (own_comparer p.value.kind comparer own) ∙ at)) (rekeyed_kind l p.value.values) in
    record {
      can = record { built = refl; given = g; is = is };
      kinds = λ after leaves. have_collection names s after y l n.value b have n.kind (after_answer (commands.Rekey y x comparer) s after g is leaves ∙ n.binds) r.4;
    }
  where
    by : {k l : Kind} → Some k ≡ Some l → k ≡ l
    by e = cc
can_go_on cells names (commands.Ask x query from) b s have ok within =
    let r = ask_checked cells names x query from b ok in
    let h = have x r.0 r.1 in
    let q = query_there names s Elements query from have r.3 in
    let answered : class_answers (class_of h.value) query ≡ true = ap (λ c. class_answers c query) (sym h.class_is) ∙ r.2 in
    let a = asked_there query q.0 h.value s answered in
    let is : local (commands.Ask x query from) s ≡ Some (gives a.0 s) =
    ap (λ v. v >>= λ c. query_from s query from >>= λ t. ask_given t c s) h.is ∙ (ap (λ v. v >>= λ t. ask_given t h.value s) q.1 ∙ a.1) in
    record {
      can = record { built = both (are_within (query_values query)) (can_answer query (bound s x)) within (ap (can_answer query) h.is ∙ has_its_answer query h.value answered); given = gives a.0 s; is = is };
      kinds = λ after leaves. have_same names s after b have (after_answer (commands.Ask x query from) s after (gives a.0 s) is leaves) r.4;
    }
can_go_on cells names (commands.Show x) b s have ok within =
    let r = show_checked cells names x b ok in
    let p = contents_plain names s x r.0 have r.1 in
    let g = gives (shown p.value.values) s in
    let is : local (commands.Show x) s ≡ Some g = ap (λ v. v >>= λ q. Some (gives (shown q.values) s)) p.is in
    record {
      can = record { built = refl; given = g; is = is };
      kinds = λ after leaves. have_same names s after b have (after_answer (commands.Show x) s after g is leaves) r.2;
    }
can_go_on cells names (commands.FrozenSet x eq src from) b s have ok within =
    let r = frozen_set_checked cells names x eq src from b ok in
    let vs = source_there names s Elements src from have r.0 in
    let f = set_of eq vs.0 in
    let g = frozen_given x f s in
    let is : local (commands.FrozenSet x eq src from) s ≡ Some g = ap (λ v. v >>= λ us. Some (frozen_given x (set_of eq us) s)) vs.1 in
    record {
      can = record { built = within; given = g; is = is };
      kinds = λ after leaves. have_bound names s after x (classes.Frozen (kinds.HSet eq)) (frozen f) b have refl (after_answer (commands.FrozenSet x eq src from) s after g is leaves) r.1;
    }
can_go_on cells names (commands.FrozenMap x eq src from) b s have ok within =
    let r = frozen_map_checked cells names x eq src from b ok in
    let vs = source_there names s Pairs src from have r.0 in
    let f = map_of eq vs.0 in
    let g = frozen_given x f s in
    let is : local (commands.FrozenMap x eq src from) s ≡ Some g = ap (λ v. v >>= λ us. Some (frozen_given x (map_of eq us) s)) vs.1 in
    record {
      can = record { built = within; given = g; is = is };
      kinds = λ after leaves. have_bound names s after x (classes.Frozen (kinds.Dict eq)) (frozen f) b have refl (after_answer (commands.FrozenMap x eq src from) s after g is leaves) r.1;
    }
can_go_on cells names _ b s have ok within = absurd cc

-- ---- parts

can_do_all : (cells : List CellDecl) (cs : List Command) (names : Bindings Class) (s : Locals) → HaveKinds names s → AreReady cells names cs → CanDoAll cells cs s
can_do_all cells [] names s have ready = tt
can_do_all cells (c ∷ cs) names s have ready =
    let is = ready.0 in
    let g = can_go_on cells names c is.bound s have (check_binding cells names c is.bound is.checked) is.within in
    (g.can, λ after leaves. can_do_all cells cs (with_bound names is.bound) after (g.kinds after leaves) ready.1)

no_names : HaveKinds [] no_locals
no_names x class e = absurd cc

can_do_parts : (cells : List CellDecl) (parts : List Part) → AllByRecursion (λ p. AreReady cells [] p.commands) parts → AllByRecursion (λ p. CanDoAll cells p.commands no_locals) parts
can_do_parts cells [] all = tt
can_do_parts cells (p ∷ parts) all = (can_do_all cells p.commands [] no_locals no_names all.0, can_do_parts cells parts all.1)

-- ---- scripts

pub can_run : (script : Script) → IsReady script → CanRun script
can_run script ready = record {
  apart = are_apart script.cells ready.distinct;
  begin = can_begin script.cells ready.first;
  count = ready.parts;
  few = ready.few;
  can = can_do_parts script.cells script.parts ready.ready;
}
