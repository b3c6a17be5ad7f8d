-- The integers of each sequence that a line says are below 2^63.
use Rattle.std.proofs.Common.{◌≡◌, ℕ, ◌^◌, Bool, true, false, cond, List, [], ◌∷◌, Some, None, Ok, Err, refl, sym}
use Rattle.std.specs.Prelude.{Result, IfOk, ℤ, pos, ◌+ℤ◌, int_le}
use Rattle.std.specs.Prelude.{codes as bytes}
use Rattle.std.specs.Str.{bytes_eq}
use Rattle.plain_model.specs.declared.plain.Values.{Values}
use Rattle.plain_model.specs.declared.plain.Values.TheVariants as values
use Rattle.plain_model.specs.declared.plain.Kind.TheVariants as kinds
use Rattle.plain_model.specs.declared.commands.PlainOp.{PlainOp}
use Rattle.plain_model.specs.declared.commands.PlainOp.TheVariants as ops
use Rattle.plain_model.specs.declared.commands.Query.{Query}
use Rattle.plain_model.specs.declared.commands.Query.TheVariants as queries
use Rattle.plain_model.specs.declared.commands.Command.{Command}
use Rattle.plain_model.specs.declared.commands.Command.TheVariants as commands
use Rattle.plain_model.specs.declared.report.Version.{Version}
use Rattle.plain_model.specs.Sources.{is_within, are_within, op_values, query_values}
use Rattle.imm_base.specs.declared.comparers.ValEq.{ValEq}
use Rattle.script_line.specs.declared.codes.Code.{Code}
use Rattle.script_line.specs.declared.codes.Code.TheVariants.{Value}
use Rattle.script_line.specs.declared.calls.CallWord.{CallWord}
use Rattle.script_line.specs.declared.calls.CallWord.TheVariants as call_words
use Rattle.script_line.specs.declared.line.Keyword.{Keyword}
use Rattle.script_line.specs.declared.line.Keyword.TheVariants as keywords
use Rattle.script_line.specs.declared.line.Line.{Line}
use Rattle.script_line.specs.declared.line.Line.TheVariants as lines
use Rattle.script_line.specs.declared.operations.OpWord.{OpWord}
use Rattle.script_line.specs.declared.operations.OpWord.TheVariants as op_words
use Rattle.script_line.specs.declared.operations.OpWithSource.{OpWithSource}
use Rattle.script_line.specs.declared.queries.QueryWord.{QueryWord}
use Rattle.script_line.specs.declared.queries.QueryWord.TheVariants as query_words
use Rattle.script_line.specs.declared.queries.QueryWithSource.{QueryWithSource}
use Rattle.script_line.specs.declared.contents.KindWord.{KindWord}
use Rattle.script_line.specs.declared.contents.KindWord.TheVariants as kind_words
use Rattle.script_line.specs.declared.contents.KindWithSource.{KindWithSource}
use Rattle.plain_model.specs.declared.kinds.ItemKind.{ItemKind}
use Rattle.plain_model.specs.declared.kinds.ItemKind.TheVariants as item_kinds
use Rattle.script_line.specs.declared.sources.Scope.{Scope}
use Rattle.script_line.specs.declared.sources.Scope.TheVariants as scopes
use Rattle.script_line.specs.declared.sources.Source.{Source}
use Rattle.script_line.specs.Codes.{◌>>=◌, ◌⊗◌}
use Rattle.script_line.specs.Values.{value, pair, integer, number}
use Rattle.script_line.specs.Names.{cell_name, local_name}
use Rattle.script_line.specs.Comparers.{order, equality}
use Rattle.script_line.specs.Arguments.{one, one_and_rest}
use Rattle.script_line.specs.Sources.{each, items, sequence, seq_words, values_of, source_in_line, source_from, source_of}
use Rattle.script_line.specs.Contents.{kind_word, contents_of, contents}
use Rattle.script_line.specs.Operations.{op_word, op_of_words, op}
use Rattle.script_line.specs.Queries.{query_word, query_of_words, query}
use Rattle.script_line.specs.Calls.{call_of_words}
use Rattle.script_line.specs.Lines.{equality_and_source, keyword_of, line_of_words, line_of, command_values, line_is_within, IsWithin}
use Rattle.script_line.proofs.Judgements.{bind_ok, both_ok, made_ok, moved}

abbrev HasWithin : Values → Type 0
HasWithin vs = is_within vs ≡ true

sequence-within : (first : ℤ) (count : ℕ) (vs : Values) → sequence first count ≡ Ok vs → HasWithin vs
sequence-within first count vs e = by_test (int_le (first +ℤ pos count) (pos (2 ^ 63))) refl e
  where
    by_test : (t : Bool) → int_le (first +ℤ pos count) (pos (2 ^ 63)) ≡ t → cond t (Ok (values.Seq first count)) (Err Value) ≡ Ok vs → HasWithin vs
    by_test true is g = moved HasWithin (values.Seq first count) vs g is
    by_test false is g = absurd cc

seq_words-within : (ws : List (List ℕ)) (vs : Values) → seq_words ws ≡ Ok vs → HasWithin vs
seq_words-within (a ∷ n ∷ []) vs e = let b = bind_ok (integer a ⊗ number n) (λ p. sequence p.0 p.1) vs e in sequence-within b.0.0 b.0.1 vs b.2
seq_words-within _ vs e = absurd cc

items-within : (item : ItemKind) (ws : List (List ℕ)) (vs : Values) → items item ws ≡ Ok vs → HasWithin vs
items-within item_kinds.Elements ws vs e = made_ok HasWithin (each value ws) values.List vs e (λ us is. refl)
items-within item_kinds.Pairs ws vs e = made_ok HasWithin (each pair ws) values.Pairs vs e (λ us is. refl)

values_of-within : (item : ItemKind) (ws : List (List ℕ)) (vs : Values) → values_of item ws ≡ Ok vs → HasWithin vs
values_of-within item [] vs e = items-within item [] vs e
values_of-within item (w ∷ ws) vs e = by_test (bytes_eq w (bytes "seq")) e
  where
    by_test : (t : Bool) → cond t (seq_words ws) (items item (w ∷ ws)) ≡ Ok vs → HasWithin vs
    by_test true g = seq_words-within ws vs g
    by_test false g = items-within item (w ∷ ws) vs g

abbrev SourceWithin : Source → Type 0
SourceWithin s = is_within s.values ≡ true

source_in_line-within : (item : ItemKind) (ws : List (List ℕ)) (s : Source) → source_in_line item ws ≡ Ok s → SourceWithin s
source_in_line-within item ws s e = made_ok SourceWithin (values_of item ws) (λ vs. record { values = vs; from = None }) s e (λ vs is. values_of-within item ws vs is)

source_from-within : (scope : Scope) (ws : List (List ℕ)) (s : Source) → source_from scope ws ≡ Ok s → SourceWithin s
source_from-within scopes.Local (x ∷ []) s e = made_ok SourceWithin (local_name x) (λ n. record { values = values.List []; from = Some n }) s e (λ n is. refl)
source_from-within _ _ s e = absurd cc

source_of-within : (scope : Scope) (item : ItemKind) (ws : List (List ℕ)) (s : Source) → source_of scope item ws ≡ Ok s → SourceWithin s
source_of-within scope item [] s e = source_in_line-within item [] s e
source_of-within scope item (w ∷ ws) s e = by_test (bytes_eq w (bytes "from")) e
  where
    by_test : (t : Bool) → cond t (source_from scope ws) (source_in_line item (w ∷ ws)) ≡ Ok s → SourceWithin s
    by_test true g = source_from-within scope ws s g
    by_test false g = source_in_line-within item (w ∷ ws) s g

-- what holds of each reading of the words to the end of the line holds behind a word
rest_ok : {A B : Type 0} (first : List ℕ → Result A Code) (rest : List (List ℕ) → Result B Code) (P : B → Type 0) (ws : List (List ℕ)) (p : A × B)
    → one_and_rest first rest ws ≡ Ok p → ((us : List (List ℕ)) (b : B) → rest us ≡ Ok b → P b) → P p.1
rest_ok first rest P [] p e all = absurd cc
rest_ok first rest P (w ∷ ws) p e all = all ws p.1 (both_ok (first w) (rest ws) p e).1

-- ---- kinds

abbrev ContentsWithin : KindWithSource → Type 0
ContentsWithin d = is_within d.source.values ≡ true

contents_of-within : (scope : Scope) (word : KindWord) (ws : List (List ℕ)) (d : KindWithSource) → contents_of scope word ws ≡ Ok d → ContentsWithin d
contents_of-within scope kind_words.List ws d e = made_ok ContentsWithin (source_of scope item_kinds.Elements ws) _ d e (λ s is. source_of-within scope item_kinds.Elements ws s is)
contents_of-within scope kind_words.Array ws d e = made_ok ContentsWithin (source_of scope item_kinds.Elements ws) _ d e (λ s is. source_of-within scope item_kinds.Elements ws s is)
contents_of-within scope kind_words.Stack ws d e = made_ok ContentsWithin (source_of scope item_kinds.Elements ws) _ d e (λ s is. source_of-within scope item_kinds.Elements ws s is)
contents_of-within scope kind_words.Queue ws d e = made_ok ContentsWithin (source_of scope item_kinds.Elements ws) _ d e (λ s is. source_of-within scope item_kinds.Elements ws s is)
contents_of-within scope kind_words.SSet ws d e =
    made_ok ContentsWithin (one_and_rest order (source_of scope item_kinds.Elements) ws) (λ p. record { kind = kinds.SSet p.0; source = p.1 }) d e
    (λ p is. rest_ok order (source_of scope item_kinds.Elements) SourceWithin ws p is (source_of-within scope item_kinds.Elements))
contents_of-within scope kind_words.SMap ws d e =
    made_ok ContentsWithin (one_and_rest order (source_of scope item_kinds.Pairs) ws) (λ p. record { kind = kinds.SMap p.0; source = p.1 }) d e
    (λ p is. rest_ok order (source_of scope item_kinds.Pairs) SourceWithin ws p is (source_of-within scope item_kinds.Pairs))
contents_of-within scope kind_words.Dict ws d e =
    made_ok ContentsWithin (one_and_rest equality (source_of scope item_kinds.Pairs) ws) (λ p. record { kind = kinds.Dict p.0; source = p.1 }) d e
    (λ p is. rest_ok equality (source_of scope item_kinds.Pairs) SourceWithin ws p is (source_of-within scope item_kinds.Pairs))
contents_of-within scope kind_words.HSet ws d e =
    made_ok ContentsWithin (one_and_rest equality (source_of scope item_kinds.Elements) ws) (λ p. record { kind = kinds.HSet p.0; source = p.1 }) d e
    (λ p is. rest_ok equality (source_of scope item_kinds.Elements) SourceWithin ws p is (source_of-within scope item_kinds.Elements))

contents-within : (scope : Scope) (ws : List (List ℕ)) (d : KindWithSource) → contents scope ws ≡ Ok d → ContentsWithin d
unfolding contents
contents-within scope [] d e = absurd cc
contents-within scope (w ∷ ws) d e = let b = bind_ok (kind_word w) (λ k. contents_of scope k ws) d e in contents_of-within scope b.0 ws d b.2

-- ---- operations: those with so many words have no sequence

abbrev HasNone : PlainOp → Type 0
HasNone o = op_values o ≡ None

abbrev OpWithin : OpWithSource → Type 0
OpWithin s = are_within (op_values s.op) ≡ true

op_of_words-within : (scope : Scope) (word : OpWord) (ws : List (List ℕ)) (s : OpWithSource) → op_of_words scope word ws ≡ Ok s → OpWithin s
op_of_words-within scope op_words.AddRange ws s e = made_ok OpWithin (source_of scope item_kinds.Elements ws) (λ t. record { op = ops.AddRange t.values; from = t.from }) s e (λ t is. source_of-within scope item_kinds.Elements ws t is)
op_of_words-within scope op_words.Union ws s e = made_ok OpWithin (source_of scope item_kinds.Elements ws) (λ t. record { op = ops.Union t.values; from = t.from }) s e (λ t is. source_of-within scope item_kinds.Elements ws t is)
op_of_words-within scope op_words.Intersect ws s e = made_ok OpWithin (source_of scope item_kinds.Elements ws) (λ t. record { op = ops.Intersect t.values; from = t.from }) s e (λ t is. source_of-within scope item_kinds.Elements ws t is)
op_of_words-within scope op_words.Except ws s e = made_ok OpWithin (source_of scope item_kinds.Elements ws) (λ t. record { op = ops.Except t.values; from = t.from }) s e (λ t is. source_of-within scope item_kinds.Elements ws t is)
op_of_words-within scope op_words.SymExcept ws s e = made_ok OpWithin (source_of scope item_kinds.Elements ws) (λ t. record { op = ops.SymExcept t.values; from = t.from }) s e (λ t is. source_of-within scope item_kinds.Elements ws t is)
op_of_words-within scope op_words.AddPairs ws s e = made_ok OpWithin (source_of scope item_kinds.Pairs ws) (λ t. record { op = ops.AddPairs t.values; from = t.from }) s e (λ t is. source_of-within scope item_kinds.Pairs ws t is)
op_of_words-within scope op_words.SetPairs ws s e = made_ok OpWithin (source_of scope item_kinds.Pairs ws) (λ t. record { op = ops.SetPairs t.values; from = t.from }) s e (λ t is. source_of-within scope item_kinds.Pairs ws t is)
op_of_words-within scope op_words.RemoveKeys ws s e = made_ok OpWithin (source_of scope item_kinds.Elements ws) (λ t. record { op = ops.RemoveKeys t.values; from = t.from }) s e (λ t is. source_of-within scope item_kinds.Elements ws t is)
op_of_words-within scope op_words.InsertRange ws s e =
    made_ok OpWithin (one_and_rest number (source_of scope item_kinds.Elements) ws) (λ p. record { op = ops.InsertRange p.0 p.1.values; from = p.1.from }) s e
    (λ p is. rest_ok number (source_of scope item_kinds.Elements) SourceWithin ws p is (source_of-within scope item_kinds.Elements))
op_of_words-within scope _ ws s e = made_ok OpWithin _ _ s e (λ p is. rw (made_ok HasNone _ _ p is (λ x same. refl)) refl)

op-within : (scope : Scope) (ws : List (List ℕ)) (s : OpWithSource) → op scope ws ≡ Ok s → OpWithin s
unfolding op
op-within scope [] s e = absurd cc
op-within scope (w ∷ ws) s e = let b = bind_ok (op_word w) (λ o. op_of_words scope o ws) s e in op_of_words-within scope b.0 ws s b.2

-- ---- questions

abbrev QueryHasNone : Query → Type 0
QueryHasNone q = query_values q ≡ None

abbrev QueryWithin : QueryWithSource → Type 0
QueryWithin s = are_within (query_values s.query) ≡ true

query_of_words-within : (word : QueryWord) (ws : List (List ℕ)) (s : QueryWithSource) → query_of_words word ws ≡ Ok s → QueryWithin s
query_of_words-within query_words.Subset ws s e = made_ok QueryWithin (source_of scopes.Local item_kinds.Elements ws) (λ t. record { query = queries.Subset t.values; from = t.from }) s e (λ t is. source_of-within scopes.Local item_kinds.Elements ws t is)
query_of_words-within query_words.Superset ws s e = made_ok QueryWithin (source_of scopes.Local item_kinds.Elements ws) (λ t. record { query = queries.Superset t.values; from = t.from }) s e (λ t is. source_of-within scopes.Local item_kinds.Elements ws t is)
query_of_words-within query_words.ProperSubset ws s e = made_ok QueryWithin (source_of scopes.Local item_kinds.Elements ws) (λ t. record { query = queries.ProperSubset t.values; from = t.from }) s e (λ t is. source_of-within scopes.Local item_kinds.Elements ws t is)
query_of_words-within query_words.ProperSuperset ws s e = made_ok QueryWithin (source_of scopes.Local item_kinds.Elements ws) (λ t. record { query = queries.ProperSuperset t.values; from = t.from }) s e (λ t is. source_of-within scopes.Local item_kinds.Elements ws t is)
query_of_words-within query_words.Overlaps ws s e = made_ok QueryWithin (source_of scopes.Local item_kinds.Elements ws) (λ t. record { query = queries.Overlaps t.values; from = t.from }) s e (λ t is. source_of-within scopes.Local item_kinds.Elements ws t is)
query_of_words-within query_words.SetEquals ws s e = made_ok QueryWithin (source_of scopes.Local item_kinds.Elements ws) (λ t. record { query = queries.SetEquals t.values; from = t.from }) s e (λ t is. source_of-within scopes.Local item_kinds.Elements ws t is)
query_of_words-within _ ws s e = made_ok QueryWithin _ _ s e (λ q is. rw (made_ok QueryHasNone _ _ q is (λ x same. refl)) refl)

query-within : (ws : List (List ℕ)) (s : QueryWithSource) → query ws ≡ Ok s → QueryWithin s
unfolding query
query-within [] s e = absurd cc
query-within (w ∷ ws) s e = let b = bind_ok (query_word w) (λ q. query_of_words q ws) s e in query_of_words-within b.0 ws s b.2

-- ---- calls

abbrev CommandHasNone : Command → Type 0
CommandHasNone c = command_values c ≡ None

call-has_none : (call : CallWord) (ws : List (List ℕ)) (c : Command) → call_of_words call ws ≡ Ok c → CommandHasNone c
call-has_none call_words.TryPop ws c e = made_ok CommandHasNone (one cell_name ws) commands.TryPop c e (λ n is. refl)
call-has_none _ ws c e = made_ok CommandHasNone _ _ c e (λ p is. refl)

-- ---- lines

-- what a frozen collection is made of
frozen-within : (item : ItemKind) (ws : List (List ℕ)) (p : List ℕ × (ValEq × Source)) → one_and_rest local_name (equality_and_source item) ws ≡ Ok p → SourceWithin p.1.1
frozen-within item ws p e =
    rest_ok local_name (equality_and_source item) (λ r. SourceWithin r.1) ws p e
    (λ us r at. rest_ok equality (source_of scopes.Local item) SourceWithin us r at (source_of-within scopes.Local item))

abbrev LineWithin : Line → Type 0
LineWithin l = line_is_within l ≡ true

line_of_words-within : (first : Keyword) (ws : List (List ℕ)) (l : Line) → line_of_words first ws ≡ Ok l → LineWithin l
line_of_words-within keywords.Cell ws l e =
    made_ok LineWithin (one_and_rest cell_name (contents scopes.Cell) ws) (λ p. lines.Cell (record { name = p.0; kind = p.1.kind; values = p.1.source.values })) l e
    (λ p is. rest_ok cell_name (contents scopes.Cell) ContentsWithin ws p is (contents-within scopes.Cell))
line_of_words-within keywords.Update ws l e =
    made_ok LineWithin (one_and_rest cell_name (op scopes.Cell) ws) (λ p. lines.Command (commands.Update p.0 p.1.op)) l e
    (λ p is. rest_ok cell_name (op scopes.Cell) OpWithin ws p is (op-within scopes.Cell))
line_of_words-within keywords.New ws l e =
    made_ok LineWithin (one_and_rest local_name (contents scopes.Local) ws) (λ p. lines.Command (commands.New p.0 p.1.kind p.1.source.values p.1.source.from)) l e
    (λ p is. rest_ok local_name (contents scopes.Local) ContentsWithin ws p is (contents-within scopes.Local))
line_of_words-within keywords.Let ws l e =
    made_ok LineWithin (one_and_rest local_name (one_and_rest local_name (op scopes.Local)) ws) (λ p. lines.Command (commands.Let p.0 p.1.0 p.1.1.op p.1.1.from)) l e
    (λ p is. rest_ok local_name (one_and_rest local_name (op scopes.Local)) (λ r. OpWithin r.1) ws p is
    (λ us r at. rest_ok local_name (op scopes.Local) OpWithin us r at (op-within scopes.Local)))
line_of_words-within keywords.Ask ws l e =
    made_ok LineWithin (one_and_rest local_name query ws) (λ p. lines.Command (commands.Ask p.0 p.1.query p.1.from)) l e
    (λ p is. rest_ok local_name query QueryWithin ws p is query-within)
line_of_words-within keywords.FrozenSet ws l e =
    made_ok LineWithin (one_and_rest local_name (equality_and_source item_kinds.Elements) ws) (λ p. lines.Command (commands.FrozenSet p.0 p.1.0 p.1.1.values p.1.1.from)) l e
    (λ p is. frozen-within item_kinds.Elements ws p is)
line_of_words-within keywords.FrozenMap ws l e =
    made_ok LineWithin (one_and_rest local_name (equality_and_source item_kinds.Pairs) ws) (λ p. lines.Command (commands.FrozenMap p.0 p.1.0 p.1.1.values p.1.1.from)) l e
    (λ p is. frozen-within item_kinds.Pairs ws p is)
line_of_words-within (keywords.Call call) ws l e =
    made_ok LineWithin (call_of_words call ws) lines.Command l e (λ c is. rw (call-has_none call ws c is) refl)
line_of_words-within _ ws l e = made_ok LineWithin _ _ l e (λ p is. refl)

pub lines_within : {E : Type 0} (r : Result (Result Line Code) E) (first : Keyword) (ws : List (List ℕ)) → IfOk r (λ read. read ≡ line_of_words first ws)
    → IfOk r (λ read. IfOk read IsWithin)
lines_within (Ok (Ok line)) first ws e = record { within = line_of_words-within first ws line (sym e) }
lines_within (Ok (Err c)) first ws e = tt
lines_within (Err e) first ws h = tt

pub line_of-within : (version : Version) (ws : List (List ℕ)) (l : Line) → line_of version ws ≡ Ok l → LineWithin l
line_of-within version [] l e = absurd cc
line_of-within version (first ∷ ws) l e = let b = bind_ok (keyword_of version first) (λ k. line_of_words k ws) l e in line_of_words-within b.0 ws l b.2
