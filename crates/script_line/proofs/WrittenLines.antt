-- A line that is read is read again from the words that are written for it.
use Rattle.std.proofs.Common.{◌≡◌, Bool, true, false, cond, List, [], ◌∷◌, Result, Ok, Err, refl, ap, ◌∙◌}
use Rattle.std.specs.Prelude.{codes as bytes}
use Rattle.std.specs.List.{list_all}
use Rattle.std.specs.Str.{bytes_eq}
use Rattle.std.proofs.lemmas.Bool.{and_parts}
use Rattle.plain_model.specs.declared.commands.Command.TheVariants as commands
use Rattle.plain_model.specs.declared.report.Version.{Version}
use Rattle.plain_model.specs.declared.report.Version.TheVariants as versions
use Rattle.plain_model.specs.Text.{comparer_word}
use Rattle.script_line.specs.declared.calls.CallWord.{CallWord}
use Rattle.script_line.specs.declared.codes.Code.{Code}
use Rattle.script_line.specs.declared.codes.Code.TheVariants.{Word as WordCode}
use Rattle.script_line.specs.declared.line.Keyword.{Keyword}
use Rattle.script_line.specs.declared.line.Keyword.TheVariants as keywords
use Rattle.script_line.specs.declared.line.Line.{Line}
use Rattle.script_line.specs.declared.line.Line.TheVariants as lines
use Rattle.script_line.specs.declared.sources.Scope.TheVariants as scopes
use Rattle.script_line.specs.Codes.{◌>>=◌}
use Rattle.script_line.specs.Table.{entry}
use Rattle.script_line.specs.Names.{cell_name, local_name}
use Rattle.imm_base.specs.declared.comparers.ValEq.{ValEq}
use Rattle.imm_base.specs.Spell.{eq_word}
use Rattle.plain_model.specs.declared.kinds.ItemKind.{ItemKind}
use Rattle.plain_model.specs.declared.kinds.ItemKind.TheVariants.{Elements, Pairs}
use Rattle.script_line.specs.declared.sources.Source.{Source}
use Rattle.script_line.specs.Comparers.{comparer, equality}
use Rattle.script_line.specs.Sources.{source_of}
use Rattle.script_line.proofs.WrittenSources.{written_source, source_of-again}
use Rattle.script_line.specs.Arguments.{no_word, one, two, three, one_and_rest}
use Rattle.script_line.specs.Contents.{contents}
use Rattle.script_line.specs.Operations.{op}
use Rattle.script_line.specs.Queries.{query}
use Rattle.script_line.specs.Lines.{equality_and_source, common_keywords, common_keyword, newer_keyword, common_or_newer, keyword_of, line_of_words, line_of}
use Rattle.script_line.proofs.Judgements.{bind_ok, moved}
use Rattle.script_line.specs.Written.{written_line, LinesAreReadAgain}
use Rattle.script_line.proofs.WrittenWords.{words-spaced}
use Rattle.script_line.proofs.ReadAgain.{Word, Words, AreReadAgain, ReadsAgain, no_word-again, one-again, two-again, three-again, one_and_rest-again, row}
use Rattle.script_line.proofs.WrittenValues.{cell_name-again, local_name-again}
use Rattle.script_line.proofs.WrittenContents.{comparer-again, equality-again, written_contents, contents-again}
use Rattle.script_line.proofs.WrittenOperations.{written_op, op-again}
use Rattle.script_line.proofs.WrittenQueries.{written_query, query-again}
use Rattle.script_line.proofs.WrittenCalls.{has_call, call_of_words-again}

-- what a frozen collection is made of
abbrev written_frozen : ValEq × Source → Words
written_frozen d = eq_word d.0 ∷ written_source scopes.Local d.1

frozen-again : (item : ItemKind) → ReadsAgain (equality_and_source item) written_frozen
frozen-again item = one_and_rest-again equality eq_word equality-again (source_of scopes.Local item) (written_source scopes.Local) (source_of-again scopes.Local item)

-- ---- first words

-- a version has the word
abbrev has_keyword : Version → Keyword → Bool
has_keyword version (keywords.Call call) = has_call version call
has_keyword version _ = true

-- the last version has each call
call_in_last : (call : CallWord) → has_call versions.Two call ≡ true
call_in_last call = refl

in_last : (k : Keyword) → has_keyword versions.Two k ≡ true
in_last (keywords.Call call) = call_in_last call
in_last _ = refl

-- what passes a test beside each word of a table passes it where it is found
entry_all : {A : Type 0} (test : A → Bool) (rows : List (Word × A)) (w : Word) (x : A) → list_all (λ r. test r.1) rows ≡ true → entry rows w ≡ Ok x → test x ≡ true
entry_all test [] w x all e = absurd cc
entry_all test (r ∷ rows) w x all e =
    let parts = and_parts (test r.1) (list_all (λ s. test s.1) rows) all in
    split (bytes_eq w r.0) e parts.0 (entry_all test rows w x parts.1)
  where
    split : (b : Bool) → cond b (Ok r.1) (entry rows w) ≡ Ok x → test r.1 ≡ true → (entry rows w ≡ Ok x → test x ≡ true) → test x ≡ true
    split true h here rest = moved (λ y. test y ≡ true) r.1 x h here
    split false h here rest = rest h

common_has : (version : Version) (w : Word) (k : Keyword) → common_keyword w ≡ Ok k → has_keyword version k ≡ true
common_has versions.Two w k e = in_last k
common_has versions.One w k e = entry_all (has_keyword versions.One) common_keywords w k refl e

-- each first word that is read is one of the version
keyword_has : (version : Version) (w : Word) (k : Keyword) → keyword_of version w ≡ Ok k → has_keyword version k ≡ true
keyword_has version w k e = by (common_keyword w) refl e
  where
    by : (r : Result Keyword Code) → common_keyword w ≡ r → common_or_newer r version w ≡ Ok k → has_keyword version k ≡ true
    by (Ok j) is h = common_has version w k (is ∙ h)
    by (Err c) is h = newer version h
      where
        newer : (v : Version) → newer_keyword v w ≡ Ok k → has_keyword v k ≡ true
        newer versions.One n = absurd cc
        newer versions.Two n = in_last k

-- what the first version reads, the last one reads too
keyword_too : (version : Version) (w : Word) (k : Keyword) → keyword_of version w ≡ Ok k → keyword_of versions.Two w ≡ Ok k
keyword_too versions.Two w k e = e
keyword_too versions.One w k e = by (common_keyword w) e
  where
    by : (r : Result Keyword Code) → common_or_newer r versions.One w ≡ Ok k → common_or_newer r versions.Two w ≡ Ok k
    by (Ok j) h = h
    by (Err c) h = absurd cc

pub line_too : (version : Version) (ws : Words) (l : Line) → line_of version ws ≡ Ok l → line_of versions.Two ws ≡ Ok l
line_too version [] l e = absurd cc
line_too version (w ∷ ws) l e =
    let b = bind_ok (keyword_of version w) (λ k. line_of_words k ws) l e in
    ap (λ r. r >>= λ k. line_of_words k ws) (keyword_too version w b.0 b.1) ∙ b.2

-- a row for each first word
line_of_words-again : (version : Version) (k : Keyword) (ws : Words) (l : Line) → has_keyword version k ≡ true → line_of_words k ws ≡ Ok l → AreReadAgain (line_of version) written_line l
line_of_words-again version keywords.Cell ws l has e =
    row (line_of version) written_line (bytes "cell") refl (one_and_rest cell_name (contents scopes.Cell)) (λ p. p.0 ∷ written_contents scopes.Cell p.1) (one_and_rest-again cell_name (λ n. n) cell_name-again (contents scopes.Cell) (written_contents scopes.Cell) (contents-again scopes.Cell)) (λ p. lines.Cell (record { name = p.0; kind = p.1.kind; values = p.1.source.values })) (λ a. refl) (λ us. refl) ws l e
line_of_words-again version keywords.Worker ws l has e =
    row (line_of version) written_line (bytes "worker") refl no_word (λ u. []) no_word-again (λ u. lines.Worker) (λ a. refl) (λ us. refl) ws l e
line_of_words-again version keywords.End ws l has e =
    row (line_of version) written_line (bytes "end") refl no_word (λ u. []) no_word-again (λ u. lines.End) (λ a. refl) (λ us. refl) ws l e
line_of_words-again version keywords.Update ws l has e =
    row (line_of version) written_line (bytes "update") refl (one_and_rest cell_name (op scopes.Cell)) (λ p. p.0 ∷ written_op scopes.Cell p.1) (one_and_rest-again cell_name (λ n. n) cell_name-again (op scopes.Cell) (written_op scopes.Cell) (op-again scopes.Cell)) (λ p. lines.Command (commands.Update p.0 p.1.op)) (λ a. refl) (λ us. refl) ws l e
line_of_words-again version keywords.Read ws l has e =
    row (line_of version) written_line (bytes "read") refl (two cell_name local_name) (λ p. p.0 ∷ p.1 ∷ []) (two-again cell_name (λ n. n) cell_name-again local_name (λ n. n) local_name-again) (λ p. lines.Command (commands.Read p.0 p.1)) (λ a. refl) (λ us. refl) ws l e
line_of_words-again version keywords.Publish ws l has e =
    row (line_of version) written_line (bytes "publish") refl (two cell_name local_name) (λ p. p.0 ∷ p.1 ∷ []) (two-again cell_name (λ n. n) cell_name-again local_name (λ n. n) local_name-again) (λ p. lines.Command (commands.Publish p.0 p.1)) (λ a. refl) (λ us. refl) ws l e
line_of_words-again version (keywords.Call call) ws l has e = call_of_words-again version call ws l has e
line_of_words-again version keywords.New ws l has e =
    row (line_of version) written_line (bytes "new") refl (one_and_rest local_name (contents scopes.Local)) (λ p. p.0 ∷ written_contents scopes.Local p.1) (one_and_rest-again local_name (λ n. n) local_name-again (contents scopes.Local) (written_contents scopes.Local) (contents-again scopes.Local)) (λ p. lines.Command (commands.New p.0 p.1.kind p.1.source.values p.1.source.from)) (λ a. refl) (λ us. refl) ws l e
line_of_words-again version keywords.Let ws l has e =
    row (line_of version) written_line (bytes "let") refl (one_and_rest local_name (one_and_rest local_name (op scopes.Local))) (λ p. p.0 ∷ p.1.0 ∷ written_op scopes.Local p.1.1) (one_and_rest-again local_name (λ n. n) local_name-again (one_and_rest local_name (op scopes.Local)) (λ q. q.0 ∷ written_op scopes.Local q.1) (one_and_rest-again local_name (λ n. n) local_name-again (op scopes.Local) (written_op scopes.Local) (op-again scopes.Local))) (λ p. lines.Command (commands.Let p.0 p.1.0 p.1.1.op p.1.1.from)) (λ a. refl) (λ us. refl) ws l e
line_of_words-again version keywords.Rekey ws l has e =
    row (line_of version) written_line (bytes "rekey") refl (three local_name local_name comparer) (λ p. p.0 ∷ p.1.0 ∷ comparer_word p.1.1 ∷ []) (three-again local_name (λ n. n) local_name-again local_name (λ n. n) local_name-again comparer comparer_word comparer-again) (λ p. lines.Command (commands.Rekey p.0 p.1.0 p.1.1)) (λ a. refl) (λ us. refl) ws l e
line_of_words-again version keywords.Ask ws l has e =
    row (line_of version) written_line (bytes "ask") refl (one_and_rest local_name query) (λ p. p.0 ∷ written_query p.1) (one_and_rest-again local_name (λ n. n) local_name-again query written_query query-again) (λ p. lines.Command (commands.Ask p.0 p.1.query p.1.from)) (λ a. refl) (λ us. refl) ws l e
line_of_words-again version keywords.Show ws l has e =
    row (line_of version) written_line (bytes "show") refl (one local_name) (λ x. x ∷ []) (one-again local_name (λ n. n) local_name-again) (λ x. lines.Command (commands.Show x)) (λ a. refl) (λ us. refl) ws l e
line_of_words-again version keywords.FrozenSet ws l has e =
    row (line_of version) written_line (bytes "frozenset") refl (one_and_rest local_name (equality_and_source Elements)) (λ p. p.0 ∷ written_frozen p.1) (one_and_rest-again local_name (λ n. n) local_name-again (equality_and_source Elements) written_frozen (frozen-again Elements)) (λ p. lines.Command (commands.FrozenSet p.0 p.1.0 p.1.1.values p.1.1.from)) (λ a. refl) (λ us. refl) ws l e
line_of_words-again version keywords.FrozenMap ws l has e =
    row (line_of version) written_line (bytes "frozenmap") refl (one_and_rest local_name (equality_and_source Pairs)) (λ p. p.0 ∷ written_frozen p.1) (one_and_rest-again local_name (λ n. n) local_name-again (equality_and_source Pairs) written_frozen (frozen-again Pairs)) (λ p. lines.Command (commands.FrozenMap p.0 p.1.0 p.1.1.values p.1.1.from)) (λ a. refl) (λ us. refl) ws l e

pub line_of-again : (version : Version) → ReadsAgain (line_of version) written_line
line_of-again version [] l e = absurd cc
line_of-again version (w ∷ ws) l e =
    let b = bind_ok (keyword_of version w) (λ k. line_of_words k ws) l e in line_of_words-again version b.0 ws l (keyword_has version w b.0 b.1) b.2

-- a comment says nothing
pub comment_says_nothing : (version : Version) (bs : Word) (ws : Words) → line_of version ((35 ∷ bs) ∷ ws) ≡ Err WordCode
comment_says_nothing versions.One bs ws = refl
comment_says_nothing versions.Two bs ws = refl

pub line_again : LinesAreReadAgain
line_again version ws l e = let r = line_of-again version ws l e in ap (line_of version) (words-spaced (written_line l) r.words) ∙ r.again
