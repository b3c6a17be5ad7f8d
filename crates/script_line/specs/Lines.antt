-- What the words of a line say, whatever stands on the other lines.
use Rattle.std.specs.Prelude.{◌≡◌, ℕ, List, [], ◌∷◌, Bool, true, Option, Some, None, Result, Ok, Err}
use Rattle.std.specs.Prelude.{codes as bytes}
use Rattle.plain_model.specs.declared.commands.Command.{Command}
use Rattle.plain_model.specs.declared.commands.Command.TheVariants as commands
use Rattle.plain_model.specs.declared.plain.Values.{Values}
use Rattle.plain_model.specs.declared.report.Version.{Version}
use Rattle.plain_model.specs.declared.report.Version.TheVariants as versions
use Rattle.plain_model.specs.Sources.{is_within, are_within, op_values, query_values}
use Rattle.script_line.specs.declared.codes.Code.{Code}
use Rattle.script_line.specs.declared.codes.Code.TheVariants.{Word}
use Rattle.script_line.specs.declared.calls.CallWord.TheVariants as call_words
use Rattle.script_line.specs.declared.line.Keyword.{Keyword}
use Rattle.script_line.specs.declared.line.Keyword.TheVariants as keywords
use Rattle.script_line.specs.declared.line.Line.{Line}
use Rattle.script_line.specs.declared.line.Line.TheVariants as lines
use Rattle.script_line.specs.declared.sources.Scope.TheVariants as scopes
use Rattle.script_line.specs.Codes.{◌>>=◌}
use Rattle.script_line.specs.Table.{entry}
use Rattle.script_line.specs.Names.{cell_name, local_name}
use Rattle.imm_base.specs.declared.comparers.ValEq.{ValEq}
use Rattle.plain_model.specs.declared.kinds.ItemKind.{ItemKind}
use Rattle.plain_model.specs.declared.kinds.ItemKind.TheVariants.{Elements, Pairs}
use Rattle.script_line.specs.declared.sources.Source.{Source}
use Rattle.script_line.specs.Comparers.{comparer, equality}
use Rattle.script_line.specs.Sources.{source_of}
use Rattle.script_line.specs.Arguments.{no_word, one, two, three, one_and_rest}
use Rattle.script_line.specs.Contents.{contents}
use Rattle.script_line.specs.Operations.{op}
use Rattle.script_line.specs.Queries.{query}
use Rattle.script_line.specs.Calls.{call_of_words}

-- the first words of both versions
abbrev pub common_keywords : List (List ℕ × Keyword)
common_keywords =
    (bytes "cell", keywords.Cell) ∷
    (bytes "worker", keywords.Worker) ∷
    (bytes "end", keywords.End) ∷
    (bytes "update", keywords.Update) ∷
    (bytes "read", keywords.Read) ∷
    (bytes "publish", keywords.Publish) ∷
    (bytes "getoradd", keywords.Call call_words.GetOrAdd) ∷
    (bytes "addorupdate", keywords.Call call_words.AddOrUpdate) ∷
    (bytes "tryadd", keywords.Call call_words.TryAdd) ∷
    (bytes "tryupdate", keywords.Call call_words.TryUpdate) ∷
    (bytes "tryremove", keywords.Call call_words.TryRemove) ∷
    (bytes "push", keywords.Call call_words.Push) ∷
    (bytes "trypop", keywords.Call call_words.TryPop) ∷
    (bytes "enqueue", keywords.Call call_words.Enqueue) ∷
    (bytes "trydequeue", keywords.Call call_words.TryDequeue) ∷
    (bytes "new", keywords.New) ∷
    (bytes "let", keywords.Let) ∷
    (bytes "rekey", keywords.Rekey) ∷
    (bytes "ask", keywords.Ask) ∷
    (bytes "show", keywords.Show) ∷
    (bytes "frozenset", keywords.FrozenSet) ∷
    (bytes "frozenmap", keywords.FrozenMap) ∷
    []

abbrev pub common_keyword : List ℕ → Result Keyword Code
common_keyword word = entry common_keywords word

-- those of the second version alone
abbrev pub newer_keyword : Version → List ℕ → Result Keyword Code
newer_keyword versions.One word = Err Word
newer_keyword versions.Two word = entry ((bytes "addorupdatef", keywords.Call call_words.AddOrUpdateMade) ∷ []) word

abbrev pub common_or_newer : Result Keyword Code → Version → List ℕ → Result Keyword Code
common_or_newer (Ok k) version word = Ok k
common_or_newer (Err c) version word = newer_keyword version word

-- the first words; another one is unknown
abbrev pub keyword_of : Version → List ℕ → Result Keyword Code
keyword_of version word = common_or_newer (common_keyword word) version word

-- what a frozen collection is made of
abbrev pub equality_and_source : ItemKind → List (List ℕ) → Result (ValEq × Source) Code
equality_and_source item ws = one_and_rest equality (source_of scopes.Local item) ws

-- a row for each first word, with the words that follow it
abbrev pub line_of_words : Keyword → List (List ℕ) → Result Line Code
line_of_words keywords.Cell ws =
    one_and_rest cell_name (contents scopes.Cell) ws
    >>= λ (n, d). Ok (lines.Cell (record { name = n; kind = d.kind; values = d.source.values }))
line_of_words keywords.Worker ws = no_word ws >>= λ u. Ok lines.Worker
line_of_words keywords.End ws = no_word ws >>= λ u. Ok lines.End
line_of_words keywords.Update ws =
    one_and_rest cell_name (op scopes.Cell) ws >>= λ (c, p). Ok (lines.Command (commands.Update c p.op))
line_of_words keywords.Read ws = two cell_name local_name ws >>= λ (c, x). Ok (lines.Command (commands.Read c x))
line_of_words keywords.Publish ws = two cell_name local_name ws >>= λ (c, x). Ok (lines.Command (commands.Publish c x))
line_of_words (keywords.Call call) ws = call_of_words call ws >>= λ c. Ok (lines.Command c)
line_of_words keywords.New ws =
    one_and_rest local_name (contents scopes.Local) ws
    >>= λ (x, d). Ok (lines.Command (commands.New x d.kind d.source.values d.source.from))
line_of_words keywords.Let ws =
    one_and_rest local_name (one_and_rest local_name (op scopes.Local)) ws
    >>= λ (y, r). Ok (lines.Command (commands.Let y r.0 r.1.op r.1.from))
line_of_words keywords.Rekey ws =
    three local_name local_name comparer ws >>= λ (y, r). Ok (lines.Command (commands.Rekey y r.0 r.1))
line_of_words keywords.Ask ws =
    one_and_rest local_name query ws >>= λ (x, a). Ok (lines.Command (commands.Ask x a.query a.from))
line_of_words keywords.Show ws = one local_name ws >>= λ x. Ok (lines.Command (commands.Show x))
line_of_words keywords.FrozenSet ws =
    one_and_rest local_name (equality_and_source Elements) ws
    >>= λ (x, d). Ok (lines.Command (commands.FrozenSet x d.0 d.1.values d.1.from))
line_of_words keywords.FrozenMap ws =
    one_and_rest local_name (equality_and_source Pairs) ws
    >>= λ (x, d). Ok (lines.Command (commands.FrozenMap x d.0 d.1.values d.1.from))

-- what the words say in a version
abbrev pub line_of : Version → List (List ℕ) → Result Line Code
line_of version [] = Err Word
line_of version (first ∷ words) = keyword_of version first >>= λ k. line_of_words k words

-- ---- the values of a line

-- the values among the arguments of a command
abbrev pub command_values : Command → Option Values
command_values (commands.Update cell op) = op_values op
command_values (commands.New x kind src from) = Some src
command_values (commands.Let y x op from) = op_values op
command_values (commands.Ask x query from) = query_values query
command_values (commands.FrozenSet x eq src from) = Some src
command_values (commands.FrozenMap x eq src from) = Some src
command_values _ = None

-- the integers of each sequence are below 2^63
abbrev pub line_is_within : Line → Bool
line_is_within (lines.Cell cell) = is_within cell.values
line_is_within (lines.Command c) = are_within (command_values c)
line_is_within _ = true

pub record IsWithin (line : Line) : Type 0 where
  pub within : line_is_within line ≡ true
