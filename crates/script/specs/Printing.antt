-- The canonical text of a script: one space between words, a line feed after each line.
use Rattle.std.specs.Prelude.{ℕ, List, [], ◌∷◌, ◌++◌, codes}
use Rattle.std.specs.List.{flat_map}
use Rattle.plain_model.specs.declared.report.Part.{Part}
use Rattle.plain_model.specs.declared.report.Script.{Script}
use Rattle.plain_model.specs.declared.report.Version.{Version}
use Rattle.plain_model.specs.Text.{line, version_word, decl_words, command_words}

abbrev pub header_text : Version → List ℕ
header_text version = line (codes "immrun" ∷ version_word version ∷ [])

abbrev pub part_text : Part → List ℕ
part_text part = line (codes "worker" ∷ []) ++ flat_map (λ c. line (command_words c)) part.commands ++ line (codes "end" ∷ [])

-- The header, the cells and the parts, in order.
abbrev pub canonical_text : Script → List ℕ
canonical_text s = header_text s.version ++ flat_map (λ c. line (decl_words c)) s.cells ++ flat_map part_text s.parts
