use Rattle.std.proofs.Common.{sym, ap, ◌∙◌, rules}
use Rattle.script_line.specs.Lines.{line_of}
use Rattle.script_line.specs.Words.{bytes_of}
use Rattle.script.proofs.Steps.{significant_line-read}
use Rattle.script.proofs.parser.Parser.read_significant.Goals as goal

pub returns-in-Ok : goal.returns-in-Ok
returns-in-Ok c =
    significant_line-read c.args.self.now _ c.args.is_last c.args.line.now (bytes_of c.args.words.now) c.in-Ok.line c.add_line.result
    (search rules) (sym c.is_clean.ensures ∙ c.if-not-is_clean.false) (ap (λ v. line_of v (bytes_of c.args.words.now)) (sym c.version_of.ensures) ∙ (sym c.in_ok-line.ensures.read ∙ c.in-Ok.is)) c.add_line.ensures
