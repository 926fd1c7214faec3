use Rattle.std.proofs.Common.{ap, ◌∙◌, Some}
use Rattle.schema_syntax_errors.proofs.Helps.{advice_characters}
use Rattle.schema_syntax_errors.proofs.parse_error.ParseErrorDiagnostic.help.Goals as goal

pub returns-in_ok-from_str-in-Some-clause-help : goal.returns-in_ok-from_str-in-Some-clause-help
returns-in_ok-from_str-in-Some-clause-help c =
    ap Some (c.in_ok-from_str-in-Some.ensures
    ∙ advice_characters c.args.self.now c.args.source.now c.in-Some.help.now c.in-Some.ensures.help)
    ∙ c.in-Some.ensures.help
