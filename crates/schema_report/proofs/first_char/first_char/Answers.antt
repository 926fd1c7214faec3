use Rattle.std.proofs.Common.{◌++◌, sym, ◌∙◌, ap}
use Rattle.std.specs.Char.{encode_utf8}
use Rattle.schema_report.proofs.CharLemmas.{is_first_char}
use Rattle.schema_report.proofs.first_char.first_char.Goals as goal

pub returns : goal.returns
returns c =
    let first = c.in_ok-first.first in
    is_first_char c.args.text.now _ first c.utf8.text
    (sym c.chars-chars.ensures.rest ∙ c.in_ok-first.ensures.steps.0
    ∙ ap (λ rest. encode_utf8 first ++ rest) (sym c.as_str.ensures))
