use Rattle.std.proofs.Common.{false, ◌++◌, ap, ◌∙◌}
use Rattle.std.proofs.lemmas.Str.{chars-encodes}
use Rattle.std.specs.Str.{chars}
use Rattle.unicode_width.specs.Width.{str_width}
use Rattle.schema_report.specs.Short.{shown}
use Rattle.schema_report.proofs.excerpt.columns_of.Goals as goal

pub returns : goal.returns
returns c = c.width.ensures.value ∙ ap (str_width false) (ap chars c.as_str.ensures.bytes
    ∙ chars-encodes c.push_escaped.new.out c.as_str.ensures.characters ∙ c.in_ok-push_escaped.ensures
    ∙ ap (λ t. t ++ shown (chars c.args.text.now)) c.new-shown.ensures)
