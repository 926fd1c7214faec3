use Rattle.std.proofs.Common.{ap, ◌∙◌}
use Rattle.std.specs.Str.{bytes_eq}
use Rattle.schema_syntax_errors.proofs.SameTexts.{same_text}
use Rattle.schema_syntax_errors.proofs.help.is_text.Goals as goal

pub returns : goal.returns
returns c = c.eq.ensures ∙ ap (λ x. bytes_eq x c.args.ascii.now) c.as_str.ensures.bytes
    ∙ same_text c.args.text.now c.args.ascii.now c.requires
