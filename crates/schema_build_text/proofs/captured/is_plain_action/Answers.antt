use Rattle.std.proofs.Common.{◌==◌, length, ap, sym, ◌∙◌}
use Rattle.schema_build_text.proofs.Plain.{several_words}
use Rattle.schema_build_text.proofs.captured.is_plain_action.Goals as goal

pub returns-else-is_empty : goal.returns-else-is_empty
returns-else-is_empty c =
    several_words c.args.name.now.name.first.text c.args.name.now.name.others
    (ap (λ l. length l == 0) (sym c.as_slice.ensures) ∙ (sym c.is_empty.ensures ∙ c.if-is_empty.false))
