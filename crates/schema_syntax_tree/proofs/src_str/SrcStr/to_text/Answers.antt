use Rattle.std.proofs.Common.{◌∙◌}
use Rattle.schema_syntax_tree.specs.Lent.{same_value}
use Rattle.schema_syntax_tree.proofs.src_str.SrcStr.to_text.Goals as goal

pub returns-in-Ok : goal.returns-in-Ok
returns-in-Ok c = same_value c.self.inside.body.now c.in-Ok.text c.self.inside.stands.0 ∣ c.in-Ok.ensures.value ∣₁
    c.self.inside.stands.1 ∙ c.self.view_is
