use Rattle.std.proofs.Common.{◌∙◌}
use Rattle.schema_syntax_tree.specs.Lent.{same_value}
use Rattle.schema_syntax_tree.proofs.src_str.SrcStr.again.Goals as goal

pub returns : goal.returns
returns c = same_value c.self.inside.body.now c.result-2-1.given.0.0 c.self.inside.stands.0 c.result-2-1.given.0.1
    c.self.inside.stands.1 ∙ c.self.view_is
