use Rattle.schema_syntax_tree.specs.Lent.{lent_value}
use Rattle.schema_syntax_tree.proofs.src_str.SrcStr.read.Goals as goal

pub returns-in-Ok : goal.returns-in-Ok
returns-in-Ok c = lent_value c.args.body.now c.result-1.given.0 _ c.in-Ok.ensures.value.1
