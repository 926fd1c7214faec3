use Rattle.schema_convert_plain.proofs.PlainTree.{plain_tree}
use Rattle.schema_convert.proofs.laws.plain_trees.Goals as goal

pub returns : goal.returns
returns c table tree plain = plain_tree table tree plain
