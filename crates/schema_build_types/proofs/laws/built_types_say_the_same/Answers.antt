use Rattle.schema_build_types.proofs.Contents.{built_says}
use Rattle.schema_build_types.proofs.laws.built_types_say_the_same.Goals as goal

pub returns : goal.returns
returns c = built_says
