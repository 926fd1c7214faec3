use Rattle.std.proofs.Common.{◌∙◌}
use Rattle.schema_build_recovered.proofs.Spaces.{by_words}
use Rattle.schema_build_recovered.proofs.names.compare.Goals as goal

pub returns : goal.returns
returns c = c.cmp.ensures ∙ by_words c.args.a c.args.b
