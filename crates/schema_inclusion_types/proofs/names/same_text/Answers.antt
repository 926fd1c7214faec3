use Rattle.std.proofs.Common.{◌∙◌}
use Rattle.schema_inclusion_types.proofs.Ties.{bytes_test}
use Rattle.schema_inclusion_types.proofs.names.same_text.Goals as goal

pub returns : goal.returns
returns c = c.eq.ensures ∙ bytes_test c.args.a.now c.args.b.now
