use Rattle.std.proofs.Common.{◌∙◌}
use Rattle.schema_syntax_errors.proofs.SameKinds.{same_tests}
use Rattle.schema_syntax_errors.proofs.expected.expects.Goals as goal

pub returns : goal.returns
returns c = c.contains.ensures.value ∙ same_tests c.args.expected.now c.args.kind
