use Rattle.std.specs.Str.{encode_utf8_all}
use Rattle.cedar_schema_cli_format.specs.Plans.{laid, laid_out}
use Rattle.cedar_schema_cli_format.proofs.Outcomes.{on_ok}
use Rattle.cedar_schema_cli_format.proofs.inputs.take_text.Goals as goal

pub returns-in-Ok : goal.returns-in-Ok
returns-in-Ok c = on_ok c.take_laid.result _ _ (λ follows. record {
  outcome = laid c.args.text.now (encode_utf8_all c.in-Ok.new);
  comes = laid_out c.in-Ok.ensures.tree c.in-Ok.ensures.laid;
  follows = follows;
}) c.take_laid.ensures

pub take_refused-requires : goal.take_refused-requires
take_refused-requires c = rw c.in-Err-Syntax.field-0-is at c.in-Err-Syntax.ensures.refused
