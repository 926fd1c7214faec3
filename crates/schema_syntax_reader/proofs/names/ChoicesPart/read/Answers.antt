use Rattle.std.proofs.Common.{Some, ap}
use Rattle.schema_syntax_reader.proofs.NameReads.{string_stops, string_faultless}
use Rattle.schema_syntax_reader.proofs.Readings.{stops}
use Rattle.schema_syntax_reader.proofs.names.ChoicesPart.read.Goals as goal

pub returns-in_err-node : goal.returns-in_err-node
returns-in_err-node c =
    stops c.args.text.now _ c.from_residual.result _ c.from_residual.ensures.1 _
    (string_stops c.args.text.now c.args.raw c.requires.1 c.in_err-node.field-0.0 c.in_err-node.ensures.escape)

pub returns : goal.returns
returns c = (
  (c.in_ok-node.ensures.value, ap (λ l. Some l) c.loc.ensures),
  string_faultless c.args.text.now c.args.raw c.requires.1
      c.in_ok-node.ensures.lawful,
)
