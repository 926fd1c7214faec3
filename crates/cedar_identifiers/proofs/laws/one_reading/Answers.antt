use Rattle.cedar_identifiers.proofs.Unique.{one_name, no_fault, one_fault}
use Rattle.cedar_identifiers.proofs.laws.one_reading.Goals as goal

pub returns : goal.returns
returns c = record {
  one_name = one_name c.args.text.now;
  no_fault = no_fault c.args.text.now;
  one_fault = one_fault c.args.text.now;
}
