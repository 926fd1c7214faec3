use Rattle.std.proofs.Common.{[]}
use Rattle.schema_json_shapes.specs.Walk.{fragment, demands}
use Rattle.schema_json_shapes.proofs.Demands.{met_or_unmet}
use Rattle.laws_json.proofs.Current.OneFragment.{one_fragment, one_fault_of}
use Rattle.laws_json.proofs.current_form.one_fragment_or_fault.Goals as goal

pub returns : goal.returns
returns c = record {
  fragment = λ d f g h k. one_fragment d f g h k;
  fault = λ d e other h k. one_fault_of (demands fragment [] d) e other h k;
  never_both = λ d f e m u. met_or_unmet (demands fragment [] d) e m.0 u;
}
