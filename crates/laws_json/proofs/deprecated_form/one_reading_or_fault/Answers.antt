use Rattle.schema_json_shapes.proofs.Demands.{met_or_unmet}
use Rattle.laws_json.proofs.Current.OneFragment.{one_fault_of}
use Rattle.schema_compat_shapes.specs.OldWalk.{old_demands}
use Rattle.laws_json.proofs.Deprecated.OneOldFragment.{one_old_fragment}
use Rattle.laws_json.proofs.deprecated_form.one_reading_or_fault.Goals as goal

pub returns : goal.returns
returns c = record {
  fragment = λ d f g h k. one_old_fragment d f g h k;
  fault = λ d e other h k. one_fault_of (old_demands d) e other h k;
  never_both = λ d f e m u. met_or_unmet (old_demands d) e m.0 u;
}
