use Rattle.laws_json.proofs.Deprecated.OneOldReading.{one_old_text, one_old_error, old_said_or_refused}
use Rattle.laws_json.proofs.deprecated_form.one_old_fragment_or_error.Goals as goal

pub returns : goal.returns
returns c = record {
  fragment = λ text f g h k. one_old_text text f g h k;
  error = one_old_error;
  never_both = λ text f e h n k. old_said_or_refused text f e h n k;
}
