use Rattle.laws_json.proofs.Current.OneReading.{one_text_fragment, one_error, said_or_refused}
use Rattle.laws_json.proofs.current_form.one_fragment_or_error.Goals as goal

pub returns : goal.returns
returns c = record {
  fragment = λ text f g h k. one_text_fragment text f g h k;
  error = one_error;
  never_both = λ text f e h n k. said_or_refused text f e h n k;
}
