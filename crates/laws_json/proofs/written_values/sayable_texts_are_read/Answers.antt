use Rattle.laws_json.proofs.Current.OneReading.{said_or_refused}
use Rattle.laws_translate.specs.BareFragments.{bare_fragment}
use Rattle.laws_json.proofs.Back.Reading.{text_said, text_alone}
use Rattle.laws_json.proofs.written_values.sayable_texts_are_read.Goals as goal

pub returns : goal.returns
returns c = record {
  said = λ text f p h. text_said text f p h;
  alone = λ text f g p h k. text_alone text f g p h k;
  refused = λ text f e p h n k. said_or_refused text (bare_fragment f) e (text_said text f p h) n k;
}
