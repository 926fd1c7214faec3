use Rattle.laws_json.proofs.Back.Reading.{value_said, value_alone, value_refused}
use Rattle.laws_json.proofs.written_values.sayable_values_are_read.Goals as goal

pub returns : goal.returns
returns c = record {
  said = λ f p. value_said f p;
  alone = λ f g p h. value_alone f g p h;
  refused = λ f e p h. value_refused f e.fault p h.0;
}
