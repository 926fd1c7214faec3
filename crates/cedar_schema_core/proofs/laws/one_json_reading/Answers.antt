use Rattle.cedar_schema_core.proofs.JsonRefusals.{one_json_meaning, json_refusal_once, json_invalid}
use Rattle.cedar_schema_core.proofs.laws.one_json_reading.Goals as goal

pub returns : goal.returns
returns c =
    let meaning = c.one_fragment_meaning.ensures in
    record {
      meaning = λ form text table m n h k. one_json_meaning meaning form text table m n h k;
      refusal = λ form text table e other n m h k. json_refusal_once meaning form text table
          c.one_build_fault.ensures e other n m h k;
      invalid = λ form text table e h n valid. json_invalid meaning form text table e h n valid;
    }
