use Rattle.cedar_schema_core.proofs.Canonical.{json_means, one_json_text, one_json_count}
use Rattle.cedar_schema_core.proofs.laws.recovered_json_recovers_itself.Goals as goal

pub returns : goal.returns
returns c =
    let one = c.one_text_meaning.ensures in
    let json = c.texts_of_json_mean_the_same.ensures in
    record {
      text = λ form text table first second h whole k. one_json_text one json form text table first second h whole k;
      entity_types = λ form text table first second h whole k.
          (one_json_count one json form text table first second h whole k).0;
      actions = λ form text table first second h whole k.
          (one_json_count one json form text table first second h whole k).1;
      means = λ form text table first h whole. json_means one json form text table first h whole;
    }
