use Rattle.cedar_schema_core.proofs.Canonical.{recovered_means, one_text, one_count}
use Rattle.cedar_schema_core.proofs.laws.recovered_texts_recover_themselves.Goals as goal

pub returns : goal.returns
returns c =
    let one = c.one_text_meaning.ensures in
    let same = c.canonical_texts_mean_the_same.ensures in
    record {
      text = λ text table first second h k. one_text one same text table first second h k;
      entity_types = λ text table first second h k. (one_count one same text table first second h k).0;
      actions = λ text table first second h k. (one_count one same text table first second h k).1;
      valid = λ text table first h. (h.meaning, recovered_means one same text table first h);
    }
