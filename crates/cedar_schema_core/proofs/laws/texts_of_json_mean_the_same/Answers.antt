use Rattle.cedar_names.specs.CanonicalText.{schema_text}
use Rattle.cedar_schema_core.proofs.Canonical.{json_closed}
use Rattle.cedar_schema_core.proofs.laws.texts_of_json_mean_the_same.Goals as goal

pub returns : goal.returns
returns c = λ closing form text table m j.
    let closed = json_closed c.meanings_of_json_are_closed.ensures c.meanings_of_old_json_are_closed.ensures form text
    table m j in (
      λ t. closed.0 (c.meanings_of_texts_are_closed.ensures (schema_text closing m) table t.fragment t.translated.0 m
          t.translated.1 t.means t.faultless t.uncaptured),
      λ whole. c.texts_of_closed_meanings_mean_them.ensures closing table m (closed.1 whole),
    )
