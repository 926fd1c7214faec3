use Rattle.std.specs.List.{flat_map}
use Rattle.cedar_names.specs.CanonicalText.{schema_text}
use Rattle.schema_convert_plain.specs.Translation.{translated}
use Rattle.laws_written.specs.Meant.{groups_of_meaning}
use Rattle.laws_written.specs.PrintedDecls.{group_items}
use Rattle.cedar_schema_core.proofs.Canonical.{text_means}
use Rattle.cedar_schema_core.proofs.laws.texts_of_closed_meanings_mean_them.Goals as goal

pub returns : goal.returns
returns c = λ closing table m closed.
    let t = c.texts_of_meanings_are_translated.ensures closing m closed.words closed.open_names in
    text_means c.syntax_is_sentence.ensures (schema_text closing m) (flat_map group_items (groups_of_meaning m))
    table m t
    (c.what_says_a_closed_meaning_means_it.ensures.means (translated t.reads.tree) table m t.says closed)
    (c.what_says_a_closed_meaning_means_it.ensures.faultless (translated t.reads.tree) table m t.says closed)
    closed.uncaptured
