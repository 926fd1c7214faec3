use Rattle.std.specs.List.{flat_map}
use Rattle.cedar_names.specs.CanonicalText.{schema_text}
use Rattle.laws_written.specs.Meant.{groups_of_meaning}
use Rattle.laws_written.specs.PrintedDecls.{group_items}
use Rattle.laws_translate.proofs.laws.texts_of_meanings_are_translated.Goals as goal

pub returns : goal.returns
returns c = λ closing m h k.
    let proper = c.meanings_may_be_printed.ensures m h in
    c.texts_that_read_back_are_translated.ensures (schema_text closing m) (flat_map group_items (groups_of_meaning m))
    (c.texts_of_meanings_read_back.ensures closing m proper)
    (c.proper_groups_are_named.ensures (groups_of_meaning m) proper) (c.meanings_can_be_translated.ensures m k)
