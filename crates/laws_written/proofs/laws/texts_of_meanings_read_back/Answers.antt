use Rattle.std.proofs.Common.{subst}
use Rattle.std.specs.List.{flat_map}
use Rattle.laws_written.specs.PrintedDecls.{group_items}
use Rattle.laws_written.specs.Meant.{groups_of_meaning}
use Rattle.laws_written.specs.ReadsBack.{ReadsBack}
use Rattle.laws_written.proofs.laws.texts_of_meanings_read_back.Goals as goal

pub returns : goal.returns
returns c = λ closing m h.
    subst (λ text. ReadsBack text (flat_map group_items (groups_of_meaning m)))
    (c.texts_of_meanings_are_laid_out.ensures closing m)
    (c.laid_schemas_read_back.ensures closing (groups_of_meaning m) h)
