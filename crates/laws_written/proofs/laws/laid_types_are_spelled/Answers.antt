use Rattle.laws_written.specs.Printed.{type_pieces}
use Rattle.laws_written.proofs.Printing.{spells_type, follow_type}
use Rattle.laws_written.proofs.MeantTexts.{type_laid}
use Rattle.laws_written.proofs.laws.laid_types_are_spelled.Goals as goal

pub returns-clause-spelled : goal.returns-clause-spelled
returns-clause-spelled c = spells_type c.laid_text_is_read.ensures.string c.quoted_is_one_string.ensures.value

pub returns-clause-read : goal.returns-clause-read
returns-clause-read c = λ closing base t h. c.laid_text_is_read.ensures.read (type_pieces closing base t)
    (follow_type c.laid_text_is_read.ensures.string c.quoted_is_one_string.ensures.value closing base t h)

pub returns-clause-meant : goal.returns-clause-meant
returns-clause-meant c = type_laid
