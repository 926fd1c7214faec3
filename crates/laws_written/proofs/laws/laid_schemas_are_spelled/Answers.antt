use Rattle.laws_written.specs.PrintedDecls.{schema_pieces}
use Rattle.laws_written.proofs.PrintingDecls.{spells_schema, follow_schema}
use Rattle.laws_written.proofs.laws.laid_schemas_are_spelled.Goals as goal

pub returns-clause-spelled : goal.returns-clause-spelled
returns-clause-spelled c = spells_schema c.laid_text_is_read.ensures.string c.quoted_is_one_string.ensures.value

pub returns-clause-read : goal.returns-clause-read
returns-clause-read c = λ closing groups h. c.laid_text_is_read.ensures.read (schema_pieces closing groups)
    (follow_schema c.laid_text_is_read.ensures.string c.quoted_is_one_string.ensures.value closing groups h)
