use Rattle.std.specs.List.{flat_map}
use Rattle.schema_syntax_tokens.specs.Laid.{laid, lexemes_of}
use Rattle.laws_written.specs.PrintedDecls.{schema_pieces, group_items}
use Rattle.laws_written.proofs.ReadingBack.{reads_back}
use Rattle.laws_written.proofs.laws.laid_schemas_read_back.Goals as goal

pub returns : goal.returns
returns c = λ closing groups h.
    reads_back c.one_value.ensures.value_or_bad (laid (schema_pieces closing groups))
    (lexemes_of (schema_pieces closing groups)) (flat_map group_items groups)
    (c.laid_schemas_are_spelled.ensures.read closing groups h)
    (c.laid_schemas_are_spelled.ensures.spelled closing groups h)
