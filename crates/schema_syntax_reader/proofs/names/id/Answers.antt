use Rattle.schema_syntax_reader.proofs.NameReads.{reads_word}
use Rattle.schema_syntax_reader.proofs.names.id.Goals as goal

pub returns : goal.returns
returns c =
    reads_word c.args.text.now c.args.token.now c.requires.1 _ c.name_word.result c.name_word.ensures.name
    c.name_word.ensures.free c.name_word.ensures.reserved
