use Rattle.std.proofs.Common.{◌∙◌}
use Rattle.cedar_identifiers.proofs.Ids.{id_is_word}
use Rattle.cedar_data.proofs.Ascii.{word_bytes}
use Rattle.cedar_identifiers.proofs.id.Id.as_str.Goals as goal

pub returns : goal.returns
returns c = c.as_str.ensures.bytes
    ∙ word_bytes c.args.self.now.text (id_is_word c.args.self.now.text c.args.self.now.word)
