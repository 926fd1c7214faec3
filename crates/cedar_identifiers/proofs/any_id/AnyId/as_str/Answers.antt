use Rattle.std.proofs.Common.{◌∙◌}
use Rattle.cedar_data.proofs.Ascii.{word_bytes}
use Rattle.cedar_identifiers.proofs.any_id.AnyId.as_str.Goals as goal

pub returns : goal.returns
returns c = c.as_str.ensures.bytes ∙ word_bytes c.args.self.now.text c.args.self.now.word
