use Rattle.std.specs.Str.{chars}
use Rattle.std.proofs.Common.{sym, ap, ◌∙◌}
use Rattle.cedar_identifiers.proofs.Ids.{id_bytes}
use Rattle.schema_syntax_tree.proofs.LentTexts.{id_chars}
use Rattle.schema_syntax_tree.proofs.src_id.SrcId.as_str.Goals as goal

pub returns : goal.returns
returns c =
    let word = ap (λ id. id.text) c.self.view_is in
    record {
      word = word;
      characters = ap chars word
          ∙ id_chars c.args.self.now.text c.args.self.now.word;
      bytes = word ∙ sym (id_bytes c.args.self.now.text c.args.self.now.word);
    }
