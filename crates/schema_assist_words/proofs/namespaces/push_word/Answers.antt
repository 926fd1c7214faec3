use Rattle.std.proofs.Common.{◌≡◌, sym, ap, ◌∙◌, true}
use Rattle.cedar_identifiers.specs.Words.{is_id}
use Rattle.schema_assist_words.proofs.Named.{id_text, texts_more}
use Rattle.schema_assist_words.proofs.namespaces.push_word.Goals as goal

pub id_of-requires : goal.id_of-requires
id_of-requires c =
    let word = c.args.word.now in
    let is : is_id word ≡ true = sym c.if-not-is_id.ensures in
    ap is_id (id_text c.in_ok-text.text word c.in_ok-text.ensures is) ∙ is

pub returns : goal.returns
returns c =
    let word = c.args.word.now in
    let is : is_id word ≡ true = sym c.if-not-is_id.ensures in
    let text = id_text c.in_ok-text.text word c.in_ok-text.ensures is in (
      is,
      texts_more c.args.ids.now.items c.push.new.self.items c.id_of.result word c.in_ok-push.ensures.items
          (c.id_of.ensures ∙ text),
    )
