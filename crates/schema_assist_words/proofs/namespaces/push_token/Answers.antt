use Rattle.std.proofs.Common.{◌≡◌, sym, ap, ◌∙◌, true, false}
use Rattle.cedar_identifiers.specs.Names.{texts_of}
use Rattle.schema_syntax_grammar.specs.Grammar.{is_word_kind}
use Rattle.schema_assist_words.proofs.Named.{no_words, word_answer}
use Rattle.schema_assist_words.proofs.namespaces.push_token.Goals as goal

pub returns-then-not-is_word : goal.returns-then-not-is_word
returns-then-not-is_word c =
    let k : is_word_kind c.args.token.now.kind ≡ false =
    ap is_word_kind (sym c.kind-kind.ensures) ∙ sym c.if-not-is_word.ensures in
    no_words c.args.text.now c.args.token.now (texts_of c.args.ids.now.items) k

pub returns : goal.returns
returns c =
    let k : is_word_kind c.args.token.now.kind ≡ true =
    ap is_word_kind (sym c.kind-kind.ensures) ∙ sym c.if-not-is_word.ensures in
    word_answer c.args.text.now c.args.token.now (texts_of c.args.ids.now.items)
    (texts_of c.push_word.new.ids.items) c.text_of.result.now c.push_word.result k c.text_of.ensures c.push_word.ensures
