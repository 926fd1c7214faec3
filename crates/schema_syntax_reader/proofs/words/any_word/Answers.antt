use Rattle.std.proofs.Common.{◌≡◌, slice_range, sym, ap, ◌∙◌}
use Rattle.cedar_data.specs.Words.{is_word}
use Rattle.schema_syntax_reader.proofs.PlacedWords.{word_there, word_is_bytes}
use Rattle.schema_syntax_reader.proofs.words.any_word.Goals as goal

pub of-requires : goal.of-requires
of-requires c =
    let source = c.args.text.now in
    let t = c.args.token.now in
    let part : c.unwrap.result.now
    ≡ slice_range source t.loc.start t.loc.end = rw c.unwrap.ensures at c.token_text.ensures.value in
    ap is_word (part ∙ sym (word_is_bytes source t c.requires)) ∙ word_there source t c.requires

pub returns : goal.returns
returns c =
    let source = c.args.text.now in
    let t = c.args.token.now in
    let part : c.unwrap.result.now
    ≡ slice_range source t.loc.start t.loc.end = rw c.unwrap.ensures at c.token_text.ensures.value in
    c.of.ensures ∙ (part ∙ sym (word_is_bytes source t c.requires))
