use Rattle.std.proofs.Common.{◌≡◌, slice_range, Some, false, sym, ap, ◌∙◌}
use Rattle.std.specs.Str.{chars}
use Rattle.cedar_identifiers.specs.Words.{is_reserved, is_id}
use Rattle.schema_syntax_errors.specs.declared.user_error.UserError.TheVariants.{ReservedIdentifierUsed}
use Rattle.schema_syntax_reader.specs.Leaves.{word_at}
use Rattle.schema_syntax_reader.proofs.PlacedWords.{word_is_bytes, id_there}
use Rattle.schema_syntax_reader.proofs.words.name_word.Goals as goal

pub returns-then-is_reserved_word-clause-reserved : goal.returns-then-is_reserved_word-clause-reserved
returns-then-is_reserved_word-clause-reserved c =
    let source = c.args.text.now in
    let t = c.args.token.now in
    let part : c.unwrap-part.result.now
    ≡ slice_range source t.loc.start t.loc.end = rw c.unwrap-part.ensures at c.token_text.ensures.value in
    let word : c.in_ok-word.word ≡ word_at source t = c.in_ok-word.ensures ∙ ap chars part in (
      ap is_reserved (word_is_bytes source t c.requires ∙ sym part)
          ∙ (sym c.is_reserved_word.ensures ∙ c.if-is_reserved_word.true),
      c.in_ok-new.ensures ∙ (λ i. ReservedIdentifierUsed (record { node = word i; loc = Some (c.loc.ensures i) })),
    )

pub of-requires : goal.of-requires
of-requires c =
    let source = c.args.text.now in
    let t = c.args.token.now in
    let part : c.unwrap-part.result.now
    ≡ slice_range source t.loc.start t.loc.end = rw c.unwrap-part.ensures at c.token_text.ensures.value in
    let bytes = word_is_bytes source t c.requires in
    let free : is_reserved (word_at source t) ≡ false = ap is_reserved (bytes ∙ sym part)
    ∙ (sym c.is_reserved_word.ensures ∙ c.if-is_reserved_word.false) in
    ap is_id (part ∙ sym bytes) ∙ id_there source t c.requires free

pub returns-clause-name : goal.returns-clause-name
returns-clause-name c =
    let source = c.args.text.now in
    let t = c.args.token.now in
    let part : c.unwrap-part.result.now
    ≡ slice_range source t.loc.start t.loc.end = rw c.unwrap-part.ensures at c.token_text.ensures.value in
    c.of.ensures ∙ (part ∙ sym (word_is_bytes source t c.requires))

pub returns-clause-free : goal.returns-clause-free
returns-clause-free c =
    let source = c.args.text.now in
    let t = c.args.token.now in
    let part : c.unwrap-part.result.now
    ≡ slice_range source t.loc.start t.loc.end = rw c.unwrap-part.ensures at c.token_text.ensures.value in
    ap is_reserved (word_is_bytes source t c.requires ∙ sym part)
    ∙ (sym c.is_reserved_word.ensures ∙ c.if-is_reserved_word.false)
