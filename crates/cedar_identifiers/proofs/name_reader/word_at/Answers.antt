use Rattle.std.proofs.Common.{refl, sym, ◌∙◌}
use Rattle.cedar_identifiers.specs.NameReading.{is_single}
use Rattle.cedar_identifiers.proofs.Reading.{word_here, no_word_here}
use Rattle.cedar_identifiers.proofs.name_reader.word_at.Goals as goal

pub invariant_of-result : goal.invariant_of-result
invariant_of-result c =
    record {
      word = (word_here c.args.text.now c.in-Piece.piece.now c.in-Piece.rest.now _ _ c.in-Piece.ensures
          c.in_ok-text-in-Piece.ensures refl (sym c.is_word.ensures ∙ c.if-is_word.true)).word;
    }

pub returns-then-is_word-clause-ok : goal.returns-then-is_word-clause-ok
returns-then-is_word-clause-ok c =
    (word_here c.args.text.now c.in-Piece.piece.now c.in-Piece.rest.now _ _ c.in-Piece.ensures
    c.in_ok-text-in-Piece.ensures refl (sym c.is_word.ensures ∙ c.if-is_word.true)).begins

pub returns-else-is_word-clause-err : goal.returns-else-is_word-clause-err
returns-else-is_word-clause-err c =
    no_word_here (is_single c.args.kind) c.args.text.now c.in-Piece.piece.now c.in-Piece.rest.now _ _
    c.in-Piece.ensures c.in_ok-text-in-Piece.ensures refl (sym c.is_word.ensures ∙ c.if-is_word.false)
