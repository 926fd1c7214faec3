use Rattle.std.proofs.Common.{false}
use Rattle.cedar_identifiers.specs.NameReading.{is_single}
use Rattle.cedar_identifiers.proofs.Reading.{token_stops}
use Rattle.cedar_identifiers.proofs.name_reader.past_separator.Goals as goal

pub returns-in_ok-from_str-in-Piece-clause-err : goal.returns-in_ok-from_str-in-Piece-clause-err
returns-in_ok-from_str-in-Piece-clause-err c =
    token_stops (is_single c.args.kind) false c.args.text.now c.in-Piece.piece.now c.in-Piece.rest.now _
    c.in-Piece.ensures c.in_ok-from_str-in-Piece.ensures (rw c.if-separates.false at c.separates.ensures)
