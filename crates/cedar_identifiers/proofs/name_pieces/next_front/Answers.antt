use Rattle.std.proofs.Common.{◌≡◌, take, drop, ap, ◌∙◌, arith}
use Rattle.cedar_identifiers.specs.NamePieces.{piece_len}
use Rattle.cedar_identifiers.proofs.Pieces.{piece_len-boundary, begins-piece}
use Rattle.cedar_identifiers.proofs.name_pieces.next_front.Goals as goal

pub split_at-requires : goal.split_at-requires
split_at-requires c =
    let rest = c.past_blanks-rest.result.now in
    let len : c.piece_len-len.result ≡ piece_len rest = c.piece_len-len.ensures
    ∙ ap piece_len c.as_bytes.ensures.value in
    rw len (piece_len-boundary rest c.past_blanks-rest.utf8 (omega (arith, len)))

pub returns-else-len-eq0 : goal.returns-else-len-eq0
returns-else-len-eq0 c =
    let rest = c.past_blanks-rest.result.now in
    let len : c.piece_len-len.result ≡ piece_len rest = c.piece_len-len.ensures
    ∙ ap piece_len c.as_bytes.ensures.value in
    begins-piece c.args.text.now rest _ _ c.past_blanks-rest.ensures.skipped c.past_blanks-rest.ensures.no_blank
    (omega (arith, len))
    (c.split_at.ensures.front ∙ ap (λ n. take n rest) len) (c.split_at.ensures.back ∙ ap (λ n. drop n rest) len)
