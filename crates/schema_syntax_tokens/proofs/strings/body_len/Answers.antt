use Rattle.std.proofs.Common.{arith}
use Rattle.schema_syntax_tokens.proofs.Bodies.{HasPieces-none, HasPieces-plain, HasPieces-escaped, HasPieces-quote}
use Rattle.schema_syntax_tokens.proofs.Bodies.{HasPieces-lone, HasPieces-line_end, HasPieces-all}
use Rattle.schema_syntax_tokens.proofs.strings.body_len.Goals as goal

pub loop-at-init : goal.loop-at-init
loop-at-init c = HasPieces-none _

pub returns-then-byte-eq34 : goal.returns-then-byte-eq34
returns-then-byte-eq34 c = HasPieces-quote _ _ c.loop-at.invariant (omega arith) (omega arith)

pub loop-at-preserved-then-byte-ne92 : goal.loop-at-preserved-then-byte-ne92
loop-at-preserved-then-byte-ne92 c = HasPieces-plain _ _ c.loop-at.invariant (omega arith) (omega arith) (omega arith)

pub returns-then-rest-at-lt2 : goal.returns-then-rest-at-lt2
returns-then-rest-at-lt2 c = HasPieces-lone _ _ c.loop-at.invariant (omega arith) (omega arith) (omega arith)

pub returns-then-rest-at-eq10 : goal.returns-then-rest-at-eq10
returns-then-rest-at-eq10 c = HasPieces-line_end _ _ c.loop-at.invariant (omega arith) (omega arith) (omega arith)

pub loop-at-preserved : goal.loop-at-preserved
loop-at-preserved c = HasPieces-escaped _ _ c.loop-at.invariant (omega arith) (omega arith) (omega arith)

pub returns : goal.returns
returns c = HasPieces-all _ _ c.loop-at.invariant (omega arith)
