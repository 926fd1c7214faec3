use Rattle.std.proofs.Common.{sym, subst}
use Rattle.std.specs.Str.{IsUtf8}
use Rattle.cedar_identifiers.specs.NamePieces.{here}
use Rattle.cedar_identifiers.proofs.Blanks.{past-blank, behind-blank}
use Rattle.cedar_identifiers.proofs.name_pieces.past_blanks.Goals as goal

pub loop-after-init : goal.loop-after-init
loop-after-init c = (c.utf8.text, here)

pub loop-after-smaller : goal.loop-after-smaller
loop-after-smaller c = rw c.in-Some.ensures.1
    (past-blank c.loop-after.rest.now c.loop-after.invariant.0 c.in-Some.ensures.0).shorter

pub loop-after-preserved : goal.loop-after-preserved
loop-after-preserved c = (
  subst IsUtf8 (sym c.in-Some.ensures.1)
      (past-blank c.loop-after.rest.now c.loop-after.invariant.0 c.in-Some.ensures.0).rest,
  behind-blank _ c.loop-after.rest.now c.in-Some.after.now c.in-Some.ensures.0 c.in-Some.ensures.1
      c.loop-after.invariant.1,
)
