use Rattle.std.proofs.Common.{arith}
use Rattle.schema_syntax_tokens.specs.Scans.Skips.{none}
use Rattle.schema_syntax_tokens.proofs.Blank.{skips_more, IsUtf8-past_blank}
use Rattle.schema_syntax_tokens.proofs.blanks.past_blanks.Goals as goal

pub loop-after-init : goal.loop-after-init
loop-after-init c = (c.utf8.text, none, omega arith)

pub loop-after-preserved : goal.loop-after-preserved
loop-after-preserved c =
    let past = c.in-Some.ensures.cases in (
      IsUtf8-past_blank c.loop-after.rest.now c.in-Some.after.now c.loop-after.invariant.0 past,
      skips_more
          c.loop-after.invariant.1 past,
      omega (arith, c.in-Some.ensures.shorter),
    )
