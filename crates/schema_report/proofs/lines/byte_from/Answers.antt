use Rattle.std.proofs.Common.{◌≡◌, ◌+◌, Some, sym, ap, ◌∙◌}
use Rattle.schema_report.proofs.LineLemmas.{column_in_text, column_from_text}
use Rattle.schema_report.proofs.lines.byte_from.Goals as goal

pub returns-in_err-at-clause-back : goal.returns-in_err-at-clause-back
returns-in_err-at-clause-back c byte h =
    let found = column_from_text _ _ _ _ _ _ byte c.in_ok-start.ensures.2 h in
    cc (c.in_err-at.ensures.back found.0 found.1)

pub returns-clause-there : goal.returns-clause-there
returns-clause-there c = column_in_text _ _ _ _ _ _ _ c.in_ok-start.ensures.2 c.in_ok-at.ensures.there

pub returns-clause-back : goal.returns-clause-back
returns-clause-back c byte h =
    let found = column_from_text _ _ _ _ _ _ byte c.in_ok-start.ensures.2 h in
    let same : Some c.in_ok-at.at ≡ Some found.0 = c.in_ok-at.ensures.back found.0 found.1 in
    let at : c.in_ok-at.at ≡ found.0 = cc in
    ap Some (ap (λ n. c.in_ok-start.start + n) at ∙ sym found.2)
