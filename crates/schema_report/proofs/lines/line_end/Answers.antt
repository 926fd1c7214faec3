use Rattle.schema_report.proofs.LineLemmas.{ends_before_next, ends_with_text}
use Rattle.schema_report.proofs.lines.line_end.Goals as goal

pub returns-then-line-starts : goal.returns-then-line-starts
returns-then-line-starts c = ends_before_next _ _ _ _
    (c.requires.lines.each c.args.line c.requires.within) (c.requires.lines.each _ c.if-line-starts.true)

pub returns : goal.returns
returns c = ends_with_text _ _ _ c.requires.lines c.requires.within c.if-line-starts.false
