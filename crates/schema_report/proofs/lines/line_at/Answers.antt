use Rattle.std.proofs.Common.{get_or, subst, sym, refl}
use Rattle.schema_report.specs.Lines.{IsLineFrom}
use Rattle.schema_report.proofs.LineLemmas.{start_boundary, line_from_end}
use Rattle.schema_report.proofs.lines.line_at.Goals as goal

pub range-requires-clause-start_boundary : goal.range-requires-clause-start_boundary
range-requires-clause-start_boundary c some =
    start_boundary c.args.text.now c.args.line _ c.utf8.text (c.requires.each c.args.line c.if-line-starts.false)

pub returns : goal.returns
returns c = (
  c.if-line-starts.false,
  refl,
  subst (IsLineFrom c.args.text.now c.args.line (get_or c.args.starts.now c.args.line 0)) (sym c.range.ensures.value)
      (line_from_end _ _ _ _ (c.requires.each c.args.line c.if-line-starts.false) c.line_end-end.ensures),
)
