use Rattle.std.proofs.Common.{arith}
use Rattle.schema_report.proofs.MarkLemmas.{cut_units}
use Rattle.schema_report.proofs.lines.units_between.Goals as goal

pub overflow_sub-result : goal.overflow_sub-result
overflow_sub-result c = omega (
  arith,
  cut_units c.args.units c.args.text.now c.args.start c.args.end c.utf8.text c.requires.start c.requires.order,
  c.units_before.ensures,
  c.units_before-2.ensures,
)

pub returns : goal.returns
returns c = omega (
  arith,
  cut_units c.args.units c.args.text.now c.args.start c.args.end c.utf8.text c.requires.start c.requires.order,
  c.units_before.ensures,
  c.units_before-2.ensures,
)
