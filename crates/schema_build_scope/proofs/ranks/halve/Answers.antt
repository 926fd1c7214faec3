use Rattle.std.proofs.Common.{arith, sym, ap, ◌∙◌}
use Rattle.std.specs.Option.{option_copied}
use Rattle.cedar_data.proofs.Halving.{below_more, above_more}
use Rattle.cedar_identifiers.specs.Candidates.{qualified}
use Rattle.cedar_names.specs.Orders.{names_in_order, names_total}
use Rattle.schema_build_scope.proofs.ranks.halve.Goals as goal

pub loop-low-preserved-in-Less : goal.loop-low-preserved-in-Less
loop-low-preserved-in-Less g c =
    let l = c.loop-low in
    let full = qualified (option_copied c.args.ns) c.args.name.now in
    record {
      ordered = omega arith;
      gap = below_more names_total full c.args.entries.now l.low l.high _
          c.index-entries-middle.result c.requires l.invariant.gap (omega arith) c.index-entries-middle.is
          (ap (λ e. names_in_order e.0 full) c.index-entries-middle.is ∙ sym c.compare.ensures ∙ c.in-Less.is);
    }

pub loop-low-preserved : goal.loop-low-preserved
loop-low-preserved g c =
    let l = c.loop-low in
    let full = qualified (option_copied c.args.ns) c.args.name.now in
    record {
      ordered = omega arith;
      gap = above_more names_total full c.args.entries.now l.low l.high _
          c.index-entries-middle.result c.requires l.invariant.gap (omega arith) c.index-entries-middle.is
          (ap (λ e. names_in_order e.0 full) c.index-entries-middle.is ∙ sym c.compare.ensures ∙ c.in-Greater.is);
    }
