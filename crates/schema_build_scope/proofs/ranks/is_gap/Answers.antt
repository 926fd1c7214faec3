use Rattle.std.proofs.Common.{arith, length, sym, ap, ◌∙◌}
use Rattle.std.specs.Option.{option_copied}
use Rattle.cedar_data.proofs.Halving.{above_more}
use Rattle.cedar_identifiers.specs.Candidates.{qualified}
use Rattle.cedar_names.specs.Orders.{names_in_order, names_total}
use Rattle.schema_build_scope.proofs.ranks.is_gap.Goals as goal

pub returns-in-Greater : goal.returns-in-Greater
returns-in-Greater g c = λ told.
    let full = qualified (option_copied c.args.ns) c.args.name.now in
    let within = c.are_below.ensures.within c.if-not-are_below.false in
    above_more names_total full c.args.entries.now c.args.at (length c.args.entries.now) c.args.at
    c.index-entries-at.result c.requires (c.are_below.ensures.below c.if-not-are_below.false)
    (omega (arith, within, c.if-at-entries.false)) c.index-entries-at.is
    (ap (λ e. names_in_order e.0 full) c.index-entries-at.is ∙ sym c.compare.ensures ∙ c.in-Greater.is)
