use Rattle.std.proofs.Common.{◌≡◌, ◌+◌, ◌-◌, arith, length, sym, ap, ◌∙◌, subst}
use Rattle.std.specs.Option.{option_copied}
use Rattle.cedar_data.specs.Halving.{IsGap}
use Rattle.cedar_data.proofs.Halving.{below_more}
use Rattle.cedar_identifiers.specs.Candidates.{qualified}
use Rattle.cedar_names.specs.Orders.{names_in_order, names_total}
use Rattle.schema_build_scope.proofs.ranks.are_below.Goals as goal

pub returns-in-Less-clause-below : goal.returns-in-Less-clause-below
returns-in-Less-clause-below g c = λ told.
    let full = qualified (option_copied c.args.ns) c.args.name.now in
    let entries = c.args.entries.now in
    let at = c.args.at in
    let behind : at - 1 + 1 ≡ at = omega (arith, c.if-at-eq0.false) in
    let anywhere : IsGap names_in_order full entries 0 (length entries) = record {
      in_range = omega arith;
      below = λ k d lt. absurd (omega (arith, lt));
      above = λ k d ge lt. absurd (omega (arith, ge, lt));
    } in
    subst (λ i. IsGap names_in_order full entries i (length entries)) behind
    (below_more names_total full entries 0 (length entries) (at - 1) c.index-entries-at.result c.requires anywhere
    (omega (arith, c.if-at-eq0.false, c.if-at-entries.false)) c.index-entries-at.is
    (ap (λ e. names_in_order e.0 full) c.index-entries-at.is ∙ sym c.compare.ensures ∙ c.in-Less.is))
