use Rattle.std.proofs.Common.{◌≡◌, sym, ap, ◌∙◌}
use Rattle.std.specs.Prelude.{if◌then◌else◌}
use Rattle.std.specs.Option.{option_copied}
use Rattle.cedar_identifiers.specs.Candidates.{qualified, behind}
use Rattle.cedar_names.specs.Orders.{names_in_order}
use Rattle.schema_build_scope.proofs.ranks.compare.Goals as goal

pub returns-else-is_unqualified : goal.returns-else-is_unqualified
returns-else-is_unqualified c =
    let name = c.args.name.now in
    let as_is : qualified (option_copied c.args.ns) name
    ≡ name = ap (λ o. qualified (option_copied o) name) c.in-Some.is
    ∙ ap (λ b. if b then behind c.in-Some.ns.now name else name)
    (sym c.is_unqualified.ensures ∙ c.if-is_unqualified.false) in
    c.cmp.ensures ∙ ap (names_in_order c.args.entry.now) (sym as_is)
