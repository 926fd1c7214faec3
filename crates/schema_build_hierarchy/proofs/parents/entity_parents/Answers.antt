use Rattle.std.proofs.Common.{◌≡◌, sym, ap, ◌∙◌, subst}
use Rattle.schema_resolve_definitions.specs.Tests.{tests_of}
use Rattle.schema_build_hierarchy.specs.Parents.{written_parents, AreMeantIn}
use Rattle.schema_build_hierarchy.proofs.parents.entity_parents.Goals as goal

pub targets_of-requires : goal.targets_of-requires
targets_of-requires c =
    let names : written_parents c.args.entry.now.ty.now.kind ≡ c.as_slice-parents.result.now =
    ap written_parents c.in-Standard.is ∙ ap (λ s. s.member_of_types) (sym c.get.ensures)
    ∙ sym c.as_slice-parents.ensures in
    subst (AreMeantIn (tests_of c.args.defs.now) c.args.entry.now.ns.now) names c.requires
