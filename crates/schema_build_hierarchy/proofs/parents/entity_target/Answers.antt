use Rattle.std.proofs.Common.{sym, ap, ◌∙◌}
use Rattle.std.specs.Option.{is_some}
use Rattle.cedar_identifiers.specs.Candidates.{qualified}
use Rattle.cedar_identifiers.specs.declared.reference_type.ReferenceType.TheVariants.{Entity}
use Rattle.schema_resolve_definitions.specs.Declarations.{name_of}
use Rattle.schema_resolve_definitions.specs.Tests.{tests_of}
use Rattle.schema_resolve_targets.specs.Tried.{own_kind}
use Rattle.schema_build_hierarchy.proofs.EntityTargets.{own_target, plain_target, no_target}
use Rattle.schema_build_hierarchy.proofs.parents.entity_target.Goals as goal

pub returns-then-is_own_entity : goal.returns-then-is_own_entity
returns-then-is_own_entity c =
    let t = tests_of c.args.defs.now in
    let ns = name_of c.args.ns.now in
    let name = c.args.name.now.name in
    own_target t ns name
    (ap (λ n. is_some (own_kind t n Entity name)) (sym c.name_of-ns.ensures) ∙ sym c.is_own_entity.ensures
    ∙ c.if-is_own_entity.true)
    c.in_ok-qualify_with.field-0
    (c.in_ok-qualify_with.ensures.name ∙ ap (λ n. qualified n c.in_ok-own.own) c.name_of-ns.ensures
    ∙ ap (qualified ns) c.in_ok-own.ensures)

pub returns-then-is_defined_as_entity : goal.returns-then-is_defined_as_entity
returns-then-is_defined_as_entity c =
    let t = tests_of c.args.defs.now in
    let ns = name_of c.args.ns.now in
    let name = c.args.name.now.name in
    plain_target t ns name
    (ap (λ n. is_some (own_kind t n Entity name)) (sym c.name_of-ns.ensures) ∙ sym c.is_own_entity.ensures
    ∙ c.if-is_own_entity.false)
    (sym c.is_defined_as_entity.ensures ∙ c.if-is_defined_as_entity.true)
    c.in_ok-clone_in.field-0
    c.in_ok-clone_in.ensures

pub returns : goal.returns
returns c =
    let t = tests_of c.args.defs.now in
    let ns = name_of c.args.ns.now in
    let name = c.args.name.now.name in
    no_target t ns name
    (ap (λ n. is_some (own_kind t n Entity name)) (sym c.name_of-ns.ensures) ∙ sym c.is_own_entity.ensures
    ∙ c.if-is_own_entity.false)
    (sym c.is_defined_as_entity.ensures ∙ c.if-is_defined_as_entity.false)
