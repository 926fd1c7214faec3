use Rattle.std.proofs.Common.{sym, ap, ◌∙◌}
use Rattle.std.specs.Option.{is_some}
use Rattle.std.proofs.lemmas.Result.{IfOk-weaker}
use Rattle.cedar_identifiers.specs.Candidates.{qualified}
use Rattle.cedar_identifiers.specs.declared.reference_type.ReferenceType.TheVariants.{Entity}
use Rattle.schema_resolve_definitions.specs.Declarations.{name_of}
use Rattle.schema_resolve_definitions.specs.Tests.{tests_of}
use Rattle.schema_resolve_targets.specs.Tried.{own_kind}
use Rattle.schema_build_hierarchy.proofs.EntityTargets.{own_target, known_target}
use Rattle.schema_build_hierarchy.proofs.parents.known_target.Goals as goal

pub returns-then-is_own_entity : goal.returns-then-is_own_entity
returns-then-is_own_entity c =
    let t = tests_of c.args.defs.now in
    let ns = name_of c.args.ns.now in
    let name = c.args.name.now.name in
    IfOk-weaker c.qualify_with.result _ _ (λ found is.
    own_target t ns name
    (ap (λ n. is_some (own_kind t n Entity name)) (sym c.name_of-ns.ensures) ∙ sym c.is_own_entity.ensures
    ∙ c.if-is_own_entity.true)
    found
    (is ∙ ap (λ n. qualified n c.in_ok-known.known) c.name_of-ns.ensures ∙ ap (qualified ns) c.in_ok-known.ensures))
    c.qualify_with.ensures.name

pub returns-else-is_own_entity : goal.returns-else-is_own_entity
returns-else-is_own_entity c =
    let t = tests_of c.args.defs.now in
    let ns = name_of c.args.ns.now in
    let name = c.args.name.now.name in
    known_target t ns name
    (ap (λ n. is_some (own_kind t n Entity name)) (sym c.name_of-ns.ensures) ∙ sym c.is_own_entity.ensures
    ∙ c.if-is_own_entity.false)
    c.requires
    c.in_ok-known.known
    c.in_ok-known.ensures
