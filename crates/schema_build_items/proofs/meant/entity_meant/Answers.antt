use Rattle.std.proofs.Common.{refl, rules}
use Rattle.schema_resolve_definitions.specs.Declarations.{name_of}
use Rattle.schema_build_scope.specs.FragmentScope.{fragment_scope}
use Rattle.schema_build_items.specs.ActionKinds.{tests_alone}
use Rattle.schema_build_items.proofs.Targets.{entity_target}
use Rattle.schema_build_items.proofs.meant.entity_meant.Goals as goal

pub unreachable-requires : goal.unreachable-requires
unreachable-requires c =
    let v = c.in_namespace.result in
    let f = v.names.now.fragment in
    let table = v.names.now.table in
    entity_target (tests_alone f table) (fragment_scope f table) (name_of v.ns.now) c.args.name.now
    c.in_ok-target.target refl
    c.in_ok-target.ensures c.in_default.not-Entity

pub returns-in_err-target : goal.returns-in_err-target
returns-in_err-target c = search rules
