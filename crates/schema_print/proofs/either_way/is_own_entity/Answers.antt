use Rattle.std.proofs.Common.{◌≡◌, sym, refl, subst}
use Rattle.schema_resolve_definitions.specs.Declarations.{name_of}
use Rattle.schema_resolve_definitions.specs.Defined.{defined}
use Rattle.schema_resolve_definitions.specs.Tests.{tests_of}
use Rattle.schema_print.specs.PrintableTests.{passes_behind}
use Rattle.schema_print.proofs.Tested.{and_passed}
use Rattle.schema_print.proofs.either_way.is_own_entity.Goals as goal

pub returns-then-is_unqualified : goal.returns-then-is_unqualified
returns-then-is_unqualified c =
    let t = tests_of (defined c.args.fragment.now c.args.table.now) in
    subst (λ o. c.is_entity_behind.result ≡ passes_behind t.is_entity (name_of o) c.args.name.now) (sym c.in-Some.is)
    (and_passed _ _ _ _ _ c.if-is_unqualified.true c.is_unqualified.ensures
    (c.is_entity_behind.ensures c.args.table.now) refl)
