use Rattle.schema_resolve_definitions.specs.Defined.{defined}
use Rattle.schema_resolve_definitions.specs.Tests.{tests_of}
use Rattle.schema_build_hierarchy.specs.Declarations.{declared_entities, declared_actions}
use Rattle.schema_build_parts.proofs.parts.fragment_parts.Given as goal

abbrev pub ghost-build_meanings : goal.ghost-build_meanings
ghost-build_meanings a =
    let names = a.names.now in (
      names.table,
      (
        tests_of (defined names.fragment names.table),
        (declared_entities names.fragment, declared_actions names.fragment),
      ),
    )
