use Rattle.std.proofs.Common.{◌≡◌, take}
use Rattle.std.specs.List.{flat_map}
use Rattle.schema_resolve_definitions.specs.Tests.{tests_of}
use Rattle.schema_build_checks.specs.DeclaredAt.{hiding_types_in}
use Rattle.schema_build_checks.proofs.hiding_types.check_type_shadowing.Given as goal

abbrev pub invariant-loop-ns : goal.invariant-loop-ns
invariant-loop-ns l = l.found.items ≡ flat_map (hiding_types_in (tests_of l.defs)) (take l.ns-index l.ns-items)
