use Rattle.std.proofs.Common.{◌≡◌, ◌++◌, map, take}
use Rattle.std.specs.List.{flat_map}
use Rattle.cedar_identifiers.specs.Names.{components_of}
use Rattle.schema_resolve_definitions.specs.Defined.{names_of_builtin}
use Rattle.schema_resolve_definitions.specs.Tests.{tests_of}
use Rattle.schema_resolve_definitions.proofs.defined.push_extensions.Given as goal

abbrev pub invariant-loop-extension : goal.invariant-loop-extension
invariant-loop-extension l = map components_of l.names.items ≡ map components_of l.initial.names.items
    ++ flat_map (λ n. names_of_builtin (tests_of l.defs) n.id.text) (take l.extension-index l.extensions)
