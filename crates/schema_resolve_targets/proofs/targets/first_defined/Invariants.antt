use Rattle.std.proofs.Common.{◌≡◌, find}
use Rattle.cedar_data.specs.NonEmpty.{items_left}
use Rattle.cedar_identifiers.specs.Names.{components_of}
use Rattle.schema_resolve_definitions.specs.Tests.{tests_of}
use Rattle.schema_resolve_targets.specs.Targets.{is_defined}
use Rattle.schema_resolve_targets.proofs.targets.first_defined.Given as goal

abbrev pub invariant-loop-name : goal.invariant-loop-name
invariant-loop-name l = find (λ name. is_defined (tests_of l.defs) l.kind (components_of name))
    (items_left l.name-iterator) ≡ find (λ name. is_defined (tests_of l.defs) l.kind (components_of name)) l.names
