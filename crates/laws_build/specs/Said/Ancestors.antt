-- Ancestors of actions that mean themselves.
use Rattle.std.specs.Prelude.{◌≡◌, ℕ, List, Option, Some}
use Rattle.std.specs.Option.{option_map}
use Rattle.cedar_identifiers.specs.Names.{components_of}
use Rattle.cedar_identifiers.specs.declared.name.Name.{Name}
use Rattle.cedar_identifiers.specs.declared.raw_name.RawName.{RawName}
use Rattle.schema_resolve_definitions.specs.Tests.{Tests}
use Rattle.schema_build_hierarchy.specs.Parents.{action_target_in}

-- a reference to the action, by its type and its id, is found as this action
abbrev pub IsActionFoundAs : Tests → Option Name → List (List ℕ) × List ℕ → Type 0
IsActionFoundAs t ns target =
    (ty : Option RawName) → option_map (λ n. components_of n.name) ty ≡ Some target.0
    → action_target_in t ns target.1 ty ≡ Some target
