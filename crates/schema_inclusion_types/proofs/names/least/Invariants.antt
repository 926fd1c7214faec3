use Rattle.std.proofs.Common.{◌≡◌, ◌≤◌, drop, length}
use Rattle.std.specs.Option.{option_copied, option_map}
use Rattle.cedar_identifiers.specs.Names.{components_of}
use Rattle.schema_build_types.specs.Content.{names_content}
use Rattle.schema_inclusion_types.specs.Least.{least}
use Rattle.schema_inclusion_types.proofs.names.least.Given as goal

abbrev pub invariant-loop-left : goal.invariant-loop-left
invariant-loop-left l = record {
  within : l.left ≤ length l.names;
  found : option_map (λ n. components_of n.name) (option_copied l.found) ≡ least (names_content (drop l.left l.names));
}

abbrev pub decreases-loop-left : goal.decreases-loop-left
decreases-loop-left l = l.left
