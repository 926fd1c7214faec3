use Rattle.std.proofs.Common.{◌≡◌, map, take}
use Rattle.std.specs.List.{flat_map}
use Rattle.cedar_identifiers.specs.Names.{components_of}
use Rattle.cedar_names.specs.Definitions.{action_of}
use Rattle.schema_resolve_definitions.specs.Declarations.{commons_in, entities_in, actions_in}
use Rattle.schema_resolve_definitions.proofs.declared.single_fragment.Given as goal

abbrev pub invariant-loop-ns : goal.invariant-loop-ns
invariant-loop-ns l = record {
  commons : map components_of l.names.commons.items ≡ flat_map (λ e. commons_in e.0 e.1) (take l.ns-index l.ns-items);
  entities : map components_of l.names.entities.items
      ≡ flat_map (λ e. entities_in e.0 e.1) (take l.ns-index l.ns-items);
  actions : map action_of l.names.actions.items ≡ flat_map (λ e. actions_in e.0 e.1) (take l.ns-index l.ns-items);
}
