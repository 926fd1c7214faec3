use Rattle.std.proofs.Common.{◌≡◌, ◌++◌}
use Rattle.std.specs.List.{flat_map}
use Rattle.cedar_data.specs.NonEmpty.{items_left}
use Rattle.schema_build_errors.specs.Joined.{of_types, of_actions}
use Rattle.schema_build_errors.proofs.schema_error.SchemaError.join_nonempty.Given as goal

abbrev pub invariant-loop-error : goal.invariant-loop-error
invariant-loop-error l = record {
  types : l.types.items ++ flat_map (λ e. flat_map (λ x. x.undefined_types) (of_types e)) (items_left l.error-iterator)
      ≡ flat_map (λ e. flat_map (λ x. x.undefined_types) (of_types e)) l.fn.errs;
  actions : l.actions.items ++ flat_map (λ e. flat_map (λ x. x.0) (of_actions e)) (items_left l.error-iterator)
      ≡ flat_map (λ e. flat_map (λ x. x.0) (of_actions e)) l.fn.errs;
}
