use Rattle.std.proofs.Common.{◌≡◌, ◌∷◌, ◌++◌}
use Rattle.std.specs.Vec.Iter.{into_iter_items}
use Rattle.std.specs.List.{flat_map}
use Rattle.schema_resolve_errors.proofs.resolve_error.ActionNotDefinedError.join_nonempty.Given as goal

abbrev pub invariant-loop-error : goal.invariant-loop-error
invariant-loop-error l = l.head ∷ (l.tail.items ++ flat_map (λ x. x.0) (into_iter_items l.error-iterator))
    ≡ flat_map (λ x. x.0) l.fn.errs
