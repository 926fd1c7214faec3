-- Rows one behind another.
use Rattle.std.proofs.Common.{Result, Ok, Err, IsErrAnd, IfErr, ◌≡◌, inl, inr, sym, subst}
use Rattle.schema_build_errors.specs.declared.schema_error.SchemaError.{SchemaError}
use Rattle.schema_build_checks.specs.Rows.{Never, OrMemory}
use Rattle.schema_build_scope.specs.Rows.{OrElse}

module _ (row behind : SchemaError → Type 0) where
  pub never_else : Never row → Never behind → Never (OrElse row behind)
  never_else first second e (inl h) = first e h
  never_else first second e (inr h) = second e h.1

  pub never_first : Never (OrElse row behind) → Never row
  never_first none e h = none e (inl h)

  pub never_behind : Never (OrElse row behind) → Never behind
  never_behind none e h = none e (inr (never_first none, h))

  pub or_first : (e : SchemaError) → OrMemory row e → OrMemory (OrElse row behind) e
  or_first e (inl m) = inl m
  or_first e (inr h) = inr (inl h)

  pub or_behind : Never row → (e : SchemaError) → OrMemory behind e → OrMemory (OrElse row behind) e
  or_behind none e (inl m) = inl m
  or_behind none e (inr h) = inr (inr (none, h))

-- an error that is handed on is the one that was told
pub refused : {T : Type 0} (row : SchemaError → Type 0) (r : Result T SchemaError) (e : SchemaError)
    → IsErrAnd r (λ y. y ≡ e) → OrMemory row e → IfErr r (OrMemory row)
refused row (Ok x) e h k = tt
refused row (Err y) e h k = subst (OrMemory row) (sym h) k
