use Rattle.schema_json_walk.specs.Walk.{of_apply}
use Rattle.schema_resolve_targets.specs.ReferenceParts.{by_reference}
use Rattle.schema_resolve.proofs.Lists.{front_first, behind_first, refused}
use Rattle.schema_resolve.proofs.Told.{apply_told}
use Rattle.schema_resolve.proofs.rename_items.rename_apply.Goals as goal

pub returns-in_err-principal_types-clause-err : goal.returns-in_err-principal_types-clause-err
returns-in_err-principal_types-clause-err g c =
    let e = c.in_err-principal_types.field-0.0 in
    refused c.from_residual.result e
    (of_apply (by_reference (g.R.Renamer.untargeted c.args.renamer.now)) c.args.spec.now) c.from_residual.ensures.1
    (rw (apply_told (g.R.Renamer.untargeted c.args.renamer.now) c.args.spec.now, ← c.as_slice.ensures)
    (front_first _ _ e c.in_err-principal_types.ensures.err))

pub returns-in_err-resource_types-clause-err : goal.returns-in_err-resource_types-clause-err
returns-in_err-resource_types-clause-err g c =
    let e = c.in_err-resource_types.field-0.0 in
    refused c.from_residual-in_err-resource_types.result e
    (of_apply (by_reference (g.R.Renamer.untargeted c.args.renamer.now)) c.args.spec.now)
    c.from_residual-in_err-resource_types.ensures.1
    (rw (
      apply_told (g.R.Renamer.untargeted c.args.renamer.now) c.args.spec.now,
      ← c.as_slice.ensures,
      ←
          c.as_slice-2.ensures,
    ) (behind_first _ _ e c.in_ok-principal_types.ensures.defined
    (front_first _ _ e c.in_err-resource_types.ensures.err)))

pub returns-in_err-context-clause-err : goal.returns-in_err-context-clause-err
returns-in_err-context-clause-err g c =
    let e = c.in_err-context.field-0.0 in
    refused c.from_residual-in_err-context.result e
    (of_apply (by_reference (g.R.Renamer.untargeted c.args.renamer.now)) c.args.spec.now)
    c.from_residual-in_err-context.ensures.1
    (rw (
      apply_told (g.R.Renamer.untargeted c.args.renamer.now) c.args.spec.now,
      ← c.as_slice.ensures,
      ←
          c.as_slice-2.ensures,
    ) (behind_first _ _ e c.in_ok-principal_types.ensures.defined
    (behind_first _ _ e c.in_ok-resource_types.ensures.defined c.in_err-context.ensures.err)))
