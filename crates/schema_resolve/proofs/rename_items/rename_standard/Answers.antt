use Rattle.schema_json_walk.specs.Walk.{of_standard}
use Rattle.schema_resolve_targets.specs.ReferenceParts.{by_reference}
use Rattle.schema_resolve.proofs.Lists.{front_first, behind_first, refused}
use Rattle.schema_resolve.proofs.rename_items.rename_standard.Goals as goal

pub returns-in_err-member_of_types-clause-err : goal.returns-in_err-member_of_types-clause-err
returns-in_err-member_of_types-clause-err g c =
    let e = c.in_err-member_of_types.field-0.0 in
    refused c.from_residual.result e
    (of_standard (by_reference (g.R.Renamer.untargeted c.args.renamer.now)) c.args.standard.now)
    c.from_residual.ensures.1
    (rw (← c.as_slice.ensures) (front_first _ _ e c.in_err-member_of_types.ensures.err))

pub returns-in_err-shape-clause-err : goal.returns-in_err-shape-clause-err
returns-in_err-shape-clause-err g c =
    let e = c.in_err-shape.field-0.0 in
    refused c.from_residual-in_err-shape.result e
    (of_standard (by_reference (g.R.Renamer.untargeted c.args.renamer.now)) c.args.standard.now)
    c.from_residual-in_err-shape.ensures.1
    (rw (← c.as_slice.ensures) (behind_first _ _ e c.in_ok-member_of_types.ensures.defined
    (front_first _ _ e c.in_err-shape.ensures.err)))

pub returns-in_err-tags-clause-err : goal.returns-in_err-tags-clause-err
returns-in_err-tags-clause-err g c =
    let e = c.in_err-tags.field-0.0 in
    refused c.from_residual-in_err-tags.result e
    (of_standard (by_reference (g.R.Renamer.untargeted c.args.renamer.now)) c.args.standard.now)
    c.from_residual-in_err-tags.ensures.1
    (rw (← c.as_slice.ensures) (behind_first _ _ e c.in_ok-member_of_types.ensures.defined
    (behind_first _ _ e c.in_ok-shape.ensures.defined c.in_err-tags.ensures.err)))
