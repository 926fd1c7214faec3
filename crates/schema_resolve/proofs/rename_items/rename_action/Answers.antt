use Rattle.schema_json_walk.specs.Walk.{of_action}
use Rattle.schema_resolve_targets.specs.ReferenceParts.{by_reference}
use Rattle.schema_resolve.proofs.Lists.{behind_first, both_none, refused}
use Rattle.schema_resolve.proofs.Told.{action_told}
use Rattle.schema_resolve.proofs.rename_items.rename_action.Goals as goal

pub returns-in_err-applies_to-clause-err : goal.returns-in_err-applies_to-clause-err
returns-in_err-applies_to-clause-err g c =
    let e = c.in_err-applies_to.field-0.0 in
    refused c.from_residual-in_err-applies_to.result e
    (of_action (by_reference (g.R.Renamer.untargeted c.args.renamer.now)) c.args.action.now)
    c.from_residual-in_err-applies_to.ensures.1
    (rw (action_told (g.R.Renamer.untargeted c.args.renamer.now) c.args.action.now)
    (behind_first _ _ e c.in_ok-member_of.ensures.defined c.in_err-applies_to.ensures.err))

pub returns-clause-defined : goal.returns-clause-defined
returns-clause-defined g c = rw (action_told (g.R.Renamer.untargeted c.args.renamer.now) c.args.action.now)
    (both_none _ _ c.in_ok-member_of.ensures.defined c.in_ok-applies_to.ensures.defined)
