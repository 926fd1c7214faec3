use Rattle.std.proofs.Common.{[], ap}
use Rattle.std.specs.List.{flat_map}
use Rattle.std.specs.Option.{option_map_or}
use Rattle.schema_resolve_targets.specs.ReferenceParts.{by_reference}
use Rattle.schema_json_walk.specs.Walk.{of_uid}
use Rattle.schema_resolve.proofs.Lists.{refused}
use Rattle.schema_resolve.proofs.rename_items.rename_parents.Goals as goal

pub returns-in_err-rename_uids-in-Some-clause-err : goal.returns-in_err-rename_uids-in-Some-clause-err
returns-in_err-rename_uids-in-Some-clause-err g c =
    let u = of_uid (by_reference (g.R.Renamer.untargeted c.args.renamer.now)) in
    refused c.from_residual.result c.in_err-rename_uids-in-Some.field-0.0
    (option_map_or (flat_map u) c.args.parents.now []) c.from_residual.ensures.1
    (rw (ap (λ o. option_map_or (flat_map u) o []) c.in-Some.is, ← c.as_slice.ensures)
    c.in_err-rename_uids-in-Some.ensures.err)
