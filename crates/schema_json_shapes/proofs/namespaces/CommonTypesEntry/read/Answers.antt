use Rattle.std.proofs.lemmas.Grind.{common_steps}
use Rattle.std.proofs.Common.{◌++◌, arith}
use Rattle.serde_json.specs.View.{view}
use Rattle.schema_json_shapes.specs.declared.words.TypeSite.TheVariants as site
use Rattle.schema_json_shapes.specs.Walk.{common_types, typed, key_demands, demands}
use Rattle.schema_json_shapes.proofs.Demands.{fails, refused}
use Rattle.schema_json_shapes.proofs.namespaces.CommonTypesEntry.read.Goals as goal

pub returns-in_err-id : goal.returns-in_err-id
returns-in_err-id c =
    let k = c.args.key.now in
    let d = view c.args.value.now in
    let e = c.in_err-id.field-0.0 in
    refused c.from_residual.result e (key_demands common_types k ++ demands (typed site.Common) k d) _
    c.from_residual.ensures.1
    (fails (key_demands common_types k) (demands (typed site.Common) k d) e c.in_err-id.ensures)

pub returns : goal.returns
returns c = grind (arith, common_steps)
