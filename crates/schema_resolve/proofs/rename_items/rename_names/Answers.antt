use Rattle.std.proofs.lemmas.Grind.{common_steps}
use Rattle.std.proofs.Common.{◌∷◌, ◌++◌, [], sym, ◌∙◌, arith}
use Rattle.std.specs.List.{flat_map}
use Rattle.schema_resolve.proofs.Lists.{each_more, each_first, map_more, refused}
use Rattle.cedar_identifiers.specs.declared.reference_type.ReferenceType.TheVariants.{Entity}
use Rattle.schema_resolve.proofs.rename_items.rename_names.Goals as goal

pub returns-in_err-name-clause-err : goal.returns-in_err-name-clause-err
returns-in_err-name-clause-err g c =
    let u = (g.R.Renamer.untargeted c.args.renamer.now).types Entity in
    let xs = c.args.names.now in
    refused _ c.in_err-name.field-0.0 (flat_map u xs) c.from_residual-in_err-name.ensures.1
    (each_first u xs c.loop-name.name-index c.name-item.result c.in_err-name.field-0.0 c.loop-name-test.true
    c.name-item.is c.loop-name.invariant.defined c.in_err-name.ensures.err)

pub loop-name-preserved : goal.loop-name-preserved
loop-name-preserved g c =
    let f = (g.R.Renamer.becomes c.args.renamer.now).name Entity in
    let u = (g.R.Renamer.untargeted c.args.renamer.now).types Entity in
    let xs = c.args.names.now in
    let i = c.loop-name.name-index in
    let it = c.name-item.result in
    record {
      out = c.in_ok-push.ensures.items ∙ (λ k. c.loop-name.invariant.out k ++ c.in_ok-name.ensures.name k ∷ [])
          ∙ sym (map_more f xs i it c.loop-name-test.true c.name-item.is);
      defined = each_more u xs i it c.loop-name-test.true c.name-item.is c.loop-name.invariant.defined
          c.in_ok-name.ensures.defined;
    }

pub returns-clause-defined : goal.returns-clause-defined
returns-clause-defined g c = grind (arith, common_steps)

pub returns-clause-out : goal.returns-clause-out
returns-clause-out g c = grind (arith, common_steps)
