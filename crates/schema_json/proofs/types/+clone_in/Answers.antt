use Rattle.std.proofs.Common.{◌≡◌, ap, get_or, rules, arith}
use Rattle.cedar_data.proofs.Sizes.{most_at}
use Rattle.schema_json.specs.declared.types.TypeOfAttribute.{size-TypeOfAttribute}
use Rattle.schema_json.proofs.types.+clone_in.Goals as goal

pub clone_attributes-clone_in-requires-in-loop-name :
    goal.clone_attributes-clone_in-requires-in-loop-name
clone_attributes-clone_in-requires-in-loop-name g t c κs within =
    let size = size-TypeOfAttribute g.row.N.Denot in
    let it = c.loop-name-item.result in
    let le = most_at size c.args.entries.now c.loop-name.name-index it c.loop-name-test.true in
    let same : size it.1 ≡ size (get_or c.args.entries.now c.loop-name.name-index it).1 = ap (λ p. size p.1)
    c.loop-name-item.is in
    (omega (arith, le, same, c.decreases), search rules)
