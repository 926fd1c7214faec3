use Rattle.std.proofs.Common.{◌≡◌, ap, get_or, rules, arith}
use Rattle.cedar_data.proofs.Sizes.{most_at}
use Rattle.schema_build_types.specs.declared.types.Type.{size-Type}
use Rattle.schema_build_types.proofs.types.+clone_in.Goals as goal

pub clone_entries-clone_in-requires-in-loop-name : goal.clone_entries-clone_in-requires-in-loop-name
clone_entries-clone_in-requires-in-loop-name t c =
    let it = c.loop-name-item.result in
    let le = most_at (λ p. size-Type p.0) c.args.entries.now c.loop-name.name-index it c.loop-name-test.true in
    let same : size-Type it.1.0 ≡ size-Type (get_or c.args.entries.now c.loop-name.name-index it).1.0 = ap
    (λ p. size-Type p.1.0) c.loop-name-item.is in
    (omega (arith, le, same, c.decreases), search rules)
