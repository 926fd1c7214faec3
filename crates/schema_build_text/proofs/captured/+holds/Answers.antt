use Rattle.std.proofs.Common.{rules, arith, ◌≡◌, ap, get_or}
use Rattle.cedar_data.proofs.Sizes.{most_at}
use Rattle.schema_build_types.specs.declared.types.Type.{size-Type}
use Rattle.schema_build_text.proofs.captured.+holds.Goals as goal

pub some_hold-holds-requires : goal.some_hold-holds-requires
some_hold-holds-requires t c =
    let it = c.loop-ty-item.result in
    let le = most_at (λ p. size-Type p.0) c.args.entries.now c.loop-ty.ty-index it c.loop-ty-test.true in
    let same : size-Type it.1.0 ≡ size-Type (get_or c.args.entries.now c.loop-ty.ty-index it).1.0 = ap
    (λ p. size-Type p.1.0) c.loop-ty-item.is in
    (omega (arith, le, same, c.decreases), search rules)
