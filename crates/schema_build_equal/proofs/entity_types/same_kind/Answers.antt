use Rattle.std.proofs.Common.{refl}
use Rattle.cedar_identifiers.specs.declared.eid.Eid.{Eid}
use Rattle.schema_build_equal.proofs.Keys.{texts_equal}
use Rattle.schema_build_equal.proofs.Choices.{choices_same}
use Rattle.schema_build_equal.proofs.OneSet.{in_turn, restated}
use Rattle.schema_build_equal.proofs.entity_types.same_kind.Goals as goal

pub returns-in-Enum-b : goal.returns-in-Enum-b
returns-in-Enum-b c =
    let xs = c.in-Enum.choices in
    let ys = c.in-Enum-b.others in
    choices_same c.args.a.now c.args.b.now xs ys c.eq.result c.in-Enum.is c.in-Enum-b.is
    (restated _ _ _ _ _ _ c.eq.ensures (in_turn (λ (e : Eid). e.0) _ (λ x y. texts_equal x.0 y.0) xs ys) refl refl)
