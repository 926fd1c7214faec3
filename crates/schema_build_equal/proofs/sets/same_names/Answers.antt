use Rattle.std.proofs.Common.{refl, map}
use Rattle.cedar_data.proofs.Orders.{texts_total, texts_exact}
use Rattle.cedar_identifiers.specs.Names.{components_of}
use Rattle.cedar_identifiers.specs.declared.name.Name.{Name}
use Rattle.schema_build_equal.proofs.Keys.{names_equal, in_order_once}
use Rattle.schema_build_equal.proofs.OneSet.{same_once, restated}
use Rattle.schema_build_equal.proofs.sets.same_names.Goals as goal

pub returns : goal.returns
returns c =
    let a = c.args.a.now in
    let b = c.args.b.now in
    let one = same_once texts_total texts_exact (λ (n : Name). components_of n.name) _
    (λ x y. names_equal _ (λ i j. refl) x.name y.name) a b in
    restated _ _ _ _ _ _ c.are_one_set.ensures one
    (in_order_once (map (λ (n : Name). components_of n.name) a))
    (in_order_once (map (λ (n : Name). components_of n.name) b))
