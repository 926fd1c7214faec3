use Rattle.std.proofs.Common.{map, sym, subst}
use Rattle.std.proofs.lemmas.Result.{IfOk-weaker}
use Rattle.schema_build.specs.Assembly.{AreAllAt, AreEntitiesBuilt}
use Rattle.schema_build.proofs.Entities.{entities_built}
use Rattle.schema_build.proofs.assembly.entity_types.Goals as goal

pub returns : goal.returns
returns c f table hold =
    let at = subst (λ l. AreAllAt (map (λ e. e.name) l) c.args.above.now c.in_ok-ancestors.ancestors.items)
    c.deref.ensures.value c.in_ok-ancestors.ensures in
    let built = entities_built f table c.args.entries.items c.args.above.now c.in_ok-ancestors.ancestors.items
    c.args.kinds.items hold at in
    IfOk-weaker c.put_together.result _ (λ out. AreEntitiesBuilt f table out.items)
    (λ out is. subst (AreEntitiesBuilt f table) (sym is) built) c.put_together.ensures
