use Rattle.std.proofs.lemmas.Grind.{common_steps}
use Rattle.std.proofs.Common.{map, arith}
use Rattle.schema_build_scope.specs.LentCommons.{lent_type}
use Rattle.schema_build_scope.proofs.UsedTypes.{used_more}
use Rattle.schema_build_scope.proofs.lent_uses.used_types.Goals as goal

pub loop-ns-preserved : goal.loop-ns-preserved
loop-ns-preserved c =
    let l = c.loop-ns in
    used_more c.as_slice-ns-items.result.now l.ns-index c.loop-ns-item.result (map lent_type l.uses.items)
    (map lent_type c.push_entities.new.uses.items) (map lent_type c.push_actions.new.uses.items)
    c.as_slice.result.now c.as_slice-in-loop-ns.result.now c.loop-ns-test.true c.loop-ns-item.is l.invariant
    c.in_ok-push_entities.ensures c.as_slice.ensures.entries c.in_ok-push_actions.ensures
    c.as_slice-in-loop-ns.ensures.entries

pub returns : goal.returns
returns c = grind (arith, common_steps)
