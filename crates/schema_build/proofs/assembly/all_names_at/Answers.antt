use Rattle.std.proofs.lemmas.Grind.{common_steps}
use Rattle.std.proofs.Common.{map, subst, arith}
use Rattle.schema_build.specs.Assembly.{AreAt}
use Rattle.schema_build.proofs.Placed.{one_more_row}
use Rattle.schema_build.proofs.assembly.all_names_at.Goals as goal

pub loop-row-preserved : goal.loop-row-preserved
loop-row-preserved g c =
    one_more_row (map (λ e. e.name) c.args.entries.now) c.args.rows.now c.loop-row.row-index c.row-item.result
    c.loop-row.lists.items
    c.push.new.self.items c.in_ok-names_at.field-0 c.loop-row-test.true c.row-item.is c.in_ok-push.ensures.items
    (subst (λ l. AreAt (map (λ e. e.name) c.args.entries.now) l c.in_ok-names_at.field-0)
    c.deref-in-loop-row-2.ensures.value c.in_ok-names_at.ensures)
    c.loop-row.invariant

pub returns : goal.returns
returns g c = grind (arith, common_steps)
