use Rattle.std.proofs.lemmas.Grind.{common_steps}
use Rattle.std.proofs.Common.{◌≡◌, IfSome, sym, subst, arith}
use Rattle.schema_build.proofs.Placed.{one_more_shared}
use Rattle.schema_build.proofs.assembly.shared_names.Goals as goal

pub loop-at-preserved : goal.loop-at-preserved
loop-at-preserved g c =
    let back = sym c.index-entries-at.is in
    one_more_shared (λ e. e.name) c.args.entries.now c.loop-at.at c.loop-at.shared.items c.push.new.self.items
    c.index-entries-at.result c.in_ok-name.name c.loop-at-test.true c.index-entries-at.is
    (subst (λ name. IfSome c.in_ok-name.name (λ n. n ≡ name)) (λ i. (back i).name) c.in_ok-name.ensures)
    c.in_ok-push.ensures.items c.loop-at.invariant

pub returns : goal.returns
returns g c = grind (arith, common_steps)

pub returns-in_err-name : goal.returns-in_err-name
returns-in_err-name g c = grind (arith, common_steps)

pub returns-in_err-push : goal.returns-in_err-push
returns-in_err-push g c = grind (arith, common_steps)
