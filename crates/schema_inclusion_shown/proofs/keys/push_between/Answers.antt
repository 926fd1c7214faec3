use Rattle.std.proofs.Common.{codes, ap, sym}
use Rattle.std.proofs.lemmas.Result.{on_ok_weaker}
use Rattle.cedar_data.specs.Rows.{separator_where}
use Rattle.schema_inclusion_shown.proofs.Growing.{adds_nothing, so}
use Rattle.schema_inclusion_shown.proofs.keys.push_between.Goals as goal

pub returns-then-behind : goal.returns-then-behind
returns-then-behind c = on_ok_weaker c.push.result
    (λ e. so e (ap (separator_where (codes ", ")) (sym c.if-behind.true))) c.push.ensures

pub returns-else-behind : goal.returns-else-behind
returns-else-behind c = so (adds_nothing c.args.text.now)
    (ap (separator_where (codes ", ")) (sym c.if-behind.false))
