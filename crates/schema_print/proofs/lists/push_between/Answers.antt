use Rattle.std.proofs.Common.{ap, sym}
use Rattle.std.proofs.lemmas.Result.{on_ok_weaker}
use Rattle.cedar_data.specs.Rows.{separator_where}
use Rattle.schema_print_text.specs.Growing.{adds_nothing, so}
use Rattle.schema_print.proofs.lists.push_between.Goals as goal

pub returns-then-behind : goal.returns-then-behind
returns-then-behind c = on_ok_weaker c.push.result
    (λ e. so e (ap (separator_where c.args.separator.now) (sym c.if-behind.true))) c.push.ensures

pub returns-else-behind : goal.returns-else-behind
returns-else-behind c = so (adds_nothing c.args.text.now)
    (ap (separator_where c.args.separator.now) (sym c.if-behind.false))
