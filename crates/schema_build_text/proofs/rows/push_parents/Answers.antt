use Rattle.std.proofs.Common.{sym, ◌∙◌}
use Rattle.std.proofs.lemmas.Result.{on_ok_weaker}
use Rattle.schema_build_text.specs.Growing.{adds_nothing, then, so}
use Rattle.schema_build_text.proofs.Rowed.{no_parents, some_parents}
use Rattle.schema_build_text.proofs.rows.push_parents.Goals as goal

pub returns-then-is_empty : goal.returns-then-is_empty
returns-then-is_empty g c =
    so (adds_nothing c.args.text.now)
    (no_parents g.T.Listed.shown g.T.Ord.cmp c.args.items.now (sym c.is_empty.ensures ∙ c.if-is_empty.true))

pub returns : goal.returns
returns g c =
    on_ok_weaker c.push-2.result (λ e.
    so (then c.in_ok-push.ensures (then c.in_ok-push_in_order.ensures e))
    (some_parents g.T.Listed.shown g.T.Ord.cmp c.args.items.now
    (sym c.is_empty.ensures ∙ c.if-is_empty.false))) c.push-2.ensures
