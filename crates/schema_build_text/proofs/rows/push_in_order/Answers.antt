use Rattle.std.proofs.Common.{codes, map, ap, sym, ◌∙◌}
use Rattle.std.proofs.lemmas.Result.{on_ok_weaker}
use Rattle.cedar_data.specs.Rows.{joined_by}
use Rattle.cedar_data.proofs.Lists.{map-map}
use Rattle.schema_build_text.specs.Growing.{so}
use Rattle.schema_build_text.proofs.rows.push_in_order.Goals as goal

pub returns-then-is_rising : goal.returns-then-is_rising
returns-then-is_rising g c =
    on_ok_weaker c.push_row.result
    (λ e. so e (ap (λ l. joined_by (codes ", ") (map g.T.Listed.shown l))
    (sym (c.is_rising.ensures c.if-is_rising.true)))) c.push_row.ensures

pub returns-in_ok-set : goal.returns-in_ok-set
returns-in_ok-set g c =
    on_ok_weaker c.push_set.result
    (λ e. so e (ap (joined_by (codes ", "))
    (sym (map-map g.T.Listed.shown (λ x. x.now) c.in_ok-set.set.keys)
    ∙ ap (map g.T.Listed.shown) c.in_ok-set.ensures))) c.push_set.ensures
