use Rattle.std.proofs.Common.{List, codes, map, false, ap, sym, ◌∙◌, ◌++◌}
use Rattle.std.proofs.lemmas.Result.{on_ok_weaker}
use Rattle.cedar_data.specs.Rows.{joined_by, row_behind}
use Rattle.cedar_data.specs.NonEmpty.{items_left}
use Rattle.cedar_data.proofs.Lists.{map-map}
use Rattle.schema_syntax_tokens.specs.Quotes.{quoted}
use Rattle.cedar_identifiers.specs.declared.eid.Eid.{Eid}
use Rattle.schema_build_text.specs.Growing.{then, so, round, adds_all}
use Rattle.schema_build_text.proofs.Rowed.{begun_as, row_front, joined_row}
use Rattle.schema_build_text.proofs.rows.push_choices.Goals as goal

pub loop-choice-init : goal.loop-choice-init
loop-choice-init c =
    let row = λ (l : List Eid). row_behind (codes ", ") false (map (λ x. quoted x.0) l) in
    begun_as c.push.new.text _ _ (ap (λ it. row (items_left it)) c.into_iter-choice-iterator.ensures.into_iter_gives
    ∙ ap row c.iter-choice-items.ensures)

pub loop-choice-preserved : goal.loop-choice-preserved
loop-choice-preserved c =
    round (then c.in_ok-push_between.ensures c.in_ok-push_string.ensures) c.loop-choice.invariant
    (row_front (λ (x : Eid). quoted x.0) (codes ", ") c.loop-choice.behind _ (items_left c.next.new.self)
    c.in-Some.choice.now c.in-Some.ensures.steps)

pub returns : goal.returns
returns c =
    on_ok_weaker c.push-2.result (λ e.
    let row = λ (l : List Eid). row_behind (codes ", ") c.loop-choice.behind (map (λ x. quoted x.0) l) in
    so (then c.in_ok-push.ensures (then (adds_all c.loop-choice.invariant (ap row c.in-None.ensures.steps.0))
    e))
    (ap (λ t. codes "[" ++ (t ++ codes "]"))
    (joined_row (codes ", ") (map (λ x. quoted x.0) c.args.choices.now)
    ∙ ap (joined_by (codes ", ")) (sym (map-map quoted (λ (x : Eid). x.0) c.args.choices.now))))) c.push-2.ensures
