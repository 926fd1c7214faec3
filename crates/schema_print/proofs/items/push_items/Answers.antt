use Rattle.std.proofs.Common.{codes, map, true, ap, not, ◌||◌, ◌∙◌, false, length, ◌==◌}
use Rattle.std.proofs.lemmas.Result.{on_ok_weaker}
use Rattle.cedar_data.specs.Rows.{row_behind}
use Rattle.schema_syntax_tokens.specs.Laid.{laid}
use Rattle.schema_print_text.specs.Growing.{then, so}
use Rattle.schema_print.specs.PrintedFragments.{common_type_pieces, entity_pieces, action_pieces}
use Rattle.schema_print.proofs.Rows.{items_row}
use Rattle.schema_print.proofs.items.push_items.Goals as goal

pub returns : goal.returns
returns g c =
    on_ok_weaker c.push_actions.result (λ e.
    let names = g.N.NameText.components in
    let n = c.args.namespace.now in
    let base = c.args.base in
    let b = not c.is_empty-begun.result in
    let f = b || not c.is_empty.result in
    so
    (then (so c.in_ok-push_commons.ensures
    (ap (λ xs. row_behind (codes "\n") false (map (λ x. laid (common_type_pieces names true base x)) xs))
    c.as_slice-commons.ensures.entries))
    (then (so c.in_ok-push_entity_types.ensures
    (ap (λ xs. row_behind (codes "\n") b (map (λ x. laid (entity_pieces names true base x)) xs))
    c.as_slice-entity_types.ensures.entries))
    (so e
    (ap (λ xs. row_behind (codes "\n") f (map (λ x. laid (action_pieces names true base x)) xs))
    c.as_slice.ensures.entries))))
    (items_row (common_type_pieces names true base) (entity_pieces names true base) (action_pieces names true base)
    n.common_types n.entity_types n.actions b f
    (ap not (c.is_empty-begun.ensures ∙ ap (λ t. length t == 0) c.as_slice-commons.ensures.entries))
    (ap (λ t. b || not t)
    (c.is_empty.ensures ∙ ap (λ t. length t == 0) c.as_slice-entity_types.ensures.entries)))) c.push_actions.ensures
