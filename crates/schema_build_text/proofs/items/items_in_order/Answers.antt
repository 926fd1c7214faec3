use Rattle.std.proofs.Common.{rules}
use Rattle.std.proofs.lemmas.List.Sorted.{answers_always, ranks_by}
use Rattle.cedar_data.proofs.Orders.{texts_total}
use Rattle.schema_build_types.specs.Content.{content}
use Rattle.schema_build_text.proofs.InOrder.{key, is_below, in_walk_order}
use Rattle.schema_build_text.proofs.items.items_in_order.Goals as goal

pub returns : goal.returns
returns c =
    in_walk_order (content c.args.entities.now c.args.actions.now) c.in_ok-items.items.items c.sort_by.new.self.items
    c.in_ok-items.ensures c.sort_by.ensures.permutation
    (c.in_ok-sort_by.ensures.sorted is_below (ranks_by texts_total key)
    (answers_always _ _ _ (λ f a r g h. search rules)))
    (c.sort_by.ensures.stable is_below (ranks_by texts_total key) (answers_always _ _ _ (λ f a r g h. search rules)))
