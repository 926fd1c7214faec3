use Rattle.std.proofs.Common.{◌≡◌, ◌++◌, map, drop}
use Rattle.schema_convert_types.proofs.items.add.Given as goal

abbrev pub invariant-loop-item : goal.invariant-loop-item
invariant-loop-item g l =
    l.translated.items ++ map g.I.Item.translation (drop l.item-index l.items)
    ≡ l.fn.translated.items ++ map g.I.Item.translation l.items
