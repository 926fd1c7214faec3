use Rattle.std.proofs.Common.{map, drop, None}
use Rattle.std.specs.Option.{option_copied}
use Rattle.schema_build_text.specs.Growing.{Leaves}
use Rattle.schema_build_text.specs.Items.{item_content, namespace_behind}
use Rattle.schema_build_text.proofs.Opened.{open_behind}
use Rattle.schema_build_text.proofs.printing.print_items.Given as goal

abbrev pub invariant-loop-item : goal.invariant-loop-item
invariant-loop-item l =
    Leaves l.initial.text l.text (open_behind (namespace_behind (option_copied l.before))
    (map item_content (drop l.item-index l.items))) (open_behind None (map item_content l.items))
