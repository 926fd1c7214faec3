use Rattle.std.proofs.Common.{◌≡◌, ◌≤◌, drop, length, map}
use Rattle.std.specs.Option.{option_copied, option_map}
use Rattle.schema_build_text.specs.Beside.{first_action, captured_before}
use Rattle.schema_build_text.specs.Captured.{first_item}
use Rattle.schema_build_text.specs.Items.{item_content, namespace_behind}
use Rattle.schema_build_text.proofs.captured.first_captured_item.Given as goal

abbrev pub invariant-loop-left : goal.invariant-loop-left
invariant-loop-left l =
    (l.left ≤ length l.items)
    × (namespace_behind (option_copied l.action) ≡ first_action (map item_content (drop l.left l.items)))
    × (option_map item_content (option_copied l.found)
    ≡ first_item (captured_before (map item_content (drop l.left l.items))))

abbrev pub decreases-loop-left : goal.decreases-loop-left
decreases-loop-left l = l.left
