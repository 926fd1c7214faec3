use Rattle.std.proofs.Common.{◌≡◌, length, drop}
use Rattle.json.specs.Tree.{json_tokens, items_tokens, members_tokens}
use Rattle.json.specs.Value.{value_view, items_view, members_view}
use Rattle.schema_json_keys.specs.Numbers.{items_have_number, members_have_number}
use Rattle.schema_json_keys.proofs.numbers.+number.Given as goal

abbrev pub decreases-has_number : goal.decreases-has_number
decreases-has_number l = length (json_tokens (value_view l.value.now))

abbrev pub decreases-items_have_number : goal.decreases-items_have_number
decreases-items_have_number l = length (items_tokens (items_view l.items.now.items))

abbrev pub decreases-members_have_number : goal.decreases-members_have_number
decreases-members_have_number l = length (members_tokens (members_view l.members.now.items))

abbrev pub invariant-items_have_number-loop-item : goal.invariant-items_have_number-loop-item
invariant-items_have_number-loop-item l =
    items_have_number (items_view (drop l.item-index l.item-items)) ≡ items_have_number (items_view l.item-items)

abbrev pub invariant-members_have_number-loop-member : goal.invariant-members_have_number-loop-member
invariant-members_have_number-loop-member l =
    members_have_number (members_view (drop l.member-index l.member-items))
    ≡ members_have_number (members_view l.member-items)
