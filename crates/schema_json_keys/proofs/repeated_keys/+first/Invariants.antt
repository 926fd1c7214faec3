use Rattle.std.proofs.Common.{◌≡◌, ℕ, List, [], drop, take, length, map}
use Rattle.std.specs.List.{list_any}
use Rattle.std.specs.Str.{bytes_eq}
use Rattle.std.specs.Ordering.{nat_cmp}
use Rattle.std.specs.Cmp.Lexicographic.{slice_cmp}
use Rattle.std.specs.BTreeSet.{contains_by}
use Rattle.json.specs.Tree.{json_tokens, items_tokens, members_tokens}
use Rattle.json.specs.Value.{value_view, items_view, members_view}
use Rattle.schema_json_keys.specs.Keys.{items_keys, members_keys}
use Rattle.schema_json_keys.specs.Computed.{first_again}
use Rattle.schema_json_keys.proofs.repeated_keys.+first.Given as goal

abbrev pub decreases-first_in_value : goal.decreases-first_in_value
decreases-first_in_value l = length (json_tokens (value_view l.value.now))

abbrev pub decreases-first_in_items : goal.decreases-first_in_items
decreases-first_in_items l = length (items_tokens (items_view l.items.now.items))

abbrev pub decreases-first_in_members : goal.decreases-first_in_members
decreases-first_in_members l = length (members_tokens (members_view l.members.now.items))

abbrev pub invariant-first_in_items-loop-item : goal.invariant-first_in_items-loop-item
invariant-first_in_items-loop-item l =
    first_again (items_keys (items_view (drop l.item-index l.item-items)))
    ≡ first_again (items_keys (items_view l.item-items))

abbrev pub invariant-first_in_members-loop-member : goal.invariant-first_in_members-loop-member
invariant-first_in_members-loop-member l = record {
  same : first_again (members_keys (map (λ m. m.0.now) (take l.member-index l.member-items))
      (members_view (drop l.member-index l.member-items)))
      ≡ first_again (members_keys [] (members_view l.member-items));
  seen : (q : List ℕ)
      → contains_by (λ k. slice_cmp nat_cmp q k.now) l.seen
      ≡ list_any (bytes_eq q) (map (λ m. m.0.now) (take l.member-index l.member-items));
}

abbrev pub decreases-first_in_few : goal.decreases-first_in_few
decreases-first_in_few l = length (members_tokens (members_view l.members.now.items))

abbrev pub invariant-first_in_few-loop-at : goal.invariant-first_in_few-loop-at
invariant-first_in_few-loop-at l =
    first_again (members_keys (map (λ m. m.0.now) (take l.at l.members.items))
    (members_view (drop l.at l.members.items)))
    ≡ first_again (members_keys [] (members_view l.members.items))

abbrev pub decreases-first_in_rising : goal.decreases-first_in_rising
decreases-first_in_rising l = length (members_tokens (members_view l.members.now.items))

abbrev pub invariant-first_in_rising-loop-member : goal.invariant-first_in_rising-loop-member
invariant-first_in_rising-loop-member l =
    first_again (members_keys (map (λ m. m.0.now) (take l.member-index l.member-items))
    (members_view (drop l.member-index l.member-items)))
    ≡ first_again (members_keys [] (members_view l.member-items))
