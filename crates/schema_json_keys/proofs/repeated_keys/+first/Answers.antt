use Rattle.std.proofs.lemmas.Grind.{common_steps}
use Rattle.std.proofs.Common.{◌≡◌, ◌+◌, ◌<◌, true, false, [], ◌∷◌, Some, None, length, take, drop, sym, ap, ◌∙◌, subst}
use Rattle.std.proofs.Common.{arith, rules}
use Rattle.std.specs.Prelude.{◌||◌, option_map}
use Rattle.std.specs.List.{list_any}
use Rattle.std.specs.List.Sorted.{IsStrictlySortedBy}
use Rattle.std.specs.Str.{bytes_eq}
use Rattle.std.proofs.lemmas.List.Folds.{list_any-append}
use Rattle.json.specs.Tree.{json_tokens, items_tokens, members_tokens}
use Rattle.json.specs.Value.{value_view, items_view, members_view}
use Rattle.json.proofs.Trees.{item_smaller, member_smaller}
use Rattle.schema_json_keys.specs.Keys.{keys_of, items_keys, members_keys}
use Rattle.schema_json_keys.specs.Computed.{first_again}
use Rattle.schema_json_keys.proofs.Seen.{Name, has, had, had_not, at_end, has-inserted}
use Rattle.schema_json_keys.proofs.Firsts.{or_next, names, item_step, member_step, one_more_name, comes_again-true}
use Rattle.schema_json_keys.proofs.Firsts.{comes_again-false, none_before, order}
use Rattle.schema_json_keys.proofs.repeated_keys.+first.Goals as goal

pub first_in_items-first_in_value-requires : goal.first_in_items-first_in_value-requires
first_in_items-first_in_value-requires t c =
    let xs = c.deref-item-items.result.now in
    let x = c.item-item.result in
    let smaller : length (json_tokens (value_view x)) < length (items_tokens (items_view c.args.items.now.items)) =
    subst (λ ys. length (json_tokens (value_view x)) < length (items_tokens (items_view ys)))
    c.deref-item-items.ensures.value
    (subst (λ y. length (json_tokens (value_view y)) < length (items_tokens (items_view xs))) (sym c.item-item.is)
    (item_smaller xs c.loop-item.item-index x (omega arith))) in
    search rules

pub first_in_items-returns-in-Some : goal.first_in_items-returns-in-Some
first_in_items-returns-in-Some t c =
    let l = c.loop-item in
    let xs = c.deref-item-items.result.now in
    let step = item_step xs l.item-index c.item-item.result (omega arith) c.item-item.is in
    let here : Some c.in-Some.name.now
    ≡ first_again (keys_of (value_view c.item-item.result)) = sym (ap (option_map (λ (s : Name). s.now)) c.in-Some.is)
    ∙ c.in_ok-name.ensures in
    ap (λ o. or_next o (first_again (items_keys (items_view (drop (l.item-index + 1) xs))))) here ∙ sym step
    ∙ l.invariant ∙ ap (λ ys. first_again (items_keys (items_view ys))) c.deref-item-items.ensures.value

pub first_in_items-loop-item-preserved : goal.first_in_items-loop-item-preserved
first_in_items-loop-item-preserved t c =
    let l = c.loop-item in
    let xs = c.deref-item-items.result.now in
    let step = item_step xs l.item-index c.item-item.result (omega arith) c.item-item.is in
    let here : None ≡ first_again (keys_of (value_view c.item-item.result)) = sym
    (ap (option_map (λ (s : Name). s.now)) c.in_default.is) ∙ c.in_ok-name.ensures in
    ap (λ o. or_next o (first_again (items_keys (items_view (drop (l.item-index + 1) xs))))) here ∙ sym step
    ∙ l.invariant

pub first_in_members-returns-then-not-branch : goal.first_in_members-returns-then-not-branch
first_in_members-returns-then-not-branch t c =
    let l = c.loop-member in
    let xs = c.deref-member-items.result.now in
    let m = c.member-item.result in
    let among : list_any (bytes_eq m.0.now) (names (take l.member-index xs)) ≡ true = sym (l.invariant.seen m.0.now)
    ∙ had _ _ c.in_ok-insert.ensures.added c.if-not-branch.true in
    sym (comes_again-true (record { name = m.0.now; earlier = names (take l.member-index xs) }) _ among)
    ∙ sym (member_step xs l.member-index m (omega arith) c.member-item.is) ∙ l.invariant.same
    ∙ ap (λ ys. first_again (members_keys [] (members_view ys))) c.deref-member-items.ensures.value

pub first_in_members-first_in_value-requires : goal.first_in_members-first_in_value-requires
first_in_members-first_in_value-requires t c =
    let xs = c.deref-member-items.result.now in
    let x = c.member-item.result in
    let smaller : length (json_tokens (value_view x.1)) < length
    (members_tokens (members_view c.args.members.now.items)) =
    subst (λ ys. length (json_tokens (value_view x.1)) < length (members_tokens (members_view ys)))
    c.deref-member-items.ensures.value
    (subst (λ y. length (json_tokens (value_view y.1)) < length (members_tokens (members_view xs)))
    (sym c.member-item.is) (member_smaller xs c.loop-member.member-index x (omega arith))) in
    search rules

pub first_in_members-returns-in-Some : goal.first_in_members-returns-in-Some
first_in_members-returns-in-Some t c =
    let l = c.loop-member in
    let xs = c.deref-member-items.result.now in
    let m = c.member-item.result in
    let among : list_any (bytes_eq m.0.now) (names (take l.member-index xs)) ≡ false = sym (l.invariant.seen m.0.now)
    ∙ had_not _ _ c.in_ok-insert.ensures.added c.if-not-branch.false in
    let here : Some c.in-Some.name.now
    ≡ first_again (keys_of (value_view m.1)) = sym (ap (option_map (λ (s : Name). s.now)) c.in-Some.is)
    ∙ c.in_ok-name.ensures in
    ap (λ o. or_next o (first_again
    (members_keys (names (take (l.member-index + 1) xs)) (members_view (drop (l.member-index + 1) xs))))) here
    ∙ sym (comes_again-false (record { name = m.0.now; earlier = names (take l.member-index xs) }) _ among)
    ∙ sym (member_step xs l.member-index m (omega arith) c.member-item.is) ∙ l.invariant.same
    ∙ ap (λ ys. first_again (members_keys [] (members_view ys))) c.deref-member-items.ensures.value

pub first_in_members-loop-member-preserved : goal.first_in_members-loop-member-preserved
first_in_members-loop-member-preserved t c =
    let l = c.loop-member in
    let xs = c.deref-member-items.result.now in
    let m = c.member-item.result in
    let among : list_any (bytes_eq m.0.now) (names (take l.member-index xs)) ≡ false = sym (l.invariant.seen m.0.now)
    ∙ had_not _ _ c.in_ok-insert.ensures.added c.if-not-branch.false in
    let here : None ≡ first_again (keys_of (value_view m.1)) = sym
    (ap (option_map (λ (s : Name). s.now)) c.in_default.is) ∙ c.in_ok-name.ensures in
    record {
      same =
          ap (λ o. or_next o (first_again
          (members_keys (names (take (l.member-index + 1) xs)) (members_view (drop (l.member-index + 1) xs))))) here
          ∙ sym (comes_again-false (record { name = m.0.now; earlier = names (take l.member-index xs) }) _ among)
          ∙ sym (member_step xs l.member-index m (omega arith) c.member-item.is) ∙ l.invariant.same;
      seen = λ q. ap (has q) c.in_ok-insert.ensures.keys ∙ has-inserted q m.0 l.seen.keys
          ∙ ap (λ b. bytes_eq q m.0.now || b) (l.invariant.seen q) ∙ at_end _ _
          ∙ sym (ap (list_any (bytes_eq q)) (one_more_name xs l.member-index m (omega arith) c.member-item.is)
          ∙ list_any-append (bytes_eq q) (names (take l.member-index xs)) (m.0.now ∷ []));
    }

pub first_in_few-first_in_value-requires : goal.first_in_few-first_in_value-requires
first_in_few-first_in_value-requires t c =
    let xs = c.args.members.now.items in
    let x = c.index-member.result.now in
    let smaller : length (json_tokens (value_view x.1)) < length (members_tokens (members_view xs)) =
    subst (λ y. length (json_tokens (value_view y.1)) < length (members_tokens (members_view xs)))
    (sym c.index-member.ensures)
    (member_smaller xs c.loop-at.at x (omega (arith, c.loop-at-test.true, c.len-at-end.ensures))) in
    search rules

pub first_in_few-returns-in-Some : goal.first_in_few-returns-in-Some
first_in_few-returns-in-Some t c =
    let at = c.loop-at.at in
    let xs = c.args.members.now.items in
    let m = c.index-member.result.now in
    let among : list_any (bytes_eq m.0.now) (names (take at xs)) ≡ false = search rules in
    let here : Some c.in-Some.name.now
    ≡ first_again (keys_of (value_view m.1)) = sym (ap (option_map (λ (s : Name). s.now)) c.in-Some.is)
    ∙ c.in_ok-name.ensures in
    ap (λ o. or_next o (first_again (members_keys (names (take (at + 1) xs)) (members_view (drop (at + 1) xs))))) here
    ∙ sym (comes_again-false (record { name = m.0.now; earlier = names (take at xs) }) _ among)
    ∙ sym (member_step xs at m (omega (arith, c.loop-at-test.true, c.len-at-end.ensures)) c.index-member.ensures)
    ∙ c.loop-at.invariant

pub first_in_few-loop-at-preserved : goal.first_in_few-loop-at-preserved
first_in_few-loop-at-preserved t c =
    let at = c.loop-at.at in
    let xs = c.args.members.now.items in
    let m = c.index-member.result.now in
    let among : list_any (bytes_eq m.0.now) (names (take at xs)) ≡ false = search rules in
    let here : None ≡ first_again (keys_of (value_view m.1)) = sym
    (ap (option_map (λ (s : Name). s.now)) c.in_default.is) ∙ c.in_ok-name.ensures in
    ap (λ o. or_next o (first_again (members_keys (names (take (at + 1) xs)) (members_view (drop (at + 1) xs))))) here
    ∙ sym (comes_again-false (record { name = m.0.now; earlier = names (take at xs) }) _ among)
    ∙ sym (member_step xs at m (omega (arith, c.loop-at-test.true, c.len-at-end.ensures)) c.index-member.ensures)
    ∙ c.loop-at.invariant

pub first_in_rising-first_in_value-requires : goal.first_in_rising-first_in_value-requires
first_in_rising-first_in_value-requires t c =
    let xs = c.deref-member-items.result.now in
    let x = c.member-item.result in
    let smaller : length (json_tokens (value_view x.1)) < length
    (members_tokens (members_view c.args.members.now.items)) =
    subst (λ ys. length (json_tokens (value_view x.1)) < length (members_tokens (members_view ys)))
    c.deref-member-items.ensures.value
    (subst (λ y. length (json_tokens (value_view y.1)) < length (members_tokens (members_view xs)))
    (sym c.member-item.is) (member_smaller xs c.loop-member.member-index x (omega arith))) in
    search rules

pub first_in_rising-returns-in-Some : goal.first_in_rising-returns-in-Some
first_in_rising-returns-in-Some t c =
    let l = c.loop-member in
    let xs = c.deref-member-items.result.now in
    let m = c.member-item.result in
    let among : list_any (bytes_eq m.0.now) (names (take l.member-index xs)) ≡ false = none_before xs l.member-index m
    (subst (λ ys. IsStrictlySortedBy order (names ys)) (sym c.deref-member-items.ensures.value) c.requires)
    (omega arith)
    c.member-item.is in
    let here : Some c.in-Some.name.now
    ≡ first_again (keys_of (value_view m.1)) = sym (ap (option_map (λ (s : Name). s.now)) c.in-Some.is)
    ∙ c.in_ok-name.ensures in
    ap (λ o. or_next o (first_again
    (members_keys (names (take (l.member-index + 1) xs)) (members_view (drop (l.member-index + 1) xs))))) here
    ∙ sym (comes_again-false (record { name = m.0.now; earlier = names (take l.member-index xs) }) _ among)
    ∙ sym (member_step xs l.member-index m (omega arith) c.member-item.is) ∙ l.invariant
    ∙ ap (λ ys. first_again (members_keys [] (members_view ys))) c.deref-member-items.ensures.value

pub first_in_rising-loop-member-preserved : goal.first_in_rising-loop-member-preserved
first_in_rising-loop-member-preserved t c =
    let l = c.loop-member in
    let xs = c.deref-member-items.result.now in
    let m = c.member-item.result in
    let among : list_any (bytes_eq m.0.now) (names (take l.member-index xs)) ≡ false = none_before xs l.member-index m
    (subst (λ ys. IsStrictlySortedBy order (names ys)) (sym c.deref-member-items.ensures.value) c.requires)
    (omega arith)
    c.member-item.is in
    let here : None ≡ first_again (keys_of (value_view m.1)) = sym
    (ap (option_map (λ (s : Name). s.now)) c.in_default.is) ∙ c.in_ok-name.ensures in
    ap (λ o. or_next o (first_again
    (members_keys (names (take (l.member-index + 1) xs)) (members_view (drop (l.member-index + 1) xs))))) here
    ∙ sym (comes_again-false (record { name = m.0.now; earlier = names (take l.member-index xs) }) _ among)
    ∙ sym (member_step xs l.member-index m (omega arith) c.member-item.is) ∙ l.invariant

pub first_in_few-returns : goal.first_in_few-returns
first_in_few-returns t c = grind (arith, common_steps)

pub first_in_few-returns-then-is_among : goal.first_in_few-returns-then-is_among
first_in_few-returns-then-is_among t c = grind (arith, common_steps)

pub first_in_items-returns : goal.first_in_items-returns
first_in_items-returns t c = grind (arith, common_steps)

pub first_in_members-returns : goal.first_in_members-returns
first_in_members-returns t c = grind (arith, common_steps)

pub first_in_rising-returns : goal.first_in_rising-returns
first_in_rising-returns t c = grind (arith, common_steps)
