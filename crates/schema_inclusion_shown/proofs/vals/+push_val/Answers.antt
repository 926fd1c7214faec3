use Rattle.std.proofs.Common.{arith, ◌≡◌, ◌++◌, ap, sym, ◌∙◌, get_or, codes, false}
use Rattle.std.proofs.lemmas.List.{at_drop_all}
use Rattle.std.proofs.lemmas.Result.{on_ok_weaker}
use Rattle.schema_inclusion_values.specs.Seen.{value_of, entries_value}
use Rattle.schema_inclusion_values.specs.Values.{Rec}
use Rattle.schema_inclusion_values.specs.declared.val.Val.{size-Val}
use Rattle.schema_inclusion_shown.specs.Members.{members_value}
use Rattle.schema_inclusion_shown.specs.ValueTexts.{value_text, members_text, entries_text}
use Rattle.schema_inclusion_shown.proofs.Growing.{then, so, begun, round, adds_all}
use Rattle.schema_inclusion_shown.proofs.Layers.{set_stands, record_stands}
use Rattle.schema_inclusion_shown.proofs.Rowed.{member_step, entry_step, record_filled, most_in}
use Rattle.schema_inclusion_shown.proofs.vals.+push_val.Goals as goal

pub push_val-returns-in_ok-push_members-in-Set : goal.push_val-returns-in_ok-push_members-in-Set
push_val-returns-in_ok-push_members-in-Set t c = on_ok_weaker c.push-in-Set.result
    (λ e. so (then c.in_ok-push-in-Set.ensures (then c.in_ok-push_members-in-Set.ensures e))
    (ap (λ ms. codes "[" ++ (members_text false (members_value ms) ++ codes "]")) c.as_slice.ensures
    ∙ ap value_text (sym (ap value_of c.in-Set.is ∙ set_stands c.in-Set.members)))) c.push-in-Set.ensures

pub push_val-returns-in-Rec : goal.push_val-returns-in-Rec
push_val-returns-in-Rec t c = on_ok_weaker c.push_entries.result
    (λ e. so e (ap (λ es. value_text (Rec (entries_value es))) c.as_slice-in-Rec.ensures
    ∙ ap value_text (sym (ap value_of c.in-Rec.is ∙ record_stands c.in-Rec.attrs)))) c.push_entries.ensures

pub push_members-loop-member-init : goal.push_members-loop-member-init
push_members-loop-member-init t c = begun c.args.text.now _

pub push_members-loop-member-preserved : goal.push_members-loop-member-preserved
push_members-loop-member-preserved t c =
    round (then c.in_ok-push_between.ensures c.in_ok-push_val.ensures) c.loop-member.invariant
    (member_step c.loop-member.behind c.args.members.now c.loop-member.member-index c.member-item.result
    c.loop-member-test.true c.member-item.is)

pub push_members-returns : goal.push_members-returns
push_members-returns t c =
    adds_all c.loop-member.invariant
    (at_drop_all (λ ms. members_text c.loop-member.behind (members_value ms)) c.args.members.now
    c.loop-member.member-index c.loop-member-test.false)

pub push_attributes-loop-name-init : goal.push_attributes-loop-name-init
push_attributes-loop-name-init t c = begun c.args.text.now _

pub push_attributes-loop-name-preserved : goal.push_attributes-loop-name-preserved
push_attributes-loop-name-preserved t c =
    round
    (then c.in_ok-push_between.ensures
    (then c.in_ok-push_key.ensures (then c.in_ok-push.ensures c.in_ok-push_val.ensures)))
    c.loop-name.invariant
    (entry_step c.loop-name.behind c.args.attrs.now c.loop-name.name-index c.loop-name-item.result
    c.loop-name-test.true c.loop-name-item.is)

pub push_attributes-returns : goal.push_attributes-returns
push_attributes-returns t c =
    adds_all c.loop-name.invariant
    (at_drop_all (λ es. entries_text c.loop-name.behind (entries_value es)) c.args.attrs.now
    c.loop-name.name-index c.loop-name-test.false)

pub push_attributes-push_val-requires : goal.push_attributes-push_val-requires
push_attributes-push_val-requires t c =
    let it = c.loop-name-item.result in
    let le = most_in (λ e. size-Val e.1) c.args.attrs.now c.loop-name.name-index it c.loop-name-test.true in
    let same : size-Val it.1 ≡ size-Val (get_or c.args.attrs.now c.loop-name.name-index it).1 = ap
    (λ e. size-Val e.1) c.loop-name-item.is in
    (omega (arith, le, same, c.decreases), tt)

pub push_entries-returns : goal.push_entries-returns
push_entries-returns t c = on_ok_weaker c.push-3.result
    (λ e. so (then c.in_ok-push.ensures (then c.in_ok-push_attributes.ensures e))
    (record_filled c.args.attrs.now (sym c.is_empty.ensures ∙ c.if-is_empty.false))) c.push-3.ensures
