use Rattle.std.proofs.Common.{◌≡◌, map, ap, ◌∙◌, subst, All}
use Rattle.std.specs.Map.{keys_of}
use Rattle.std.specs.List.Sorted.{IsStrictlySortedBy}
use Rattle.std.specs.List.{flat_map}
use Rattle.std.proofs.lemmas.List.{take_all}
use Rattle.std.proofs.lemmas.List.Elements.{All-more}
use Rattle.cedar_data.specs.Text.{text_cmp}
use Rattle.cedar_names.specs.Orders.{uids_in_order, places_total}
use Rattle.schema_build_checks.specs.DeclaredAt.{actions_at_in_order}
use Rattle.schema_build_checks.proofs.Leasts.{whole_given}
use Rattle.schema_build_hierarchy.specs.Declarations.{actions_of, action_in}
use Rattle.schema_build_hierarchy.specs.Entries.{action_of_entry}
use Rattle.schema_build_hierarchy.proofs.Gathered.{same_members, actions_once, more_given}
use Rattle.schema_build_hierarchy.proofs.Ordered.{sorted_seen, sorted_back}
use Rattle.schema_build_hierarchy.proofs.entries.actions_in_order.Goals as goal

pub returns : goal.returns
returns c =
    let f = c.args.fragment.now.0 in
    let xs = c.as_slice-ns-items.result.now in
    let entries = c.loop-ns.entries.items in
    let items = c.in_order.result.items in
    let is : map action_of_entry entries ≡ flat_map actions_of f = c.loop-ns.invariant.gathered
    ∙ whole_given actions_of xs f c.loop-ns.ns-index c.loop-ns-test.false c.as_slice-ns-items.ensures.entries in
    let rising = subst (All (λ e. IsStrictlySortedBy text_cmp (keys_of e.1.actions)))
    (take_all c.loop-ns.ns-index xs c.loop-ns-test.false ∙ c.as_slice-ns-items.ensures.entries)
    c.loop-ns.invariant.rising in
    record {
      rising = sorted_seen action_of_entry (λ a b. actions_at_in_order a.name b.name) items
          (sorted_back (λ e. e.name) uids_in_order items c.in_order.ensures.sorted);
      same = same_members (λ e. e.name) action_of_entry uids_in_order (λ a b. actions_at_in_order a.name b.name)
          (λ a b h. h) entries items (flat_map actions_of f) is
          (actions_once f places_total
          c.as_slice-ns-items.ensures.sorted rising) c.in_order.ensures.kept c.in_order.ensures.whole;
    }

pub loop-ns-preserved : goal.loop-ns-preserved
loop-ns-preserved c =
    let l = c.loop-ns in
    let xs = c.as_slice-ns-items.result.now in
    let x = c.loop-ns-item.result in
    record {
      gathered = more_given action_of_entry actions_of xs l.ns-index x c.loop-ns-test.true c.loop-ns-item.is l.entries.items
          c.push_actions.new.entries.items _ l.invariant.gathered c.in_ok-push_actions.ensures
          (ap (map (action_in x.0)) c.as_slice.ensures.entries);
      rising = All-more (λ e. IsStrictlySortedBy text_cmp (keys_of e.1.actions)) xs l.ns-index x c.loop-ns-test.true
          l.invariant.rising
          (subst (λ e. IsStrictlySortedBy text_cmp (keys_of e.1.actions)) c.loop-ns-item.is c.as_slice.ensures.sorted);
    }
