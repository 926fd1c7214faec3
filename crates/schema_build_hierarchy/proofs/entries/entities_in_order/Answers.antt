use Rattle.std.proofs.Common.{◌≡◌, map, ap, ◌∙◌, subst, All}
use Rattle.std.specs.Map.{keys_of}
use Rattle.std.specs.List.Sorted.{IsStrictlySortedBy}
use Rattle.std.specs.List.{flat_map}
use Rattle.std.proofs.lemmas.List.{take_all}
use Rattle.std.proofs.lemmas.List.Elements.{All-more}
use Rattle.cedar_data.specs.Text.{text_cmp}
use Rattle.cedar_identifiers.specs.declared.name.Name.{Name}
use Rattle.cedar_names.specs.Orders.{names_in_order, places_total}
use Rattle.schema_build_checks.proofs.Leasts.{whole_given}
use Rattle.schema_build_hierarchy.specs.Declarations.{entities_of, entity_in}
use Rattle.schema_build_hierarchy.specs.Entries.{entity_of}
use Rattle.schema_build_hierarchy.proofs.Gathered.{same_members, entities_once, more_given}
use Rattle.schema_build_hierarchy.proofs.Ordered.{sorted_seen, sorted_back}
use Rattle.schema_build_hierarchy.proofs.entries.entities_in_order.Goals as goal

pub returns : goal.returns
returns c =
    let f = c.args.fragment.now.0 in
    let xs = c.as_slice-ns-items.result.now in
    let entries = c.loop-ns.entries.items in
    let items = c.in_order.result.items in
    let is : map entity_of entries ≡ flat_map entities_of f = c.loop-ns.invariant.gathered
    ∙ whole_given entities_of xs f c.loop-ns.ns-index c.loop-ns-test.false c.as_slice-ns-items.ensures.entries in
    let rising = subst (All (λ e. IsStrictlySortedBy (λ x y. text_cmp x.id.text y.id.text)
    (keys_of e.1.entity_types))) (take_all c.loop-ns.ns-index xs c.loop-ns-test.false
    ∙ c.as_slice-ns-items.ensures.entries) c.loop-ns.invariant.rising in
    record {
      rising = sorted_seen entity_of (λ a b. names_in_order a.name b.name) items
          (sorted_back (λ e. e.name) (λ (a b : Name). names_in_order a.name b.name) items c.in_order.ensures.sorted);
      same = same_members (λ e. e.name) entity_of (λ (a b : Name). names_in_order a.name b.name)
          (λ a b. names_in_order a.name b.name) (λ a b h. h) entries items (flat_map entities_of f) is
          (entities_once f places_total
          c.as_slice-ns-items.ensures.sorted rising) c.in_order.ensures.kept c.in_order.ensures.whole;
    }

pub loop-ns-preserved : goal.loop-ns-preserved
loop-ns-preserved c =
    let l = c.loop-ns in
    let xs = c.as_slice-ns-items.result.now in
    let x = c.loop-ns-item.result in
    record {
      gathered = more_given entity_of entities_of xs l.ns-index x c.loop-ns-test.true c.loop-ns-item.is l.entries.items
          c.push_entities.new.entries.items _ l.invariant.gathered c.in_ok-push_entities.ensures
          (ap (map (entity_in x.0)) c.as_slice.ensures.entries);
      rising = All-more (λ e. IsStrictlySortedBy (λ x y. text_cmp x.id.text y.id.text) (keys_of e.1.entity_types)) xs
          l.ns-index x c.loop-ns-test.true l.invariant.rising
          (subst (λ e. IsStrictlySortedBy (λ x y. text_cmp x.id.text y.id.text) (keys_of e.1.entity_types))
          c.loop-ns-item.is c.as_slice.ensures.sorted);
    }
