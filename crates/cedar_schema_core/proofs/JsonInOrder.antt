-- The fragment of a JSON value is in order.
use Rattle.std.proofs.Common.{ℕ, List, [], Option, Some, None, Ordering, sym, subst, All}
use Rattle.std.specs.Prelude.{codes}
use Rattle.std.specs.Cmp.{IsTotalOrder}
use Rattle.std.specs.List.Sorted.{IsStrictlySortedBy}
use Rattle.std.specs.Map.{keys_of, values_of}
use Rattle.std.proofs.lemmas.List.Elements.{All-nil, All-cons}
use Rattle.serde_json.specs.Data.{Data, null, boolean, number, string, array, object, Members}
use Rattle.serde_json.specs.Find.{get_member}
use Rattle.cedar_data.specs.Maps.{map_of}
use Rattle.cedar_data.specs.Text.{text_cmp}
use Rattle.cedar_data.proofs.Orders.{text_total}
use Rattle.cedar_identifiers.specs.declared.name.Name.{Name}
use Rattle.cedar_identifiers.specs.declared.raw_name.RawName.{RawName}
use Rattle.schema_json.specs.declared.fragment.Fragment.{Fragment}
use Rattle.schema_json.specs.declared.fragment.NamespaceDefinition.{NamespaceDefinition}
use Rattle.schema_json.specs.Orders.{namespace_cmp, unreserved_cmp, common_cmp}
use Rattle.schema_json.specs.AsWritten.{as_written}
use Rattle.schema_json.proofs.Orders.{namespaces_total, common_total, unreserved_total}
use Rattle.schema_json_shapes.specs.Said.{AreEntries, no_entry, next_entry, IsId, IsText, IsMap, IsMapOrNone}
use Rattle.schema_json_shapes.specs.Shapes.{IsCommonType, IsEntityType, IsNamespaceKey, IsCommonId}
use Rattle.schema_json_shapes.specs.Shapes.{IsAction, IsNamespace, IsFragment}
use Rattle.schema_build.specs.FaultsTold.{IsInOrder}
use Rattle.cedar_schema_core.proofs.RisingMaps.{keys_rise, all_values, by_entries, one_order}

-- the keys of a map that an object says rise
module _ {K V : Type 0} (order : K → K → Ordering) (total : IsTotalOrder order) (Key : List ℕ → K → Type 0)
    (Value : Data → V → Type 0) where
  map_rises : (d : Data) (es : List (K × V)) → IsMap order Key Value d es → IsStrictlySortedBy order (keys_of es)
  map_rises null es h = absurd h
  map_rises (boolean b) es h = absurd h
  map_rises (number n) es h = absurd h
  map_rises (string s) es h = absurd h
  map_rises (array ds) es h = absurd h
  map_rises (object ms) es h =
      subst (λ (xs : List (K × V)). IsStrictlySortedBy order (keys_of xs)) (sym h.2) (keys_rise order total h.0)

  rises : (o : Option Data) (es : List (K × V)) → IsMapOrNone order Key Value o es
      → IsStrictlySortedBy order (keys_of es)
  rises None es h =
      subst (λ (xs : List (K × V)). IsStrictlySortedBy order (keys_of xs)) (sym h)
      (keys_rise {X = V} order total [])
  rises (Some d) es h = map_rises d es h

abbrev Definition : Type 0
Definition = NamespaceDefinition RawName as_written

-- what each namespace that a value says has, those of the fragment have
module _ (P : Definition → Type 0) (each : (ms : Members) (n : Definition) → IsNamespace (object ms) n → P n) where
  one : (d : Data) (n : Definition) → IsNamespace d n → P n
  one null n h = absurd h
  one (boolean b) n h = absurd h
  one (number x) n h = absurd h
  one (string s) n h = absurd h
  one (array ds) n h = absurd h
  one (object ms) n h = each ms n h

  entries_have : (ms : Members) (es : List (Option Name × Definition)) → AreEntries IsNamespaceKey IsNamespace ms es
      → All P (values_of es)
  entries_have ms es no_entry = All-nil P
  entries_have ms es (next_entry k d rest key n more is said others) =
      All-cons P n (values_of more) (one d n said) (entries_have rest more others)

  definitions_have : (d : Data) (f : Fragment RawName as_written) → IsFragment d f → All (λ e. P e.1) f.0
  definitions_have null f h = absurd h
  definitions_have (boolean b) f h = absurd h
  definitions_have (number n) f h = absurd h
  definitions_have (string s) f h = absurd h
  definitions_have (array ds) f h = absurd h
  definitions_have (object ms) f h =
      subst (λ (es : List (Option Name × Definition)). All (λ e. P e.1) es) (sym h.2)
      (by_entries P (map_of namespace_cmp h.0)
      (all_values namespace_cmp namespaces_total P [] h.0 (All-nil P)
      (entries_have ms h.0 h.1)))

pub json_in_order : (d : Data) (f : Fragment RawName as_written) → IsFragment d f → IsInOrder f
json_in_order d f h = record {
  namespaces = subst (λ R. IsStrictlySortedBy R (keys_of f.0)) (sym one_order)
      (map_rises namespace_cmp namespaces_total IsNamespaceKey
      IsNamespace d f.0 h);
  commons = definitions_have (λ n. IsStrictlySortedBy (λ x y. text_cmp x.id.id.text y.id.id.text)
      (keys_of n.common_types))
      (λ ms n k. rises common_cmp common_total
      IsCommonId IsCommonType
      (get_member (codes "commonTypes") ms) n.common_types k.commons) d f h;
  entities = definitions_have (λ n. IsStrictlySortedBy (λ x y. text_cmp x.id.text y.id.text) (keys_of n.entity_types))
      (λ ms n k. rises unreserved_cmp unreserved_total IsId IsEntityType
      (get_member (codes "entityTypes") ms) n.entity_types k.entities) d f h;
  actions = definitions_have (λ n. IsStrictlySortedBy text_cmp (keys_of n.actions))
      (λ ms n k. rises text_cmp text_total IsText IsAction (get_member (codes "actions") ms) n.actions k.actions) d f h;
}
