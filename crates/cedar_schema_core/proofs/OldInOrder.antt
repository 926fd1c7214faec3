-- The fragment that the data of the deprecated form becomes is in order.
use Rattle.std.proofs.Common.{ℕ, List, [], ◌∷◌, Option, Ordering, sym, subst, All}
use Rattle.std.specs.List.{AllZip}
use Rattle.std.specs.List.Sorted.{IsStrictlySortedBy}
use Rattle.std.specs.Map.{keys_of, values_of}
use Rattle.std.proofs.lemmas.List.Elements.{All-nil, All-cons}
use Rattle.cedar_data.specs.Maps.{map_of}
use Rattle.cedar_data.specs.Text.{text_cmp}
use Rattle.cedar_identifiers.specs.declared.name.Name.{Name}
use Rattle.cedar_identifiers.specs.declared.raw_name.RawName.{RawName}
use Rattle.schema_json.specs.declared.fragment.Fragment.{Fragment}
use Rattle.schema_json.specs.declared.fragment.NamespaceDefinition.{NamespaceDefinition}
use Rattle.schema_json.specs.Orders.{unreserved_cmp, common_cmp, namespace_cmp}
use Rattle.schema_json.specs.AsWritten.{as_written}
use Rattle.schema_json.proofs.Orders.{namespaces_total}
use Rattle.schema_compat_types.specs.declared.fragment.NamespaceDefinition.{NamespaceDefinition as OldNamespace}
use Rattle.schema_compat_types.specs.declared.fragment.SchemaFragment.{SchemaFragment}
use Rattle.schema_compat_convert.specs.Converted.{MapBecomes, NamespaceBecomes, EntryBecomes, FragmentBecomes}
use Rattle.schema_compat_convert.specs.Converted.{CommonTypeBecomes, EntityTypeBecomes, ActionBecomes}
use Rattle.schema_compat_convert.proofs.Kept.{values_keys}
use Rattle.schema_build.specs.FaultsTold.{IsInOrder}
use Rattle.cedar_schema_core.proofs.RisingMaps.{keys_rise, all_values, by_entries, one_order}

abbrev Definition : Type 0
Definition = NamespaceDefinition RawName as_written

-- the keys of a map rise as before
still_rises : {K V W : Type 0} (order : K → K → Ordering) (Becomes : V → W → Type 0) (es : List (K × V))
    (fs : List (K × W)) → MapBecomes order Becomes es fs → IsStrictlySortedBy order (keys_of fs)
still_rises order Becomes es fs h = subst (IsStrictlySortedBy order) (sym (values_keys Becomes es fs h.1)) h.0

-- what each namespace has, those of the fragment have
module _ (P : Definition → Type 0) (each : (n : OldNamespace) (m : Definition) → NamespaceBecomes n m → P m) where
  entries_have : (olds : List (List ℕ × OldNamespace)) (es : List (Option Name × Definition))
      → AllZip EntryBecomes olds es → All P (values_of es)
  entries_have [] [] h = All-nil P
  entries_have [] (e ∷ es) h = absurd h
  entries_have (o ∷ olds) [] h = absurd h
  entries_have (o ∷ olds) (e ∷ es) h =
      All-cons P e.1 (values_of es) (each o.1 e.1 h.0.1) (entries_have olds es h.1)

  definitions_have : (s : SchemaFragment) (f : Fragment RawName as_written) → FragmentBecomes s f
      → All (λ e. P e.1) f.0
  definitions_have s f (es, are, is) =
      subst (λ (l : List (Option Name × Definition)). All (λ e. P e.1) l) (sym is)
      (by_entries P (map_of namespace_cmp es)
      (all_values namespace_cmp namespaces_total P [] es (All-nil P) (entries_have s.0 es are)))

pub old_in_order : (s : SchemaFragment) (f : Fragment RawName as_written) → FragmentBecomes s f → IsInOrder f
old_in_order s f h = record {
  namespaces = subst (λ R. IsStrictlySortedBy R (keys_of f.0)) (sym one_order)
      (subst (λ (l : List (Option Name × Definition)). IsStrictlySortedBy namespace_cmp (keys_of l)) (sym h.2)
      (keys_rise namespace_cmp namespaces_total h.0));
  commons = definitions_have (λ n. IsStrictlySortedBy (λ x y. text_cmp x.id.id.text y.id.id.text)
      (keys_of n.common_types)) (λ n m k. still_rises common_cmp CommonTypeBecomes n.common_types
      m.common_types k.commons) s f h;
  entities = definitions_have (λ n. IsStrictlySortedBy (λ x y. text_cmp x.id.text y.id.text) (keys_of n.entity_types))
      (λ n m k. still_rises unreserved_cmp EntityTypeBecomes n.entity_types m.entity_types k.entities) s f h;
  actions = definitions_have (λ n. IsStrictlySortedBy text_cmp (keys_of n.actions))
      (λ n m k. still_rises text_cmp ActionBecomes n.actions m.actions k.actions) s f h;
}
