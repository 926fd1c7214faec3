-- A translated fragment is in order.
use Rattle.std.proofs.Common.{List, [], ◌∷◌, Option, Some, None, sym, subst, All}
use Rattle.std.specs.List.{filter_map, cons_option}
use Rattle.std.specs.List.Sorted.{IsStrictlySortedBy}
use Rattle.std.specs.Map.{keys_of, values_of}
use Rattle.std.specs.Option.{option_map}
use Rattle.std.proofs.lemmas.List.Elements.{All-nil, All-cons}
use Rattle.cedar_data.specs.Maps.{map_of}
use Rattle.cedar_data.specs.Text.{text_cmp}
use Rattle.cedar_data.proofs.Orders.{text_total}
use Rattle.cedar_identifiers.specs.declared.name.Name.{Name}
use Rattle.cedar_identifiers.specs.declared.raw_name.RawName.{RawName}
use Rattle.schema_syntax_tree.specs.declared.annotated.Annotated.{Annotated}
use Rattle.schema_syntax_tree.specs.declared.namespace.Namespace.{Namespace}
use Rattle.schema_json.specs.declared.fragment.NamespaceDefinition.{NamespaceDefinition}
use Rattle.schema_json.specs.Orders.{unreserved_cmp, common_cmp, namespace_cmp}
use Rattle.schema_json.specs.AsWritten.{as_written}
use Rattle.schema_json.proofs.Orders.{namespaces_total, common_total, unreserved_total}
use Rattle.schema_convert_fragments.specs.Fragments.{definition_of}
use Rattle.schema_convert_fragments.specs.Fragments.{common_entries, entity_entries, action_entries, namespace_key}
use Rattle.schema_convert_fragments.specs.Fragments.{namespace_entry, fragment_of}
use Rattle.schema_convert_openings.specs.Joined.{joined}
use Rattle.schema_convert_plain.specs.Translation.{translated}
use Rattle.schema_build.specs.FaultsTold.{IsInOrder}
use Rattle.cedar_schema_core.proofs.RisingMaps.{keys_rise, all_values, by_entries, one_order}

abbrev Definition : Type 0
Definition = NamespaceDefinition RawName as_written

-- what each definition of a namespace has, the fragment's have
definitions : (P : Definition → Type 0) → ((decls : _) (notes : _) → P (definition_of decls notes))
    → (namespaces : List (Annotated Namespace)) → All (λ e. P e.1) (fragment_of namespaces).0
definitions P each namespaces =
    by_entries P (map_of namespace_cmp (filter_map namespace_entry namespaces))
    (all_values namespace_cmp namespaces_total P [] (filter_map namespace_entry namespaces) (All-nil P)
    (gathered namespaces))
  where
    one : (key : Option (Option Name)) (d : Definition) (rest : List (Option Name × Definition)) → P d
        → All P (values_of rest)
        → All P (values_of (cons_option (option_map (λ k. let e : Option Name × Definition = (k, d) in e) key) rest))
    one None d rest p h = h
    one (Some key) d rest p h = All-cons P d (values_of rest) p h

    gathered : (namespaces : List (Annotated Namespace)) → All P (values_of (filter_map namespace_entry namespaces))
    gathered [] = All-nil P
    gathered (n ∷ ns) =
        one (namespace_key n.item.name) (definition_of n.item.decls n.annotations) (filter_map namespace_entry ns)
        (each n.item.decls n.annotations) (gathered ns)

pub in_order : (tree : List (Annotated Namespace)) → IsInOrder (translated tree)
in_order tree = record {
  namespaces = subst (λ R. IsStrictlySortedBy R (keys_of (fragment_of (joined tree)).0)) (sym one_order)
      (keys_rise namespace_cmp namespaces_total (filter_map namespace_entry (joined tree)));
  commons = definitions (λ n. IsStrictlySortedBy (λ x y. text_cmp x.id.id.text y.id.id.text) (keys_of n.common_types))
      (λ decls notes. keys_rise common_cmp common_total
      (common_entries decls)) (joined tree);
  entities = definitions (λ n. IsStrictlySortedBy (λ x y. text_cmp x.id.text y.id.text) (keys_of n.entity_types))
      (λ decls notes. keys_rise unreserved_cmp unreserved_total
      (entity_entries decls)) (joined tree);
  actions = definitions (λ n. IsStrictlySortedBy text_cmp (keys_of n.actions))
      (λ decls notes. keys_rise text_cmp text_total (action_entries decls)) (joined tree);
}
