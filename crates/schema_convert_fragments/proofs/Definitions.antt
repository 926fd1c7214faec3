-- A namespace and a fragment whose maps were made.
use Rattle.std.proofs.Common.{◌≡◌, ℕ, List, Option, ◌∙◌}
use Rattle.std.specs.Prelude.{Result, Ok, Err, IfOk}
use Rattle.std.specs.Cmp.Lexicographic.{slice_cmp}
use Rattle.std.specs.List.{filter_map}
use Rattle.std.specs.Option.{option_cmp}
use Rattle.std.specs.declared.cmp.Ordering.{Ordering}
use Rattle.cedar_data.specs.Maps.{map_of}
use Rattle.cedar_data.specs.Text.{text_cmp}
use Rattle.cedar_data.specs.declared.node.Node.{Node}
use Rattle.cedar_identifiers.specs.Names.{components_of}
use Rattle.cedar_identifiers.specs.declared.annotations.Annotations.{Annotations}
use Rattle.cedar_identifiers.specs.declared.name.Name.{Name}
use Rattle.cedar_identifiers.specs.declared.raw_name.RawName.{RawName}
use Rattle.cedar_identifiers.specs.declared.unreserved_id.UnreservedId.{UnreservedId}
use Rattle.schema_syntax_tree.specs.declared.annotated.Annotated.{Annotated}
use Rattle.schema_syntax_tree.specs.declared.declaration.Declaration.{Declaration}
use Rattle.schema_syntax_tree.specs.declared.namespace.Namespace.{Namespace}
use Rattle.schema_json.specs.declared.action_type.ActionType.{ActionType}
use Rattle.schema_json.specs.declared.common_type.CommonType.{CommonType}
use Rattle.schema_json.specs.declared.common_type.CommonTypeId.{CommonTypeId}
use Rattle.schema_json.specs.declared.entity_type.EntityType.{EntityType}
use Rattle.schema_json.specs.declared.fragment.Fragment.{Fragment}
use Rattle.schema_json.specs.declared.fragment.NamespaceDefinition.{NamespaceDefinition}
use Rattle.schema_json.specs.Orders.{unreserved_cmp, common_cmp, namespace_cmp}
use Rattle.schema_json.specs.AsWritten.{as_written}
use Rattle.schema_json.proofs.Namespaces.{map_made}
use Rattle.schema_convert_fragments.specs.Fragments.{common_entries, entity_entries}
use Rattle.schema_convert_fragments.specs.Fragments.{action_entries, definition_of, namespace_entry}
use Rattle.schema_convert_fragments.specs.Fragments.{fragment_of}

pub definition_made : {E : Type 0} (decls : List (Annotated (Node Declaration))) (notes : Annotations)
    (commons : List (CommonTypeId × CommonType RawName)) (entities : List (UnreservedId × EntityType RawName))
    (actions : List (List ℕ × ActionType RawName as_written)) (r : Result (NamespaceDefinition RawName as_written) E)
    → IfOk r (λ d. d ≡ record {
      common_types = map_of common_cmp commons;
      entity_types = map_of unreserved_cmp entities;
      actions = map_of text_cmp actions;
      annotations = notes;
    })
    → commons ≡ common_entries decls → entities ≡ entity_entries decls → actions ≡ action_entries decls
    → IfOk r (λ d. d ≡ definition_of decls notes)
definition_made decls notes commons entities actions (Err e) h c f a = tt
definition_made decls notes commons entities actions (Ok d) h c f a =
    h ∙ (λ i. record {
      common_types = map_of common_cmp (c i);
      entity_types = map_of unreserved_cmp (f i);
      actions = map_of text_cmp (a i);
      annotations = notes;
    })

pub entries_made : (D : Name → Name → Ordering)
    → ((a b : Name) → D a b ≡ slice_cmp text_cmp (components_of a.name) (components_of b.name))
    → (entries made : List (Option Name × NamespaceDefinition RawName as_written))
    → made ≡ map_of (option_cmp D) entries
    → (let whole : Fragment RawName as_written = record { 0 = made } in whole) ≡ record
    { 0 = map_of namespace_cmp entries }
entries_made D is entries made h = λ i. record { 0 = map_made D is entries made h i }

pub fragment_made : {E : Type 0} (namespaces : List (Annotated Namespace))
    (entries : List (Option Name × NamespaceDefinition RawName as_written)) (r : Result (Fragment RawName as_written) E)
    → IfOk r (λ f. f ≡ record { 0 = map_of namespace_cmp entries }) → entries ≡ filter_map namespace_entry namespaces
    → IfOk r (λ f. f ≡ fragment_of namespaces)
fragment_made namespaces entries (Err e) h is = tt
fragment_made namespaces entries (Ok f) h is = h ∙ (λ i. record { 0 = map_of namespace_cmp (is i) })
