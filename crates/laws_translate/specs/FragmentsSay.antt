-- What a fragment says, places aside: what is written of each namespace, over all its openings.
use Rattle.std.specs.Prelude.{◌≡◌, ℕ, Bool, List, [], ◌∷◌, map, Option, Some, None}
use Rattle.std.specs.BTreeMap.{is_at}
use Rattle.std.specs.List.{filter, flat_map}
use Rattle.std.specs.Cmp.Lexicographic.{slice_cmp}
use Rattle.std.specs.Map.{lookup}
use Rattle.std.specs.Option.{option_cmp, option_map}
use Rattle.std.specs.declared.cmp.Ordering.{Ordering}
use Rattle.cedar_data.specs.Text.{text_cmp}
use Rattle.cedar_identifiers.specs.Names.{components_of}
use Rattle.cedar_identifiers.specs.declared.any_id.AnyId.{AnyId}
use Rattle.cedar_identifiers.specs.declared.name.Name.{Name}
use Rattle.cedar_identifiers.specs.declared.raw_name.RawName.{RawName}
use Rattle.cedar_identifiers.specs.declared.unreserved_id.UnreservedId.{UnreservedId}
use Rattle.schema_syntax_reader.specs.Leaves.{Notes}
use Rattle.schema_json.specs.declared.common_type.CommonTypeId.{CommonTypeId}
use Rattle.schema_json.specs.declared.fragment.Fragment.{Fragment}
use Rattle.schema_json.specs.declared.fragment.NamespaceDefinition.{NamespaceDefinition}
use Rattle.schema_json.specs.AsWritten.{as_written}
use Rattle.laws_written.specs.Written.{WrittenDecl, entity, enum, external_entity, action, external_action, common}
use Rattle.laws_written.specs.Written.{WrittenDeclared, WrittenItem, namespace, outside}
use Rattle.laws_translate.specs.DeclarationsSay.{EntitySays, ActionSays, CommonSays}
use Rattle.laws_translate.specs.Entries.{EntriesSay, last_written}

-- the names that a declaration gives to entity types, to actions and to a common type
abbrev pub entities_of_decl : WrittenDecl → List (List ℕ)
entities_of_decl (entity names parents attributes tags) = names
entities_of_decl (enum names choices) = names
entities_of_decl (external_entity names parents) = names
entities_of_decl _ = []

abbrev pub actions_of_decl : WrittenDecl → List (List ℕ)
actions_of_decl (action names parents members) = names
actions_of_decl (external_action names parents) = names
actions_of_decl _ = []

abbrev pub commons_of_decl : WrittenDecl → List (List ℕ)
commons_of_decl (common name t) = name ∷ []
commons_of_decl _ = []

-- each declaration beside each of its names, in the order of the text
abbrev pub by_names : (WrittenDecl → List (List ℕ)) → List WrittenDeclared → List (List ℕ × WrittenDeclared)
by_names names_of decls = flat_map (λ d. map (λ name. (name, d)) (names_of d.decl)) decls

-- what is written in a namespace: the annotations and the declarations of all its openings, in the order of the text
pub record WrittenNamespace : Type 0 where
  pub notes : Notes
  pub decls : List WrittenDeclared

-- Each declared name of a kind has its declaration, and each annotation key its first value.
pub record NamespaceSays (n : NamespaceDefinition RawName as_written) (w : WrittenNamespace) : Type 0 where
  pub annotations : EntriesSay text_cmp (λ (key : AnyId). key.text) (λ v x. v ≡ x) n.annotations.0
      (λ key. lookup (λ k. is_at (text_cmp key) k.text) w.notes)
  pub commons : EntriesSay text_cmp (λ (id : CommonTypeId). id.id.id.text) CommonSays n.common_types
      (last_written (by_names commons_of_decl w.decls))
  pub entities : EntriesSay text_cmp (λ (id : UnreservedId). id.id.text) EntitySays n.entity_types
      (last_written (by_names entities_of_decl w.decls))
  pub actions : EntriesSay text_cmp (λ (id : List ℕ). id) ActionSays n.actions
      (last_written (by_names actions_of_decl w.decls))

-- the components of a namespace's name; the empty namespace has no name
abbrev pub NamespaceName : Type 0
NamespaceName = Option (List (List ℕ))

-- the empty namespace comes first
abbrev pub namespace_order : NamespaceName → NamespaceName → Ordering
namespace_order = option_cmp (slice_cmp text_cmp)

abbrev pub name_components : Option Name → NamespaceName
name_components name = option_map (λ n. components_of n.name) name

-- the namespace in which the item stands, or which it opens
abbrev pub name_of_item : WrittenItem → NamespaceName
name_of_item (namespace notes name decls) = Some name
name_of_item (outside d) = None

abbrev pub notes_of_item : WrittenItem → Notes
notes_of_item (namespace notes name decls) = notes
notes_of_item (outside d) = []

abbrev pub decls_of_item : WrittenItem → List WrittenDeclared
decls_of_item (namespace notes name decls) = decls
decls_of_item (outside d) = d ∷ []

-- the item opens this namespace, or stands in it
abbrev pub is_of_namespace : NamespaceName → WrittenItem → Bool
is_of_namespace name item = is_at (namespace_order name) (name_of_item item)

abbrev pub items_of_namespace : NamespaceName → List WrittenItem → List WrittenItem
items_of_namespace name items = filter (is_of_namespace name) items

-- what is written in a namespace of which these are all items; there is none without an item
abbrev pub opened : List WrittenItem → Option WrittenNamespace
opened [] = None
opened (item ∷ items) =
    Some (record { notes = flat_map notes_of_item (item ∷ items); decls = flat_map decls_of_item (item ∷ items) })

-- what is written in the namespace of this name by all items that open it or stand in it, if there is one
abbrev pub written_in : List WrittenItem → NamespaceName → Option WrittenNamespace
written_in items name = opened (items_of_namespace name items)

-- The fragment says what is written of each namespace.
abbrev pub FragmentSays : Fragment RawName as_written → List WrittenItem → Type 0
FragmentSays f items = EntriesSay namespace_order name_components NamespaceSays f.0 (written_in items)
