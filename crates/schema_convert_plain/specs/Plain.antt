-- Trees of which nothing is to be said: they have no fault and no warning, and open no namespace twice.
use Rattle.std.specs.Prelude.{◌≡◌, false, List, ◌++◌, None, length}
use Rattle.std.specs.BTreeMap.{is_at}
use Rattle.std.specs.List.{AllByRecursion, filter_map}
use Rattle.std.specs.List.Sorted.{IsStrictlySortedBy}
use Rattle.std.specs.Map.{keys_of, lookup}
use Rattle.std.specs.declared.cmp.Ordering.{Ordering}
use Rattle.cedar_data.specs.Maps.{map_of}
use Rattle.cedar_data.specs.Text.{text_cmp}
use Rattle.cedar_data.specs.declared.node.Node.{Node}
use Rattle.cedar_identifiers.specs.Words.{is_cedar}
use Rattle.cedar_identifiers.specs.declared.id.Id.{Id}
use Rattle.cedar_identifiers.specs.declared.raw_name.RawName.{RawName}
use Rattle.cedar_identifiers.specs.declared.unreserved_id.UnreservedId.{UnreservedId}
use Rattle.cedar_names.specs.declared.extension_table.ExtensionTable.{ExtensionTable}
use Rattle.schema_syntax_tree.specs.declared.annotated.Annotated.{Annotated}
use Rattle.schema_syntax_tree.specs.declared.declaration.Declaration.{Declaration}
use Rattle.schema_syntax_tree.specs.declared.namespace.Namespace.{Namespace}
use Rattle.schema_json.specs.Keywords.{is_keyword_name}
use Rattle.schema_json.specs.declared.common_type.CommonType.{CommonType}
use Rattle.schema_json.specs.declared.common_type.CommonTypeId.{CommonTypeId}
use Rattle.schema_json.specs.declared.entity_type.EntityType.{EntityType}
use Rattle.schema_json.specs.Orders.{unreserved_cmp, common_cmp, namespace_cmp, annotation_key_cmp}
use Rattle.schema_convert_fragments.specs.Fragments.{common_entries}
use Rattle.schema_convert_fragments.specs.Fragments.{entity_entries, action_entries, namespace_entry}
use Rattle.schema_convert_faults.specs.Faults.{action_fault}
use Rattle.schema_convert_openings.specs.Joined.{named, outside, empty_namespace}
use Rattle.schema_convert_faults.specs.NamesIn.{entities_of, commons_of}
use Rattle.schema_convert_faults.specs.Shadowings.{is_taken}
use Rattle.schema_convert_faults.specs.Translatable.{IsFreeName}

-- the name is neither reserved nor taken
abbrev pub IsFreeId : ExtensionTable → Node Id → Type 0
IsFreeId table id = (is_cedar id.node.text ≡ false) × (is_taken table id.node.text ≡ false)

-- nothing is to be said of the declaration by itself
pub record IsPlainDeclaration (table : ExtensionTable) (d : Declaration) : Type 0 where
  pub entities : AllByRecursion (IsFreeId table) (entities_of d)
  pub block : action_fault d ≡ None
  pub commons : AllByRecursion (IsFreeId table) (commons_of d)
  pub words : AllByRecursion (λ id. is_keyword_name id.node.text ≡ false) (commons_of d)

-- the map of the entries has as many of them, so that no key stands twice
abbrev pub AreOnce : {K X : Type 0} → (K → K → Ordering) → List (K × X) → Type 0
AreOnce cmp es = length (map_of cmp es) ≡ length es

-- no common type has the name of an entity type
abbrev pub AreUnlike : List (CommonTypeId × CommonType RawName) → List (UnreservedId × EntityType RawName) → Type 0
AreUnlike commons entities = AllByRecursion (λ c. lookup (is_at (unreserved_cmp c.0.id)) entities ≡ None) commons

-- nothing is to be said of declarations that stand together
pub record ArePlain (table : ExtensionTable) (decls : List (Annotated (Node Declaration))) : Type 0 where
  pub each : AllByRecursion (λ d. IsPlainDeclaration table d.item.node) decls
  pub commons_once : AreOnce common_cmp (common_entries decls)
  pub entities_once : AreOnce unreserved_cmp (entity_entries decls)
  pub actions_once : AreOnce text_cmp (action_entries decls)
  pub unlike : AreUnlike (map_of common_cmp (common_entries decls)) (map_of unreserved_cmp (entity_entries decls))

-- the keys of the annotations rise
abbrev pub HasRisingNotes : Annotated Namespace → Type 0
HasRisingNotes n = IsStrictlySortedBy annotation_key_cmp (keys_of n.annotations.0)

-- nothing is to be said of the namespace by itself
pub record IsPlainNamespace (table : ExtensionTable) (n : Annotated Namespace) : Type 0 where
  pub free : IsFreeName n.item.name
  pub decls : ArePlain table n.item.decls

-- the namespaces that have a name, and one of what stands outside of these
abbrev pub namespaces_apart : List (Annotated Namespace) → List (Annotated Namespace)
namespaces_apart tree = named tree ++ empty_namespace (outside tree)

-- nothing is to be said of the tree
pub record IsPlainTree (table : ExtensionTable) (tree : List (Annotated Namespace)) : Type 0 where
  pub each : AllByRecursion (IsPlainNamespace table) (namespaces_apart tree)
  pub notes : AllByRecursion HasRisingNotes (named tree)
  pub once : AreOnce namespace_cmp (filter_map namespace_entry (namespaces_apart tree))
