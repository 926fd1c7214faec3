-- Fragments of which every type can be expanded.
use Rattle.std.specs.Prelude.{◌≡◌, ℕ, List, All, Contains, Option, Some}
use Rattle.cedar_identifiers.specs.declared.name.Name.{Name}
use Rattle.cedar_identifiers.specs.declared.name_text.NameText as named
use Rattle.cedar_identifiers.specs.declared.raw_name.RawName.{RawName}
use Rattle.cedar_identifiers.specs.declared.unreserved_id.UnreservedId.{UnreservedId}
use Rattle.cedar_names.specs.declared.extension_table.ExtensionTable.{ExtensionTable}
use Rattle.schema_json.specs.declared.action_type.ActionType.{ActionType}
use Rattle.schema_json.specs.declared.action_type.ApplySpec.{ApplySpec}
use Rattle.schema_json.specs.declared.common_type.CommonType.{CommonType}
use Rattle.schema_json.specs.declared.common_type.CommonTypeId.{CommonTypeId}
use Rattle.schema_json.specs.declared.entity_type.EntityType.{EntityType}
use Rattle.schema_json.specs.declared.entity_type.EntityTypeKind.TheVariants.{Standard}
use Rattle.schema_json.specs.declared.entity_type.StandardEntityType.{StandardEntityType}
use Rattle.schema_json.specs.declared.fragment.Fragment.{Fragment}
use Rattle.schema_json.specs.declared.fragment.NamespaceDefinition.{NamespaceDefinition}
use Rattle.schema_json.specs.declared.types.Type.{«Type»}
use Rattle.schema_json_walk.specs.Walk.{parts}
use Rattle.schema_resolve_definitions.specs.Declarations.{name_of}
use Rattle.schema_build_checks.specs.Rows.{Never}
use Rattle.schema_build_checks.specs.WalkFaults.{HasUnknownExtension, HasUnsupported}
use Rattle.schema_build_types.specs.declared.types.Type.{«Type» as Built}
use Rattle.schema_build_expand.specs.Rows.{IsMeant}
use Rattle.schema_build_expand.specs.Targets.{IsReady}
use Rattle.schema_build_scope.specs.FragmentScope.{fragment_scope}
use Rattle.schema_build_scope.specs.UndefinedRows.{HasUndefinedTypes}

module _ {G : named.Ghosts RawName} where
  -- each part of a type that is written in the namespace is meant
  abbrev pub IsTypeMeant : Fragment RawName G → ExtensionTable → Option Name → «Type» RawName → Type 0
  IsTypeMeant f table ns ty = All (IsMeant (fragment_scope f table) (name_of ns)) (parts ty)

  -- no type of the fragment is refused by the rows on extension types, features and references to types
  pub record IsAllKnown (f : Fragment RawName G) (table : ExtensionTable) : Type 0 where
    pub extensions : Never (HasUnknownExtension table f)
    pub features : Never (HasUnsupported f)
    pub types : Never (HasUndefinedTypes f table)

  -- each part of each declared common type, shape, type of tags and context is meant; a context that is itself a
  -- reference asks for a common type
  pub record AreTypesMeant (f : Fragment RawName G) (table : ExtensionTable) : Type 0 where
    pub commons : (ns : Option Name) (n : NamespaceDefinition RawName G) (e : CommonTypeId × CommonType RawName)
        → Contains f.0 (ns, n) → Contains n.common_types e → IsTypeMeant f table ns e.1.ty
    pub shapes : (ns : Option Name) (n : NamespaceDefinition RawName G) (e : UnreservedId × EntityType RawName)
        (s : StandardEntityType RawName) → Contains f.0 (ns, n) → Contains n.entity_types e → e.1.kind ≡ Standard s
        → IsTypeMeant f table ns s.shape.0
    pub tags : (ns : Option Name) (n : NamespaceDefinition RawName G) (e : UnreservedId × EntityType RawName)
        (s : StandardEntityType RawName) (ty : «Type» RawName) → Contains f.0 (ns, n) → Contains n.entity_types e
        → e.1.kind ≡ Standard s → s.tags ≡ Some ty → IsTypeMeant f table ns ty
    pub contexts : (ns : Option Name) (n : NamespaceDefinition RawName G) (e : List ℕ × ActionType RawName G)
        (a : ApplySpec RawName) → Contains f.0 (ns, n) → Contains n.actions e → e.1.applies_to ≡ Some a
        → IsTypeMeant f table ns a.context.0

  -- each part of a type that is written in the namespace can be expanded
  abbrev pub IsTypeReady : Fragment RawName G → ExtensionTable → List (Option Built) → Option Name → «Type» RawName
      → Type 0
  IsTypeReady f table done ns ty = All (IsReady (fragment_scope f table) done (name_of ns)) (parts ty)

  -- each shape, type of tags and context can be expanded
  pub record AreTypesReady (f : Fragment RawName G) (table : ExtensionTable) (done : List (Option Built)) : Type 0 where
    pub shapes : (ns : Option Name) (n : NamespaceDefinition RawName G) (e : UnreservedId × EntityType RawName)
        (s : StandardEntityType RawName) → Contains f.0 (ns, n) → Contains n.entity_types e → e.1.kind ≡ Standard s
        → IsTypeReady f table done ns s.shape.0
    pub tags : (ns : Option Name) (n : NamespaceDefinition RawName G) (e : UnreservedId × EntityType RawName)
        (s : StandardEntityType RawName) (ty : «Type» RawName) → Contains f.0 (ns, n) → Contains n.entity_types e
        → e.1.kind ≡ Standard s → s.tags ≡ Some ty → IsTypeReady f table done ns ty
    pub contexts : (ns : Option Name) (n : NamespaceDefinition RawName G) (e : List ℕ × ActionType RawName G)
        (a : ApplySpec RawName) → Contains f.0 (ns, n) → Contains n.actions e → e.1.applies_to ≡ Some a
        → IsTypeReady f table done ns a.context.0
