-- The walk of a fragment: what `visit` gives of each part, in order. It goes through the maps of the fragment as they
-- stand, which is by their keys. What is met of a record or an item as a whole comes before the parts inside it.
use Rattle.std.specs.Prelude.{ℕ, Bool, not, ◌&&◌, List, [], ◌∷◌, ◌++◌, Option, if◌then◌else◌}
use Rattle.std.specs.List.{flat_map}
use Rattle.std.specs.Option.{option_map_or}
use Rattle.cedar_identifiers.specs.declared.name.Name.{Name}
use Rattle.cedar_identifiers.specs.declared.name_text.NameText as named
use Rattle.cedar_identifiers.specs.declared.reference_type.ReferenceType.TheVariants.{Common, Entity, CommonOrEntity}
use Rattle.schema_json.specs.declared.types.Type.{«Type», Type-F, fold-Type, out-Type}
use Rattle.schema_json.specs.declared.types.TypeVariant.{TypeVariant, TypeVariant-F, fold-TypeVariant}
use Rattle.schema_json.specs.declared.types.RecordType.{RecordType, RecordType-F, fold-RecordType}
use Rattle.schema_json.specs.declared.types.TypeOfAttribute.{TypeOfAttribute, TypeOfAttribute-F, fold-TypeOfAttribute}
use Rattle.schema_json.specs.declared.entity_type.AttributesOrContext.{AttributesOrContext}
use Rattle.schema_json.specs.declared.entity_type.StandardEntityType.{StandardEntityType}
use Rattle.schema_json.specs.declared.entity_type.EntityTypeKind.{EntityTypeKind}
use Rattle.schema_json.specs.declared.entity_type.EntityTypeKind.TheVariants.{Standard, Enum}
use Rattle.schema_json.specs.declared.entity_type.EntityType.{EntityType}
use Rattle.schema_json.specs.declared.common_type.CommonType.{CommonType}
use Rattle.schema_json.specs.declared.action_type.ApplySpec.{ApplySpec}
use Rattle.schema_json.specs.declared.action_type.ActionEntityUID.{ActionEntityUID}
use Rattle.schema_json.specs.declared.action_type.ActionType.{ActionType}
use Rattle.schema_json.specs.declared.fragment.NamespaceDefinition.{NamespaceDefinition}
use Rattle.schema_json.specs.declared.fragment.Fragment.{Fragment}
use Rattle.schema_json_walk.specs.Bare.{is_bare_entity, is_bare_action}
use Rattle.schema_json_walk.specs.Parts.{Part, type_reference, context_reference, parent, principal, resource}
use Rattle.schema_json_walk.specs.Parts.{action_parent, extension_type, open_record, action_attributes}
use Rattle.schema_json_walk.specs.Parts.{external_not_bare}

-- what the values of a map give, by key
abbrev pub each_value : {K A U : Type 0} → (A → List U) → List (K × A) → List U
each_value give entries = flat_map (λ e. give e.1) entries

module _ {N U : Type 0} (visit : Part N → List U) where
  -- what `visit` gives of the part where this is true, and else nothing
  abbrev pub visit_where : Bool → Part N → List U
  visit_where there part = if there then visit part else []

  abbrev pub at_type : Type-F N (List U) (List U) (List U) (List U) → List U
  at_type (Type-F.Variant ty loc) = ty
  at_type (Type-F.CommonTypeRef name loc) = visit (type_reference Common name)

  abbrev pub at_variant : TypeVariant-F N (List U) (List U) (List U) (List U) → List U
  at_variant (TypeVariant-F.Set element) = element
  at_variant (TypeVariant-F.Record fields) = fields
  at_variant (TypeVariant-F.Entity name) = visit (type_reference Entity name)
  at_variant (TypeVariant-F.EntityOrCommon name) = visit (type_reference CommonOrEntity name)
  at_variant (TypeVariant-F.Extension name) = visit (extension_type name)
  at_variant _ = []

  abbrev pub at_record : RecordType-F N (List U) (List U) (List U) (List U) → List U
  at_record r = visit_where r.additional_attributes open_record ++ each_value (λ given. given) r.attributes

  abbrev pub at_attribute : TypeOfAttribute-F N (List U) (List U) (List U) (List U) → List U
  at_attribute a = a.ty

  -- what the parts of a type give, in turn
  abbrev pub of_type : «Type» N → List U
  of_type = fold-Type N (List U) (List U) (List U) (List U) at_type at_variant at_record at_attribute

  -- what the parts of a type's shape give, in turn
  abbrev pub of_variant : TypeVariant N → List U
  of_variant = fold-TypeVariant N (List U) (List U) (List U) (List U) at_type at_variant at_record at_attribute

  -- what the parts of a record give, the record itself first where it is open
  abbrev pub of_record : RecordType N → List U
  of_record = fold-RecordType N (List U) (List U) (List U) (List U) at_type at_variant at_record at_attribute

  -- what the parts of an attribute's type give, in turn
  abbrev pub of_attribute : TypeOfAttribute N → List U
  of_attribute = fold-TypeOfAttribute N (List U) (List U) (List U) (List U) at_type at_variant at_record at_attribute

  -- what the parts of a record's attributes give, by their names
  abbrev pub of_entries : List (List ℕ × TypeOfAttribute N) → List U
  of_entries entries = each_value of_attribute entries

  abbrev pub at_context : Type-F N («Type» N) (TypeVariant N) (RecordType N) (TypeOfAttribute N) → List U
  at_context (Type-F.Variant ty loc) = of_variant ty
  at_context (Type-F.CommonTypeRef name loc) = visit (context_reference name)

  -- what the parts of a context give; where it is a reference, that is met as one of a context
  abbrev pub of_context : AttributesOrContext N → List U
  of_context c = at_context (out-Type N c.0)

  -- what the parts of a common type give, in turn
  abbrev pub of_common : CommonType N → List U
  of_common c = of_type c.ty

  abbrev pub of_parents : List N → List U
  of_parents names = flat_map (λ name. visit (parent name)) names

  abbrev pub of_principals : List N → List U
  of_principals names = flat_map (λ name. visit (principal name)) names

  abbrev pub of_resources : List N → List U
  of_resources names = flat_map (λ name. visit (resource name)) names

  -- what the parents of a standard entity type give, as they are written, then its shape, then its tags
  abbrev pub of_standard : StandardEntityType N → List U
  of_standard s = of_parents s.member_of_types ++ (of_type s.shape.0 ++ option_map_or of_type s.tags [])

  abbrev pub of_kind : EntityTypeKind N → List U
  of_kind (Standard s) = of_standard s
  of_kind (Enum choices) = []

  -- what the parts of an entity type give, itself first where it is external and not bare
  abbrev pub of_entity : EntityType N → List U
  of_entity e = visit_where (e.external && not (is_bare_entity e)) external_not_bare ++ of_kind e.kind

  -- what the principals give, then the resources, then the context
  abbrev pub of_apply : ApplySpec N → List U
  of_apply s = of_principals s.principal_types ++ (of_resources s.resource_types ++ of_context s.context)

  module _ {G : named.Ghosts N} where
    -- what a parent of an action gives
    abbrev pub of_uid : ActionEntityUID N G → List U
    of_uid uid = visit (action_parent uid.id uid.ty)

    abbrev pub of_uids : List (ActionEntityUID N G) → List U
    of_uids uids = flat_map of_uid uids

    -- what the parents of an action give, and then what it applies to
    abbrev pub of_relations : ActionType N G → List U
    of_relations a = option_map_or of_uids a.member_of [] ++ option_map_or of_apply a.applies_to []

    -- what the attributes of an action give, then its parents, and then what it applies to
    abbrev pub of_action_parts : ActionType N G → List U
    of_action_parts a = option_map_or (λ names. visit (action_attributes names)) a.attributes [] ++ of_relations a

    -- what the parts of an action give, itself first where it is external and not bare
    abbrev pub of_action : ActionType N G → List U
    of_action a = visit_where (a.external && not (is_bare_action a)) external_not_bare ++ of_action_parts a

    -- what the entity types of a namespace give, and then its actions
    abbrev pub of_items : NamespaceDefinition N G → List U
    of_items n = each_value of_entity n.entity_types ++ each_value of_action n.actions

    -- what the common types of a namespace give, then its entity types, then its actions, each by name
    abbrev pub of_namespace : NamespaceDefinition N G → List U
    of_namespace n = each_value of_common n.common_types ++ of_items n

-- a fragment, where what a part gives may depend on the namespace
module _ {N U : Type 0} (visit : Option Name → Part N → List U) where
  abbrev pub of_entry : {G : named.Ghosts N} → Option Name × NamespaceDefinition N G → List U
  of_entry e = of_namespace (visit e.0) e.1

  -- what the parts of a fragment give, namespace by namespace; `visit` is told in which a part stands
  abbrev pub of_fragment : {G : named.Ghosts N} → Fragment N G → List U
  of_fragment f = flat_map of_entry f.0

-- a part by itself
abbrev pub itself : {N : Type 0} → Part N → List (Part N)
itself part = part ∷ []

-- the parts of a type
abbrev pub parts : {N : Type 0} → «Type» N → List (Part N)
parts = of_type itself

-- the parts of a namespace
abbrev pub namespace_parts : {N : Type 0} {G : named.Ghosts N} → NamespaceDefinition N G → List (Part N)
namespace_parts = of_namespace itself

-- the parts of a fragment, each with the namespace that it stands in
abbrev pub fragment_parts : {N : Type 0} {G : named.Ghosts N} → Fragment N G → List (Option Name × Part N)
fragment_parts {N} f = of_fragment (λ ns part. let placed : Option Name × Part N = (ns, part) in placed ∷ []) f
