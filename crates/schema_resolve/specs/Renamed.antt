-- Fragments with each name replaced by another, which may be of another kind, and each reference that may mean either
-- kind of type by a type. All else stays: shapes, annotations, flags and places.
use Rattle.std.specs.Prelude.{◌≡◌, refl, ℕ, Bool, true, false, not, ◌||◌, List, map, Option, Some}
use Rattle.std.specs.Option.{option_map}
use Rattle.cedar_data.specs.declared.loc.Loc.{Loc}
use Rattle.cedar_data.specs.Entries.{on_value}
use Rattle.cedar_identifiers.specs.declared.name.Name.{Name}
use Rattle.cedar_identifiers.specs.declared.reference_type.ReferenceType.{ReferenceType}
use Rattle.cedar_identifiers.specs.declared.reference_type.ReferenceType.TheVariants.{Common, Entity, CommonOrEntity}
use Rattle.cedar_identifiers.specs.declared.name_text.NameText as named
use Rattle.schema_json.specs.declared.types.Type.{«Type», Type-F, fold-Type, roll-Type}
use Rattle.schema_json.specs.declared.types.TypeVariant.{TypeVariant, TypeVariant-F, fold-TypeVariant, roll-TypeVariant}
use Rattle.schema_json.specs.declared.types.TypeVariant.{out-TypeVariant}
use Rattle.schema_json.specs.declared.types.RecordType.{RecordType, RecordType-F, fold-RecordType, roll-RecordType}
use Rattle.schema_json.specs.declared.types.TypeOfAttribute.{TypeOfAttribute, TypeOfAttribute-F, fold-TypeOfAttribute}
use Rattle.schema_json.specs.declared.types.TypeOfAttribute.{roll-TypeOfAttribute}
use Rattle.schema_json.specs.declared.entity_type.AttributesOrContext.{AttributesOrContext}
use Rattle.schema_json.specs.declared.entity_type.StandardEntityType.{StandardEntityType}
use Rattle.schema_json.specs.declared.entity_type.EntityTypeKind.{EntityTypeKind}
use Rattle.schema_json.specs.declared.entity_type.EntityTypeKind.TheVariants.{Standard, Enum}
use Rattle.schema_json.specs.declared.entity_type.EntityType.{EntityType}
use Rattle.schema_json.specs.declared.common_type.CommonType.{CommonType}
use Rattle.schema_json.specs.declared.action_type.ApplySpec.{ApplySpec}
use Rattle.schema_json.specs.declared.action_type.ActionEntityUID.{ActionEntityUID}
use Rattle.schema_json.specs.declared.action_type.ActionType.{ActionType}
use Rattle.schema_json.specs.declared.fragment.NamespaceDefinition.{NamespaceDefinition}
use Rattle.schema_json.specs.declared.fragment.Fragment.{Fragment}

pub due_there : (b : Bool) → (not b || true) ≡ true
due_there true = refl
due_there false = refl

-- what a name becomes that asks for a type of a kind, and what a reference at a place becomes that may mean either kind
pub record Renaming (N M : Type 0) : Type 0 where
  pub name : ReferenceType → N → M
  pub either : N → Option Loc → «Type» M

module _ {N M : Type 0} (f : Renaming N M) where
  abbrev pub new_type : Type-F N («Type» M) (Option Loc → «Type» M) (RecordType M) (TypeOfAttribute M) → «Type» M
  new_type (Type-F.Variant shape loc) = shape loc
  new_type (Type-F.CommonTypeRef name loc) = roll-Type M (Type-F.CommonTypeRef (f.name Common name) loc)

  -- a shape is a type at a place
  abbrev pub new_shape : TypeVariant-F N («Type» M) (Option Loc → «Type» M) (RecordType M) (TypeOfAttribute M)
      → Option Loc → «Type» M
  new_shape TypeVariant-F.String loc = roll-Type M (Type-F.Variant (roll-TypeVariant M TypeVariant-F.String) loc)
  new_shape TypeVariant-F.Long loc = roll-Type M (Type-F.Variant (roll-TypeVariant M TypeVariant-F.Long) loc)
  new_shape TypeVariant-F.Boolean loc = roll-Type M (Type-F.Variant (roll-TypeVariant M TypeVariant-F.Boolean) loc)
  new_shape (TypeVariant-F.Set element) loc =
      roll-Type M (Type-F.Variant (roll-TypeVariant M (TypeVariant-F.Set element)) loc)
  new_shape (TypeVariant-F.Record r) loc =
      roll-Type M (Type-F.Variant (roll-TypeVariant M (TypeVariant-F.Record r)) loc)
  new_shape (TypeVariant-F.Entity name) loc =
      roll-Type M (Type-F.Variant (roll-TypeVariant M (TypeVariant-F.Entity (f.name Entity name))) loc)
  new_shape (TypeVariant-F.EntityOrCommon name) loc = f.either name loc
  new_shape (TypeVariant-F.Extension name) loc =
      roll-Type M (Type-F.Variant (roll-TypeVariant M (TypeVariant-F.Extension name)) loc)

  abbrev pub new_record : RecordType-F N («Type» M) (Option Loc → «Type» M) (RecordType M) (TypeOfAttribute M)
      → RecordType M
  new_record r = roll-RecordType M
      (record { attributes = r.attributes; additional_attributes = r.additional_attributes })

  abbrev pub new_attribute : TypeOfAttribute-F N («Type» M) (Option Loc → «Type» M) (RecordType M) (TypeOfAttribute M)
      → TypeOfAttribute M
  new_attribute a = roll-TypeOfAttribute M (record { ty = a.ty; annotations = a.annotations; required = a.required })

  -- a type with its names replaced
  abbrev pub renamed : «Type» N → «Type» M
  renamed = fold-Type N («Type» M) (Option Loc → «Type» M) (RecordType M) (TypeOfAttribute M) new_type new_shape
      new_record new_attribute

  -- the type of this shape at a place
  abbrev pub renamed_at : TypeVariant N → Option Loc → «Type» M
  renamed_at = fold-TypeVariant N («Type» M) (Option Loc → «Type» M) (RecordType M) (TypeOfAttribute M) new_type
      new_shape new_record new_attribute

  -- a record with its names replaced
  abbrev pub renamed_record : RecordType N → RecordType M
  renamed_record = fold-RecordType N («Type» M) (Option Loc → «Type» M) (RecordType M) (TypeOfAttribute M) new_type
      new_shape new_record new_attribute

  -- an attribute with its names replaced
  abbrev pub renamed_attribute : TypeOfAttribute N → TypeOfAttribute M
  renamed_attribute = fold-TypeOfAttribute N («Type» M) (Option Loc → «Type» M) (RecordType M) (TypeOfAttribute M)
      new_type new_shape new_record new_attribute

  -- a shape by itself, in which a reference that may mean either kind stays one
  abbrev pub shape_of : TypeVariant-F N («Type» N) (TypeVariant N) (RecordType N) (TypeOfAttribute N) → TypeVariant M
  shape_of TypeVariant-F.String = roll-TypeVariant M TypeVariant-F.String
  shape_of TypeVariant-F.Long = roll-TypeVariant M TypeVariant-F.Long
  shape_of TypeVariant-F.Boolean = roll-TypeVariant M TypeVariant-F.Boolean
  shape_of (TypeVariant-F.Set element) = roll-TypeVariant M (TypeVariant-F.Set (renamed element))
  shape_of (TypeVariant-F.Record r) = roll-TypeVariant M (TypeVariant-F.Record (renamed_record r))
  shape_of (TypeVariant-F.Entity name) = roll-TypeVariant M (TypeVariant-F.Entity (f.name Entity name))
  shape_of (TypeVariant-F.EntityOrCommon name) =
      roll-TypeVariant M (TypeVariant-F.EntityOrCommon (f.name CommonOrEntity name))
  shape_of (TypeVariant-F.Extension name) = roll-TypeVariant M (TypeVariant-F.Extension name)

  -- what a type is made of, with its names replaced
  abbrev pub renamed_variant : TypeVariant N → TypeVariant M
  renamed_variant v = shape_of (out-TypeVariant N v)

  abbrev pub renamed_entries : List (List ℕ × TypeOfAttribute N) → List (List ℕ × TypeOfAttribute M)
  renamed_entries entries = map (on_value renamed_attribute) entries

  abbrev pub renamed_common : CommonType N → CommonType M
  renamed_common c = record { ty = renamed c.ty; annotations = c.annotations; loc = c.loc }

  -- a shape or a context with its names replaced
  abbrev pub renamed_context : AttributesOrContext N → AttributesOrContext M
  renamed_context c = record { 0 = renamed c.0 }

  abbrev pub renamed_standard : StandardEntityType N → StandardEntityType M
  renamed_standard s = record {
    member_of_types = map (f.name Entity) s.member_of_types;
    shape = renamed_context s.shape;
    tags = option_map renamed s.tags;
  }

  abbrev pub renamed_kind : EntityTypeKind N → EntityTypeKind M
  renamed_kind (Standard s) = Standard (renamed_standard s)
  renamed_kind (Enum choices) = Enum choices

  -- an entity type with its names replaced
  abbrev pub renamed_entity : EntityType N → EntityType M
  renamed_entity e = record {
    kind = renamed_kind e.kind;
    external = e.external;
    annotations = e.annotations;
    loc = e.loc;
  }

  -- what an action applies to, with its names replaced
  abbrev pub renamed_apply : ApplySpec N → ApplySpec M
  renamed_apply s = record {
    resource_types = map (f.name Entity) s.resource_types;
    principal_types = map (f.name Entity) s.principal_types;
    context = renamed_context s.context;
  }

  -- h says what the type of an action with an id becomes, which is always written then
  module _ (h : List ℕ → Option N → M) where
    -- a reference to an action with its type replaced
    abbrev pub renamed_uid : {G : named.Ghosts N} {H : named.Ghosts M} → ActionEntityUID N G → ActionEntityUID M H
    renamed_uid {G} {H} a = record { id = a.id; ty = Some (h a.id a.ty); typed = due_there H.TYPED }

    -- an action with its names replaced
    abbrev pub renamed_action : {G : named.Ghosts N} {H : named.Ghosts M} → ActionType N G → ActionType M H
    renamed_action a = record {
      attributes = a.attributes;
      applies_to = option_map renamed_apply a.applies_to;
      member_of = option_map (map renamed_uid) a.member_of;
      external = a.external;
      annotations = a.annotations;
      loc = a.loc;
    }

    -- a namespace with its names replaced
    abbrev pub renamed_namespace : {G : named.Ghosts N} {H : named.Ghosts M} → NamespaceDefinition N G
        → NamespaceDefinition M H
    renamed_namespace n = record {
      common_types = map (on_value renamed_common) n.common_types;
      entity_types = map (on_value renamed_entity) n.entity_types;
      actions = map (on_value renamed_action) n.actions;
      annotations = n.annotations;
    }

-- a fragment, where the renaming may depend on the namespace
module _ {N M : Type 0} (f : Option Name → Renaming N M) (h : Option Name → List ℕ → Option N → M) where
  abbrev pub renamed_entry : {G : named.Ghosts N} {H : named.Ghosts M} → Option Name × NamespaceDefinition N G
      → Option Name × NamespaceDefinition M H
  renamed_entry e = (e.0, renamed_namespace (f e.0) (h e.0) e.1)

  -- a fragment with its names replaced
  abbrev pub renamed_fragment : {G : named.Ghosts N} {H : named.Ghosts M} → Fragment N G → Fragment M H
  renamed_fragment p = record { 0 = map renamed_entry p.0 }
