-- What the data of the deprecated form must keep to become a fragment, in the order of the walk: each text is a name in
-- its role, and what an action applies to has both lists.
use Rattle.std.specs.Prelude.{ℕ, List, [], ◌∷◌, ◌++◌, codes, Option, Some, None}
use Rattle.std.specs.List.{flat_map}
use Rattle.std.specs.Option.{option_map_or}
use Rattle.std.specs.Str.{chars, encode_utf8_all}
use Rattle.schema_json_shapes.specs.declared.name_role.NameRole.{NameRole}
use Rattle.schema_json_shapes.specs.declared.name_role.NameRole.TheVariants as role
use Rattle.schema_json_shapes.specs.declared.shape_fault.ShapeFault.TheVariants.{MissingField}
use Rattle.schema_json_shapes.specs.Walk.{Demand, unless, is_name, namespace_key_demands}
use Rattle.schema_compat_types.specs.declared.types.SchemaType.{SchemaType, SchemaType-F, fold-SchemaType}
use Rattle.schema_compat_types.specs.declared.types.SchemaTypeVariant.{SchemaTypeVariant, SchemaTypeVariant-F}
use Rattle.schema_compat_types.specs.declared.types.SchemaTypeVariant.{fold-SchemaTypeVariant}
use Rattle.schema_compat_types.specs.declared.types.TypeOfAttribute.{TypeOfAttribute, TypeOfAttribute-F}
use Rattle.schema_compat_types.specs.declared.types.TypeOfAttribute.{fold-TypeOfAttribute}
use Rattle.schema_compat_types.specs.declared.entity_type.EntityType.{EntityType}
use Rattle.schema_compat_types.specs.declared.action_type.ActionType.{ActionType}
use Rattle.schema_compat_types.specs.declared.action_type.ApplySpec.{ApplySpec}
use Rattle.schema_compat_types.specs.declared.fragment.NamespaceDefinition.{NamespaceDefinition}
use Rattle.schema_compat_types.specs.declared.fragment.SchemaFragment.{SchemaFragment}

abbrev pub Asked : Type 0
Asked = List Demand

-- the text is a name in this role
abbrev pub asks_name : NameRole → List ℕ → Asked
asks_name r text = is_name r (encode_utf8_all text) ∷ []

-- ---- types

abbrev pub type_layer : SchemaType-F Asked Asked Asked → Asked
type_layer (SchemaType-F.Variant shape) = shape
type_layer (SchemaType-F.TypeDef text) = asks_name role.CommonType text

abbrev pub shape_layer : SchemaTypeVariant-F Asked Asked Asked → Asked
shape_layer (SchemaTypeVariant-F.Set element) = element
shape_layer (SchemaTypeVariant-F.Record attributes more) = flat_map (λ a. a.1) attributes
shape_layer (SchemaTypeVariant-F.Entity text) = asks_name role.EntityType text
shape_layer (SchemaTypeVariant-F.Extension text) = asks_name role.ExtensionType text
shape_layer _ = []

abbrev pub attribute_layer : TypeOfAttribute-F Asked Asked Asked → Asked
attribute_layer a = a.ty

-- what a type must keep: attributes go by their names
abbrev pub asks_type : SchemaType → Asked
asks_type = fold-SchemaType Asked Asked Asked type_layer shape_layer attribute_layer

-- what the shape of a type must keep
abbrev pub asks_shape : SchemaTypeVariant → Asked
asks_shape = fold-SchemaTypeVariant Asked Asked Asked type_layer shape_layer attribute_layer

-- what the type of an attribute must keep
abbrev pub asks_attribute : TypeOfAttribute → Asked
asks_attribute = fold-TypeOfAttribute Asked Asked Asked type_layer shape_layer attribute_layer

-- what attributes must keep, in turn
abbrev pub asks_attributes : List (List ℕ × TypeOfAttribute) → Asked
asks_attributes es = flat_map (λ e. asks_attribute e.1) es

-- ---- what is declared

-- the field of this name is there
abbrev pub asks_field : {A : Type 0} → List ℕ → Option A → Demand
asks_field name None = unless (Some (MissingField (chars name)))
asks_field name (Some a) = unless None

-- both lists are there, and then the context
abbrev pub asks_apply : ApplySpec → Asked
asks_apply a =
    asks_field (codes "resourceTypes") a.resource_types ∷ asks_field (codes "principalTypes") a.principal_types
    ∷ asks_type a.context.0

-- what an action must keep: what it applies to, where that is written
abbrev pub asks_action : ActionType → Asked
asks_action a = option_map_or asks_apply a.applies_to []

-- what an entity type must keep: its shape
abbrev pub asks_entity : EntityType → Asked
asks_entity e = asks_type e.shape.0

-- what each value of a map must keep, in turn
abbrev pub asks_values : {K V : Type 0} → (V → Asked) → List (K × V) → Asked
asks_values asks es = flat_map (λ e. asks e.1) es

-- what a namespace must keep: its actions, its common types and its entity types
abbrev pub asks_namespace : NamespaceDefinition → Asked
asks_namespace n =
    asks_values asks_action n.actions
    ++ (asks_values asks_type n.common_types ++ asks_values asks_entity n.entity_types)

-- a namespace under its name
abbrev pub asks_entry : List ℕ × NamespaceDefinition → Asked
asks_entry e = namespace_key_demands (encode_utf8_all e.0) ++ asks_namespace e.1

-- what the data must keep, namespace by namespace
abbrev pub asks_fragment : SchemaFragment → Asked
asks_fragment s = flat_map asks_entry s.0
