-- A shape or a context that stands for no record: the error names the least entity type, else the least action.
use Rattle.std.specs.Prelude.{◌≡◌, Contains, Option, Some, None}
use Rattle.std.specs.Ordering.{is_lt}
use Rattle.cedar_identifiers.specs.declared.internal_name.InternalName.{InternalName}
use Rattle.cedar_identifiers.specs.declared.name.Name.{Name}
use Rattle.cedar_identifiers.specs.declared.name_text.NameText as named
use Rattle.cedar_identifiers.specs.declared.raw_name.RawName.{RawName}
use Rattle.cedar_names.specs.Meaning.{PlainType, Attributes, Rec}
use Rattle.cedar_names.specs.Orders.{names_in_order}
use Rattle.cedar_names.specs.declared.entity_uid.EntityUID.{EntityUID}
use Rattle.cedar_names.specs.declared.extension_table.ExtensionTable.{ExtensionTable}
use Rattle.schema_json.specs.declared.action_type.ActionType.{ActionType}
use Rattle.schema_json.specs.declared.action_type.ApplySpec.{ApplySpec}
use Rattle.schema_json.specs.declared.entity_type.EntityTypeKind.{EntityTypeKind}
use Rattle.schema_json.specs.declared.entity_type.EntityTypeKind.TheVariants.{Standard, Enum}
use Rattle.schema_json.specs.declared.fragment.Fragment.{Fragment}
use Rattle.schema_json.specs.declared.types.Type.{«Type»}
use Rattle.schema_resolve_definitions.specs.Declarations.{name_of}
use Rattle.schema_build_errors.specs.declared.schema_error.SchemaError.{SchemaError}
use Rattle.schema_build_errors.specs.declared.schema_error.SchemaError.TheVariants as error
use Rattle.schema_build_errors.specs.declared.shape_errors.ContextOrShape.{ContextOrShape}
use Rattle.schema_build_errors.specs.declared.shape_errors.ContextOrShape.TheVariants.{ActionContext, EntityTypeShape}
use Rattle.schema_build_checks.specs.DeclaredAt.{ActionAt, at_of, actions_at_in_order}
use Rattle.schema_build_expand.specs.Expands.{Expands}
use Rattle.schema_build_expand.specs.Scope.{Scope}
use Rattle.schema_build_scope.specs.FragmentScope.{fragment_scope}
use Rattle.schema_build_scope.specs.Rows.{OrElse}
use Rattle.schema_build_hierarchy.specs.Declarations.{Declared, DeclaredEntity, declared_entities, declared_actions}
use Rattle.schema_build_hierarchy.specs.Rows.{IsLeastAmong}

-- the type stands for something that is no record
abbrev pub IsNoRecord : Scope RawName → Option InternalName → «Type» RawName → Type 0
IsNoRecord s ns ty = (p : PlainType) × Expands RawName s ns ty p × ((attributes : Attributes) → p ≡ Rec attributes → ⊥)

-- the shape of an entity type that is not enumerated is no record
abbrev pub ShapeIsNoRecord : Scope RawName → Option InternalName → EntityTypeKind RawName → Type 0
ShapeIsNoRecord s ns (Standard d) = IsNoRecord s ns d.shape.0
ShapeIsNoRecord s ns (Enum choices) = ⊥

-- the error names this entity type
abbrev pub IsShapeError : Name → SchemaError → Type 0
IsShapeError name e =
    (given : _) × (e ≡ error.ContextOrShapeNotRecord given) × (given.ctx_or_shape ≡ EntityTypeShape name)

-- the error names this action
abbrev pub IsContextError : EntityUID → SchemaError → Type 0
IsContextError uid e =
    (given : _) × (e ≡ error.ContextOrShapeNotRecord given) × (given.ctx_or_shape ≡ ActionContext uid)

-- the context of an action that applies to something is no record
abbrev pub ContextIsNoRecord : Scope RawName → Option InternalName → Option (ApplySpec RawName) → Type 0
ContextIsNoRecord s ns None = ⊥
ContextIsNoRecord s ns (Some d) = IsNoRecord s ns d.context.0

-- the shape of the declared entity type is no record
abbrev pub LacksShape : Scope RawName → DeclaredEntity → Type 0
LacksShape s d = ShapeIsNoRecord s (name_of d.ns) d.ty.kind

module _ {G : named.Ghosts RawName} where
  -- the context of the declared action is no record
  abbrev pub LacksContext : Scope RawName → Declared ActionAt (ActionType RawName G) → Type 0
  LacksContext s d = ContextIsNoRecord s (name_of d.ns) d.ty.applies_to

  -- each shape is a record
  abbrev pub AreShapesRecords : Scope RawName → Fragment RawName G → Type 0
  AreShapesRecords s f = (d : DeclaredEntity) → Contains (declared_entities f) d → LacksShape s d → ⊥

  -- each context is a record
  abbrev pub AreContextsRecords : Scope RawName → Fragment RawName G → Type 0
  AreContextsRecords s f =
      (d : Declared ActionAt (ActionType RawName G)) → Contains (declared_actions f) d → LacksContext s d → ⊥

  -- the least entity type whose shape is no record, at the place of its declaration
  abbrev pub IsLeastShape : Scope RawName → Fragment RawName G → ContextOrShape → Type 0
  IsLeastShape s f (EntityTypeShape name) = (d : DeclaredEntity) × (name.name ≡ d.name)
      × IsLeastAmong (λ a b. is_lt (names_in_order a b)) (λ c. c.name) (LacksShape s) (declared_entities f) d
  IsLeastShape s f (ActionContext uid) = ⊥

  -- the least action whose context is no record, at the place of its declaration
  abbrev pub IsLeastContext : Scope RawName → Fragment RawName G → ContextOrShape → Type 0
  IsLeastContext s f (EntityTypeShape name) = ⊥
  IsLeastContext s f (ActionContext uid) = (d : Declared ActionAt (ActionType RawName G)) × (at_of uid ≡ d.name)
      × IsLeastAmong (λ a b. is_lt (actions_at_in_order a b)) (λ c. c.name) (LacksContext s) (declared_actions f) d

  -- a shape is no record: the error names the least entity type with such a shape
  abbrev pub HasNoRecordShape : Fragment RawName G → ExtensionTable → SchemaError → Type 0
  HasNoRecordShape f table (error.ContextOrShapeNotRecord e) = IsLeastShape (fragment_scope f table) f e.ctx_or_shape
  HasNoRecordShape f table _ = ⊥

  -- a context is no record: the error names the least action with such a context
  abbrev pub HasNoRecordContext : Fragment RawName G → ExtensionTable → SchemaError → Type 0
  HasNoRecordContext f table (error.ContextOrShapeNotRecord e) =
      IsLeastContext (fragment_scope f table) f e.ctx_or_shape
  HasNoRecordContext f table _ = ⊥

  -- a shape or a context is no record, and a shape is told before a context
  abbrev pub HasNoRecord : Fragment RawName G → ExtensionTable → SchemaError → Type 0
  HasNoRecord f table = OrElse (HasNoRecordShape f table) (HasNoRecordContext f table)
