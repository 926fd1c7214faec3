-- Rows about the hierarchies of entity types and of actions.
use Rattle.std.specs.Prelude.{◌≡◌, ◌<◌, ℕ, Bool, true, false, not, codes, List, [], map, length, Contains, Option, None}
use Rattle.std.specs.List.{filter}
use Rattle.std.specs.Option.{option_to_list}
use Rattle.std.specs.Ordering.{is_lt}
use Rattle.cedar_identifiers.specs.Names.{components_of}
use Rattle.cedar_identifiers.specs.declared.internal_name.InternalName.{InternalName}
use Rattle.cedar_identifiers.specs.declared.name.Name.{Name}
use Rattle.cedar_identifiers.specs.declared.name_text.NameText as named
use Rattle.cedar_identifiers.specs.declared.raw_name.RawName.{RawName}
use Rattle.cedar_identifiers.specs.declared.reference_type.ReferenceType.TheVariants.{Entity}
use Rattle.cedar_names.specs.CanonicalText.{basename}
use Rattle.cedar_names.specs.Orders.{names_in_order}
use Rattle.schema_json.specs.declared.entity_type.EntityTypeKind.{EntityTypeKind}
use Rattle.schema_json.specs.declared.entity_type.EntityTypeKind.TheVariants.{Standard, Enum}
use Rattle.schema_json.specs.declared.action_type.ActionType.{ActionType}
use Rattle.schema_json.specs.declared.fragment.Fragment.{Fragment}
use Rattle.schema_json_walk.specs.Parts.{Part, parent, principal, resource}
use Rattle.schema_json_walk.specs.Walk.{of_fragment}
use Rattle.schema_resolve_definitions.specs.Declarations.{name_of, declared}
use Rattle.schema_resolve_definitions.specs.Tests.{Tests, tests_of}
use Rattle.schema_resolve_targets.specs.Qualified.{in_namespace}
use Rattle.schema_resolve_targets.specs.Targets.{target}
use Rattle.schema_build_errors.specs.declared.schema_error.SchemaError.{SchemaError}
use Rattle.schema_build_errors.specs.declared.schema_error.SchemaError.TheVariants as error
use Rattle.schema_build_checks.specs.DeclaredAt.{ActionAt, at_of, actions_at_in_order}
use Rattle.schema_build_hierarchy.specs.Declarations.{Declared, DeclaredEntity, entity_name, action_key}
use Rattle.schema_build_hierarchy.specs.FirstUses.{AreFirstUses}
use Rattle.schema_build_hierarchy.specs.Parents.{IsAncestor, IsActionAncestor}

-- every entity type that is defined and not one of the fragment's own is named `Action`
abbrev pub AreOwnButActions : Tests → Tests → Type 0
AreOwnButActions t own = (n : List (List ℕ)) → t.is_entity n ≡ true → own.is_entity n ≡ false
    → basename n ≡ codes "Action"

-- what the name means as an entity type, at the place of its use, where that is not one of the fragment's own
abbrev pub undeclared_target : Tests → Tests → Option Name → RawName → List InternalName
undeclared_target t own ns name =
    filter (λ n. not (own.is_entity (components_of n)))
    (option_to_list (target t (in_namespace (name_of ns) Entity name)))

-- a parent of an entity type, a principal or a resource that is no declared entity type
abbrev pub undeclared_part : Tests → Tests → Option Name → Part RawName → List InternalName
undeclared_part t own ns (parent name) = undeclared_target t own ns name
undeclared_part t own ns (principal name) = undeclared_target t own ns name
undeclared_part t own ns (resource name) = undeclared_target t own ns name
undeclared_part t own ns _ = []

abbrev pub is_enum : EntityTypeKind RawName → Bool
is_enum (Standard s) = false
is_enum (Enum choices) = true

-- x is one of these that pass, and none that passes is less
pub record IsLeastAmong {D A : Type 0} (order : A → A → Bool) (name : D → A) (passes : D → Type 0)
    (ds : List D) (x : D) : Type 0 where
  pub among : Contains ds x
  pub passes_too : passes x
  pub none_less : (y : D) → Contains ds y → passes y → order (name y) (name x) ≡ false

-- the error names this action
abbrev pub IsCycleOf : ActionAt → SchemaError → Type 0
IsCycleOf a e = (given : _) × (e ≡ error.CycleInActionHierarchy given) × (at_of given.uid ≡ a)

-- the error names these types, the enumerated one without a place
abbrev pub IsUnderEnum : InternalName → List (List ℕ) → SchemaError → Type 0
IsUnderEnum external above e = (given : _) × (e ≡ error.ExternalWithEnumAncestor given)
    × (given.external_type.name ≡ external)
    × (components_of given.enum_type.name ≡ above) × (given.enum_type.name.loc ≡ None)

module _ {G : named.Ghosts RawName} where
  -- the uses of undeclared entity types, in the order of the walk
  abbrev pub undeclared_uses : Tests → Fragment RawName G → List InternalName
  undeclared_uses t f = of_fragment (undeclared_part t (tests_of (declared f))) f

  -- parents, principals or resources are no declared entity types: the error names each once, in order, at its first
  -- use
  abbrev pub HasUndeclaredEntityTypes : Tests → Fragment RawName G → SchemaError → Type 0
  HasUndeclaredEntityTypes t f e = (given : _) × (e ≡ error.UndeclaredEntityTypes given)
      × AreFirstUses names_in_order (undeclared_uses t f) (map (λ n. n.name) given.types) × (0 < length given.types)

  -- an action is its own ancestor: the error names the least, at the place of its declaration
  abbrev pub HasActionCycle : Tests → List (Declared ActionAt (ActionType RawName G)) → SchemaError → Type 0
  HasActionCycle t ds e = (d : Declared ActionAt (ActionType RawName G)) × IsCycleOf d.name e
      × IsLeastAmong (λ a b. is_lt (actions_at_in_order a b)) (λ c. c.name)
      (λ c. IsActionAncestor t ds (action_key c) (action_key c)) ds d

-- p is an enumerated entity type and an ancestor of d
abbrev pub IsEnumAbove : Tests → List DeclaredEntity → DeclaredEntity → DeclaredEntity → Type 0
IsEnumAbove t ds d p = (is_enum p.ty.kind ≡ true) × IsAncestor t ds (entity_name d) (entity_name p)

-- d is an external entity type with an enumerated one among its ancestors
abbrev pub IsExternalUnderEnum : Tests → List DeclaredEntity → DeclaredEntity → Type 0
IsExternalUnderEnum t ds d = (d.ty.external ≡ true) × ((p : DeclaredEntity) × Contains ds p × IsEnumAbove t ds d p)

-- an external entity type has an enumerated ancestor: the error names the least such type, at the place of its
-- declaration, and the least of its enumerated ancestors
abbrev pub HasExternalUnderEnum : Tests → List DeclaredEntity → SchemaError → Type 0
HasExternalUnderEnum t ds e =
    (d : DeclaredEntity) × (p : DeclaredEntity) × IsUnderEnum d.name (entity_name p) e
    × IsLeastAmong (λ a b. is_lt (names_in_order a b)) (λ c. c.name) (IsExternalUnderEnum t ds) ds d
    × IsLeastAmong (λ a b. is_lt (names_in_order a b)) (λ c. c.name) (IsEnumAbove t ds d) ds p
