-- What a declared action means besides its name and its ancestors, and what is built for it.
use Rattle.std.specs.Prelude.{◌≡◌, ◌↔◌, ℕ, Bool, true, false, List, [], map, All, Contains, Option, Some, None, IsSome}
use Rattle.std.specs.Cmp.Lexicographic.{slice_cmp}
use Rattle.std.specs.List.Sorted.{IsStrictlySortedBy}
use Rattle.std.specs.declared.cmp.Ordering.{Ordering}
use Rattle.cedar_data.specs.Text.{text_cmp}
use Rattle.cedar_identifiers.specs.Names.{components_of}
use Rattle.cedar_identifiers.specs.declared.name.Name.{Name}
use Rattle.cedar_identifiers.specs.declared.name_text.NameText as named
use Rattle.cedar_identifiers.specs.declared.raw_name.RawName.{RawName}
use Rattle.cedar_identifiers.specs.declared.reference_type.ReferenceType.TheVariants.{Entity}
use Rattle.cedar_names.specs.Meaning.{Attributes, Rec, no_more}
use Rattle.cedar_names.specs.declared.extension_table.ExtensionTable.{ExtensionTable}
use Rattle.schema_json.specs.declared.action_type.ActionType.{ActionType}
use Rattle.schema_json.specs.declared.action_type.ApplySpec.{ApplySpec}
use Rattle.schema_json.specs.declared.fragment.Fragment.{Fragment}
use Rattle.schema_resolve_definitions.specs.Declarations.{name_of}
use Rattle.schema_resolve_definitions.specs.Defined.{defined}
use Rattle.schema_resolve_definitions.specs.Tests.{Tests, tests_of}
use Rattle.schema_build_types.specs.declared.action.ValidatorActionKind.{ValidatorActionKind}
use Rattle.schema_build_types.specs.declared.action.ValidatorActionKind.TheVariants as built
use Rattle.schema_build_types.specs.declared.types.Type.{«Type» as Built}
use Rattle.schema_build_types.specs.Standing.{IsBuilt}
use Rattle.schema_build_checks.specs.DeclaredAt.{ActionAt}
use Rattle.schema_build_expand.specs.Expands.{Expands}
use Rattle.schema_build_expand.specs.Scope.{Scope}
use Rattle.schema_build_scope.specs.FragmentScope.{fragment_scope}
use Rattle.schema_build_scope.specs.Parts.{IsTypeReady}
use Rattle.schema_build_hierarchy.specs.Declarations.{Declared}
use Rattle.schema_build_hierarchy.specs.Parents.{target_in}

-- names by their components in turn
abbrev pub components_cmp : List (List ℕ) → List (List ℕ) → Ordering
components_cmp = slice_cmp text_cmp

-- they rise, and are just those that are wanted
pub record AreJust {A : Type 0} (order : A → A → Ordering) (Wanted : A → Type 0) (found : List A) : Type 0 where
  pub rising : IsStrictlySortedBy order found
  pub just : (a : A) → Contains found a ↔ Wanted a

-- the principals, the resources and the context of an action
pub record ApplyMeaning : Type 0 where
  pub principals : List (List (List ℕ))
  pub resources : List (List (List ℕ))
  pub context : Attributes

-- some of the names means this entity type
abbrev pub IsMeantByOne : Tests → Option Name → List RawName → List (List ℕ) → Type 0
IsMeantByOne t ns names target = (name : RawName) × Contains names name × (target_in t ns Entity name ≡ Some target)

-- what an action applies to means this: nothing where nothing is written, else the entity types that are meant, and
-- the context stands for its attributes
abbrev pub IsApplyMeaning : Tests → Scope RawName → Option Name → Option (ApplySpec RawName) → ApplyMeaning → Type 0
IsApplyMeaning t s ns None a = (a.principals ≡ []) × (a.resources ≡ []) × (a.context ≡ no_more)
IsApplyMeaning t s ns (Some d) a =
    AreJust components_cmp (IsMeantByOne t ns d.principal_types) a.principals
    × AreJust components_cmp (IsMeantByOne t ns d.resource_types) a.resources
    × Expands RawName s (name_of ns) d.context.0 (Rec a.context)

-- names as their components
abbrev pub as_components : List Name → List (List (List ℕ))
as_components names = map (λ n. components_of n.name) names

-- what is built stands for the meaning of an action with this mark: one that another schema declares applies to
-- nothing
abbrev pub ActionKindStandsFor : ValidatorActionKind → Bool → ApplyMeaning → Type 0
ActionKindStandsFor (built.Defined principals resources context) external a =
    (external ≡ false) × (as_components principals ≡ a.principals) × (as_components resources ≡ a.resources)
    × IsBuilt (Rec a.context) context
ActionKindStandsFor built.External external a =
    (external ≡ true) × (a.principals ≡ []) × (a.resources ≡ []) × (a.context ≡ no_more)

-- what is built stands for what an action of this schema applies to
abbrev pub IsApplyBuilt : Tests → Scope RawName → Option Name → Option (ApplySpec RawName) → ValidatorActionKind
    → Type 0
IsApplyBuilt t s ns applies kind =
    (a : ApplyMeaning) × IsApplyMeaning t s ns applies a × ActionKindStandsFor kind false a

module _ {G : named.Ghosts RawName} where
  -- what is built stands for what the declaration means
  abbrev pub IsActionKindBuilt : Tests → Scope RawName → Declared ActionAt (ActionType RawName G) → ValidatorActionKind
      → Type 0
  IsActionKindBuilt t s d kind =
      (a : ApplyMeaning) × IsApplyMeaning t s d.ns d.ty.applies_to a × ActionKindStandsFor kind d.ty.external a

  -- what is defined where the fragment stands alone under the table
  abbrev pub tests_alone : Fragment RawName G → ExtensionTable → Tests
  tests_alone f table = tests_of (defined f table)

  -- each of the names means an entity type
  abbrev pub AreEntitiesMeant : Fragment RawName G → ExtensionTable → Option Name → List RawName → Type 0
  AreEntitiesMeant f table ns = All (λ name. IsSome ((fragment_scope f table).means (name_of ns) Entity name))

  -- each principal and each resource means an entity type
  abbrev pub IsApplyMeant : Fragment RawName G → ExtensionTable → Option Name → Option (ApplySpec RawName) → Type 0
  IsApplyMeant f table ns None = Unit {0}
  IsApplyMeant f table ns (Some d) = AreEntitiesMeant f table ns d.principal_types
      × AreEntitiesMeant f table ns d.resource_types

  -- each part of the context can be expanded
  abbrev pub IsApplyReady : Fragment RawName G → ExtensionTable → List (Option Built) → Option Name
      → Option (ApplySpec RawName) → Type 0
  IsApplyReady f table done ns None = Unit {0}
  IsApplyReady f table done ns (Some d) = IsTypeReady f table done ns d.context.0
