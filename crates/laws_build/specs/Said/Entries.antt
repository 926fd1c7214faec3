-- Where the names in the entry of an entity type or of an action mean themselves.
use Rattle.std.specs.Prelude.{◌≡◌, ℕ, List, Option, Some, None}
use Rattle.std.specs.List.{AllByRecursion}
use Rattle.std.specs.List.Sorted.{IsStrictlySortedBy}
use Rattle.cedar_identifiers.specs.Names.{components_of}
use Rattle.cedar_identifiers.specs.declared.internal_name.InternalName.{InternalName}
use Rattle.cedar_identifiers.specs.declared.name.Name.{Name}
use Rattle.cedar_identifiers.specs.declared.raw_name.RawName.{RawName}
use Rattle.cedar_identifiers.specs.declared.reference_type.ReferenceType.TheVariants.{Entity}
use Rattle.cedar_names.specs.Meaning.{PlainType, EntityMeaning, ActionMeaning}
use Rattle.schema_resolve_definitions.specs.Declarations.{name_of}
use Rattle.schema_resolve_definitions.specs.Tests.{Tests}
use Rattle.schema_build_expand.specs.Scope.{Scope}
use Rattle.schema_build_hierarchy.specs.Parents.{target_in}
use Rattle.schema_build_items.specs.ActionKinds.{components_cmp}
use Rattle.laws_build.specs.Closure.Kinds.{HasItsParts, AppliesWhereOwn}
use Rattle.laws_build.specs.Closure.Ordered.{IsOrderedType}
use Rattle.laws_build.specs.Said.Themselves.{MeansItself}

abbrev pub TagsMeanThemselves : Scope RawName → Option InternalName → Option PlainType → Type 0
TagsMeanThemselves s ns None = Unit {0}
TagsMeanThemselves s ns (Some t) = IsOrderedType t × MeansItself s ns t

-- An entity type has only what its kind has, and each name in its attributes and tags means itself.
pub record EntityMeansItself (s : Scope RawName) (ns : Option InternalName) (e : EntityMeaning) : Type 0 where
  pub parts : HasItsParts e.is_external e.choices e
  pub ordered : IsOrderedType (PlainType.Rec e.attributes)
  pub attributes : MeansItself s ns (PlainType.Rec e.attributes)
  pub tags : TagsMeanThemselves s ns e.tags

-- the name of an entity type, wherever it stands, is found as this entity type
abbrev pub IsFoundAs : Tests → Option Name → List (List ℕ) → Type 0
IsFoundAs t ns target = (n : RawName) → components_of n.name ≡ target → target_in t ns Entity n ≡ Some target

-- An action applies to principals and resources, or to nothing; these rise, and each name means itself.
pub record ActionMeansItself (t : Tests) (s : Scope RawName) (ns : Option Name) (a : ActionMeaning) : Type 0 where
  pub applies : AppliesWhereOwn a.is_external a
  pub principals_rise : IsStrictlySortedBy components_cmp a.principals
  pub resources_rise : IsStrictlySortedBy components_cmp a.resources
  pub principals : AllByRecursion (IsFoundAs t ns) a.principals
  pub resources : AllByRecursion (IsFoundAs t ns) a.resources
  pub ordered : IsOrderedType (PlainType.Rec a.context)
  pub context : MeansItself s (name_of ns) (PlainType.Rec a.context)
