-- Laws of what a reference means: it is the first candidate that is defined, it is one, and the reference is resolved
-- to it.
use Rattle.std.specs.Prelude.{◌≡◌, ◌↔◌, Bool, true, false, List, ◌∷◌, ◌++◌, Option, Some}
use Rattle.std.specs.List.{list_any}
use Rattle.cedar_data.specs.declared.loc.Loc.{Loc}
use Rattle.cedar_identifiers.specs.Names.{components_of}
use Rattle.cedar_identifiers.specs.declared.reference_type.ReferenceType.{ReferenceType}
use Rattle.cedar_identifiers.specs.declared.reference_type.ReferenceType.TheVariants.{Common, Entity, CommonOrEntity}
use Rattle.cedar_identifiers.specs.declared.internal_name.InternalName.{InternalName}
use Rattle.cedar_identifiers.specs.declared.raw_name.RawName.{RawName}
use Rattle.cedar_identifiers.specs.declared.conditional_name.ConditionalName.{ConditionalName}
use Rattle.schema_resolve_definitions.specs.Tests.{Tests}
use Rattle.schema_json.specs.declared.types.Type.{«Type», Variant, CommonTypeRef}
use Rattle.schema_json.specs.declared.types.TypeVariant.TheVariants as variant
use Rattle.schema_resolve_targets.specs.Meanings.{means}
use Rattle.schema_resolve.specs.References.{either_way}
use Rattle.schema_resolve.specs.Resolved.{meant_name, resolving_in}
use Rattle.schema_resolve_targets.specs.Targets.{is_defined, target}

-- x is among them and passes, and none before it does
pub record IsFirst {A : Type 0} (passes : A → Bool) (xs : List A) (x : A) : Type 0 where
  pub before : List A
  pub behind : List A
  pub among : xs ≡ before ++ x ∷ behind
  pub here : passes x ≡ true
  pub none_before : list_any passes before ≡ false

-- the name is the first candidate that is defined in the kind that is asked for
abbrev pub IsTarget : Tests → ConditionalName → InternalName → Type 0
IsTarget t c = IsFirst (λ p. is_defined t c.reference_type (components_of p)) c.possibilities

-- what is found is the first candidate that is defined
abbrev pub TargetIsFirst : Tests → ConditionalName → Type 0
TargetIsFirst t c = (name : InternalName) → (target t c ≡ Some name) ↔ IsTarget t c name

-- a name has at most one target
abbrev pub TargetIsOne : Tests → ConditionalName → Type 0
TargetIsOne t c = (a b : InternalName) → IsTarget t c a → IsTarget t c b → a ≡ b

-- a reference to the name as a type of a kind
abbrev pub reference_as : ReferenceType → InternalName → Option Loc → «Type» InternalName
reference_as Common name loc = CommonTypeRef name loc
reference_as Entity name loc = Variant (variant.Entity name) loc
reference_as CommonOrEntity name loc = either_way name loc

-- a resolved name is that of what is meant, and a reference that may mean either kind becomes one to what is meant
pub record ResolvesAsItMeans (t : Tests) (ns : Option InternalName) (kind : ReferenceType) (name : RawName)
    (meant : InternalName × ReferenceType) : Type 0 where
  pub name_is : meant_name t ns kind name ≡ meant.0
  pub reference_is : kind ≡ CommonOrEntity → (loc : Option Loc)
      → (resolving_in t ns).either name loc ≡ reference_as meant.1 meant.0 loc

-- a reference is resolved to what it means, where it means something
abbrev pub ResolvesWhatIsMeant : Tests → Option InternalName → ReferenceType → RawName → Type 0
ResolvesWhatIsMeant t ns kind name = (meant : InternalName × ReferenceType) → means t ns kind name ≡ Some meant
    → ResolvesAsItMeans t ns kind name meant
