-- Which common types refer to which, by their names.
use Rattle.std.specs.Prelude.{◌≡◌, ℕ, List, Contains, Option, Some}
use Rattle.cedar_identifiers.specs.declared.internal_name.InternalName.{InternalName}
use Rattle.cedar_identifiers.specs.declared.reference_type.ReferenceType.{ReferenceType}
use Rattle.cedar_identifiers.specs.declared.reference_type.ReferenceType.TheVariants.{Common}
use Rattle.schema_json_walk.specs.Parts.{Part, type_reference}
use Rattle.schema_json_walk.specs.Walk.{parts}
use Rattle.schema_build_graph.specs.Paths.{Reaches}
use Rattle.schema_build_expand.specs.Scope.{Scope, DeclaredType, Declares}

module _ {N : Type 0} where
  -- some reference among the parts means the common type of this name
  abbrev pub MeansCommon : Scope N → Option InternalName → List (Part N) → List (List ℕ) → Type 0
  MeansCommon s ns ps name = (kind : ReferenceType) × (written : N) × Contains ps (type_reference kind written)
      × (s.means ns kind written ≡ Some (name, Common))

  -- the type of the one declared common type holds a reference that means the other
  abbrev pub RefersToCommon : Scope N → List (List ℕ) → List (List ℕ) → Type 0
  RefersToCommon s one other = (d e : DeclaredType N) × Declares s one d × Declares s other e
      × MeansCommon s d.place (parts d.ty) other

  -- the one declared common type reaches the other by references
  abbrev pub TypeReaches : Scope N → List (List ℕ) → List (List ℕ) → Type 0
  TypeReaches s = Reaches (RefersToCommon s)
