-- The declared common types as they are expanded in turn.
use Rattle.std.specs.Prelude.{◌≡◌, ◌<◌, ℕ, true, List, length, All, Contains, Option, Some, IsSome, slice_get}
use Rattle.std.specs.Prelude.{slice_index, take}
use Rattle.std.specs.Borrow.{Bor}
use Rattle.cedar_identifiers.specs.declared.internal_name.InternalName.{InternalName}
use Rattle.cedar_identifiers.specs.declared.reference_type.ReferenceType.{ReferenceType}
use Rattle.cedar_identifiers.specs.declared.reference_type.ReferenceType.TheVariants.{Common}
use Rattle.schema_json.specs.declared.types.Type.{«Type»}
use Rattle.schema_json_walk.specs.Parts.{Part, type_reference, extension_type}
use Rattle.schema_json_walk.specs.Walk.{parts}
use Rattle.schema_build_types.specs.declared.types.Type as built
use Rattle.schema_build_expand.specs.Scope.{Scope, DeclaredType, IsRanked, in_table}

-- a rank has its expansion
abbrev pub IsDone : List (Option built.«Type») → ℕ → Type 0
IsDone done k = (t : built.«Type») × (slice_get done k ≡ Some (Some t))

module _ {N R : Type 0} where
  -- the types of the declared common types by their ranks, each with what names mean where it is declared
  abbrev pub AreCommons : Scope N → (R → Scope N) → (R → Option InternalName) → List (R × Bor («Type» N)) → Type 0
  AreCommons s scope place commons = (k : ℕ) (c : R × Bor («Type» N)) → slice_get commons k ≡ Some c
      → (scope c.0 ≡ s)
      × ((d : DeclaredType N) × (slice_get s.commons k ≡ Some d) × (d.place ≡ place c.0) × (d.ty ≡ c.1.now))

module _ {N : Type 0} where
  -- the reference means something, and where that is declared it is one of those before
  abbrev pub IsReferenceBehind : Scope N → List ℕ → Option InternalName → ReferenceType → N → Type 0
  IsReferenceBehind s before ns kind name = IsSome (s.means ns kind name)
      × ((full : List (List ℕ)) (k : ℕ) → s.means ns kind name ≡ Some (full, Common) → IsRanked s full k
      → Contains before k)

  -- a part that can be expanded behind those
  abbrev pub IsBehind : Scope N → List ℕ → Option InternalName → Part N → Type 0
  IsBehind s before ns (type_reference kind name) = IsReferenceBehind s before ns kind name
  IsBehind s before ns (extension_type name) = in_table s name.id.text ≡ true
  IsBehind s before ns _ = ⊥

  -- in this order each declared common type stands behind those that its type refers to
  abbrev pub AreBehind : {R : Type 0} → Scope N → (R → Option InternalName) → List (R × Bor («Type» N)) → List ℕ
      → Type 0
  AreBehind {R} s place commons order = (i : ℕ) (c : R × Bor («Type» N)) → i < length order
      → slice_get commons (slice_index order i) ≡ Some c
      → All (IsBehind s (take i order) (place c.0)) (parts c.1.now)
