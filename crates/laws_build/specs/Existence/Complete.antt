-- Scopes in which each reference has a target, and no common type reaches itself.
use Rattle.std.specs.Prelude.{◌≡◌, ◌⊎◌, ℕ, List, Contains, All, Option, Some, IsSome, slice_get}
use Rattle.cedar_identifiers.specs.declared.internal_name.InternalName.{InternalName}
use Rattle.cedar_identifiers.specs.declared.reference_type.ReferenceType.{ReferenceType}
use Rattle.cedar_identifiers.specs.declared.reference_type.ReferenceType.TheVariants.{Common, Entity}
use Rattle.cedar_names.specs.Meaning.{PlainType}
use Rattle.schema_json.specs.declared.types.Type.{«Type»}
use Rattle.schema_json_walk.specs.Parts.{Part, type_reference}
use Rattle.schema_json_walk.specs.Walk.{parts}
use Rattle.schema_build_graph.specs.Paths.{Reaches}
use Rattle.schema_build_expand.specs.Scope.{Scope, DeclaredType, Declares, IsUndeclared, builtin}
use Rattle.schema_build_expand.specs.Expands.{Expands}
use Rattle.schema_build_expand.specs.Rows.{IsMeant}

module _ {N : Type 0} where
  -- some reference among the parts means the common type of this name
  abbrev pub Means : Scope N → Option InternalName → List (Part N) → List (List ℕ) → Type 0
  Means s ns ps name = (kind : ReferenceType) × (written : N) × Contains ps (type_reference kind written)
      × (s.means ns kind written ≡ Some (name, Common))

  -- the type of the one declared common type holds a reference that means the other
  abbrev pub Refers : Scope N → List (List ℕ) → List (List ℕ) → Type 0
  Refers s one other = (d e : DeclaredType N) × Declares s one d × Declares s other e
      × Means s d.place (parts d.ty) other

  -- what is meant is a common type or an entity type; a common type that is not declared is builtin; each part of each
  -- declared common type is meant; and no common type reaches itself
  pub record IsComplete (s : Scope N) : Type 0 where
    pub kinds : (ns : Option InternalName) (kind : ReferenceType) (name : N) (full : List (List ℕ)) (k : ReferenceType)
        → s.means ns kind name ≡ Some (full, k) → (k ≡ Common) ⊎ (k ≡ Entity)
    pub builtins : (ns : Option InternalName) (kind : ReferenceType) (name : N) (full : List (List ℕ))
        → s.means ns kind name ≡ Some (full, Common) → IsUndeclared s full → IsSome (builtin s full)
    pub meant : (k : ℕ) (d : DeclaredType N) → slice_get s.commons k ≡ Some d → All (IsMeant s d.place) (parts d.ty)
    pub no_round : (name : List (List ℕ)) → Reaches (Refers s) name name → ⊥

  -- each type whose parts are meant stands for a type of a meaning
  abbrev pub AllExpand : Scope N → Type 0
  AllExpand s = (ns : Option InternalName) (t : «Type» N) → All (IsMeant s ns) (parts t)
      → (p : PlainType) × Expands N s ns t p
