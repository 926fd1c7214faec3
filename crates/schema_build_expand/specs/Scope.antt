-- What names mean where a type is written, and what is declared.
use Rattle.std.specs.Prelude.{◌≡◌, ℕ, Bool, List, [], ◌∷◌, codes, Option, Some, None, slice_get, if◌then◌else◌}
use Rattle.std.specs.List.{list_any}
use Rattle.std.specs.Str.{bytes_eq}
use Rattle.cedar_identifiers.specs.declared.internal_name.InternalName.{InternalName}
use Rattle.cedar_identifiers.specs.declared.reference_type.ReferenceType.{ReferenceType}
use Rattle.cedar_names.specs.Meaning.{PlainType}
use Rattle.cedar_names.specs.Meaning as plain
use Rattle.schema_json.specs.declared.types.Type.{«Type»}

-- a declared common type: its full name, the namespace that it is declared in, and the type that it names
pub record DeclaredType (N : Type 0) : Type 0 where
  pub name : List (List ℕ)
  pub place : Option InternalName
  pub ty : «Type» N

-- what references mean in each namespace, the declared common types by their ranks, and the extension table
pub record Scope (N : Type 0) : Type 0 where
  -- the full name that a reference means in a namespace, and whether it is a common type or an entity type there
  pub means : Option InternalName → ReferenceType → N → Option (List (List ℕ) × ReferenceType)
  -- the declared common types by their ranks
  pub commons : List (DeclaredType N)
  -- the extension table
  pub words : List (List ℕ)

module _ {N : Type 0} where
  -- the declared common type of a rank has this name
  abbrev pub IsRanked : Scope N → List (List ℕ) → ℕ → Type 0
  IsRanked s name k = (d : DeclaredType N) × (slice_get s.commons k ≡ Some d) × (d.name ≡ name)

  -- a declaration of this name
  abbrev pub Declares : Scope N → List (List ℕ) → DeclaredType N → Type 0
  Declares s name d = (k : ℕ) × (slice_get s.commons k ≡ Some d) × (d.name ≡ name)

  abbrev pub IsUndeclared : Scope N → List (List ℕ) → Type 0
  IsUndeclared s name = (d : DeclaredType N) → Declares s name d → ⊥

  -- no two declarations have one name
  abbrev pub AreDeclaredOnce : Scope N → Type 0
  AreDeclaredOnce s = (name : List (List ℕ)) (a b : DeclaredType N) → Declares s name a → Declares s name b → a ≡ b

  abbrev pub in_table : Scope N → List ℕ → Bool
  in_table s word = list_any (bytes_eq word) s.words

  abbrev builtin_word : Scope N → List ℕ → Option PlainType
  builtin_word s word =
      if bytes_eq word (codes "Bool") then Some plain.Bool
      else (if bytes_eq word (codes "Long") then Some plain.Long
      else (if bytes_eq word (codes "String") then Some plain.String
      else (if in_table s word then Some (plain.Ext word) else None)))

  -- what a builtin name stands for, with `__cedar` in front or without it
  abbrev pub builtin : Scope N → List (List ℕ) → Option PlainType
  builtin s [] = None
  builtin s (word ∷ []) = builtin_word s word
  builtin s (first ∷ word ∷ []) = if bytes_eq first (codes "__cedar") then builtin_word s word else None
  builtin s (first ∷ word ∷ third ∷ more) = None
