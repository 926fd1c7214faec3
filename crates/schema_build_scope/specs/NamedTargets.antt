-- What the names of types stand for that references mean.
use Rattle.std.specs.Prelude.{◌≡◌, ℕ, List, Option, Some, None}
use Rattle.cedar_identifiers.specs.declared.internal_name.InternalName.{InternalName}
use Rattle.cedar_identifiers.specs.declared.name.Name.{Name}
use Rattle.cedar_identifiers.specs.declared.raw_name.RawName.{RawName}
use Rattle.cedar_names.specs.Meaning.{PlainType}
use Rattle.schema_build_types.specs.Standing.{IsBuilt}
use Rattle.schema_build_expand.specs.Scope.{Scope, IsRanked, IsUndeclared, builtin}
use Rattle.schema_build_expand.specs.declared.meanings.Target.{Target}
use Rattle.schema_build_expand.specs.declared.meanings.Target.TheVariants as target

-- a declared common type of this rank has the name, or no declared common type has it
abbrev pub IsRankOfName : Scope RawName → List (List ℕ) → Option ℕ → Type 0
IsRankOfName s name None = IsUndeclared s name
IsRankOfName s name (Some k) = IsRanked s name k

-- what the name of a common type stands for: the declared common type of this rank, or a builtin type
abbrev pub IsCommonTarget : Scope RawName → List (List ℕ) → Target → Type 0
IsCommonTarget s name (target.Entity e) = ⊥
IsCommonTarget s name (target.Common k) = IsRanked s name k
IsCommonTarget s name (target.Builtin t) = IsUndeclared s name
    × ((p : PlainType) × (builtin s name ≡ Some p) × IsBuilt p t)

-- the entity type of this name
abbrev pub IsEntityTarget : InternalName → Target → Type 0
IsEntityTarget name t = (e : Name) × (t ≡ target.Entity e) × (e.name ≡ name)
