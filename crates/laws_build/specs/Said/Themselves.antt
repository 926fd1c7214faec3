-- Where the names in a type of a meaning mean themselves.
use Rattle.std.specs.Prelude.{◌≡◌, ℕ, List, [], ◌∷◌, codes, Option, Some}
use Rattle.cedar_identifiers.specs.Names.{components_of}
use Rattle.cedar_identifiers.specs.declared.internal_name.InternalName.{InternalName}
use Rattle.cedar_identifiers.specs.declared.raw_name.RawName.{RawName}
use Rattle.cedar_identifiers.specs.declared.reference_type.ReferenceType.TheVariants.{Common, Entity, CommonOrEntity}
use Rattle.cedar_names.specs.Meaning.{PlainType, Attributes}
use Rattle.cedar_names.specs.Meaning as m
use Rattle.schema_build_expand.specs.Scope.{Scope, IsUndeclared, builtin}

module _ (s : Scope RawName) (ns : Option InternalName) where
  -- the name of an entity type, wherever it stands, means this entity type
  abbrev pub MeansEntity : List (List ℕ) → Type 0
  MeansEntity target = (n : RawName) → components_of n.name ≡ target
      → s.means ns CommonOrEntity n ≡ Some (target, Entity)

  -- a builtin name behind `__cedar`, wherever it stands, means itself, and nothing declares it
  abbrev pub MeansBuiltin : List ℕ → Type 0
  MeansBuiltin word =
      ((n : RawName) → components_of n.name ≡ codes "__cedar" ∷ word ∷ []
      → s.means ns CommonOrEntity n ≡ Some (codes "__cedar" ∷ word ∷ [], Common))
      × IsUndeclared s (codes "__cedar" ∷ word ∷ [])

  abbrev mutual
    -- each name in the type means itself, and its extension types are in the table
    pub MeansItself : PlainType → Type 0
    MeansItself PlainType.Bool = MeansBuiltin (codes "Bool")
    MeansItself PlainType.Long = MeansBuiltin (codes "Long")
    MeansItself PlainType.String = MeansBuiltin (codes "String")
    MeansItself (PlainType.Set t) = MeansItself t
    MeansItself (PlainType.Rec xs) = MeanThemselves xs
    MeansItself (PlainType.Entity name) = MeansEntity name
    MeansItself (PlainType.Ext name) =
        MeansBuiltin name × (builtin s (codes "__cedar" ∷ name ∷ []) ≡ Some (PlainType.Ext name))

    pub MeanThemselves : Attributes → Type 0
    MeanThemselves m.no_more = Unit {0}
    MeanThemselves (m.attribute n r t xs) = MeansItself t × MeanThemselves xs
