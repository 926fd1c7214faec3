-- What the types of a schema keep, and what is lost from one schema to another.
use Rattle.std.specs.Prelude.{Bool, Option, MatchOption, IsTrue, ⊤}
use Rattle.cedar_names.specs.Meaning.{PlainType, Attributes, no_more, attribute}
use Rattle.schema_inclusion_values.specs.Values.{Text, Name, Val, below, Has}
use Rattle.schema_inclusion_values.specs.Checks.{lost_value}

-- the name is less than those of all the attributes
abbrev pub AboveFields : Text → Attributes → Type 0
AboveFields n no_more = ⊤
AboveFields n (attribute m r t fs) = below n m × AboveFields n fs

-- names rise
abbrev mutual
  pub Distinct : PlainType → Type 0
  Distinct PlainType.Bool = ⊤
  Distinct PlainType.Long = ⊤
  Distinct PlainType.String = ⊤
  Distinct (PlainType.Ext n) = ⊤
  Distinct (PlainType.Entity n) = ⊤
  Distinct (PlainType.Set t) = Distinct t
  Distinct (PlainType.Rec fs) = DistinctFields fs

  pub DistinctFields : Attributes → Type 0
  DistinctFields no_more = ⊤
  DistinctFields (attribute n r t fs) = Distinct t × AboveFields n fs × DistinctFields fs

-- names rise, and each entity type has the id
module _ (Fits : Name → Text → Type 0) (id_of : Name → Text) where
  abbrev mutual
    pub Formed : PlainType → Type 0
    Formed PlainType.Bool = ⊤
    Formed PlainType.Long = ⊤
    Formed PlainType.String = ⊤
    Formed (PlainType.Ext n) = ⊤
    Formed (PlainType.Entity n) = Fits n (id_of n)
    Formed (PlainType.Set t) = Formed t
    Formed (PlainType.Rec fs) = FormedFields fs

    pub FormedFields : Attributes → Type 0
    FormedFields no_more = ⊤
    FormedFields (attribute n r t fs) = Formed t × AboveFields n fs × FormedFields fs

-- ---- the check between two schemas, whose entity types have ids by two tests

-- the test says that the type has the id
abbrev pub Told : (Name → Text → Bool) → Name → Text → Type 0
Told fits n id = IsTrue (fits n id)

-- an id that the old schema has and the new one has not, for each entity type that has one
abbrev pub TellsLost : (Name → Text → Bool) → (Name → Text → Bool) → (Name → Option Text) → Type 0
TellsLost old new lost = (n : Name) → MatchOption (lost n) ((id : Text) → Told old n id → Told new n id)
    (λ id. Told old n id × (Told new n id → ⊥))

-- each value of t is one of u
abbrev pub Includes : (Name → Text → Bool) → (Name → Text → Bool) → PlainType → PlainType → Type 0
Includes old new t u = (v : Val) → Has (Told old) t v → Has (Told new) u v

-- v is a value of t and none of u
abbrev pub Refutes : (Name → Text → Bool) → (Name → Text → Bool) → PlainType → PlainType → Val → Type 0
Refutes old new t u v = Has (Told old) t v × (Has (Told new) u v → ⊥)

-- what the check finds, if anything, refutes it
abbrev pub IsExact : (Name → Text → Bool) → (Name → Text → Bool) → (Name → Text) → (Name → Option Text) → PlainType
    → PlainType → Type 0
IsExact old new id_of lost t u = MatchOption (lost_value id_of lost t u) (Includes old new t u) (Refutes old new t u)
