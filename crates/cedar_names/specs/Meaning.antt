-- What a schema means. A name is the texts of its components, and an action is its type with its id.
use Rattle.std.specs.Prelude.{ℕ, List, Option}
use Rattle.std.specs.Prelude as std

mutual
  -- a type, with every common type replaced by what it stands for
  pub data PlainType : Type 0 where
    Bool : PlainType
    Long : PlainType
    String : PlainType
    Set : PlainType → PlainType
    Rec : Attributes → PlainType
    Entity : List (List ℕ) → PlainType
    Ext : List ℕ → PlainType

  -- attributes by name: the name, whether it is required, the type, and those behind it
  pub data Attributes : Type 0 where
    no_more : Attributes
    attribute : List ℕ → std.Bool → PlainType → Attributes → Attributes

-- an entity type: its ancestors rise, and the choices of an enum stand as they were written
pub record EntityMeaning : Type 0 where
  pub name : List (List ℕ)
  pub is_external : std.Bool
  pub ancestors : List (List (List ℕ))
  pub attributes : Attributes
  pub tags : Option PlainType
  pub choices : Option (List (List ℕ))

-- an action: its ancestors rise, and so do its principals and its resources
pub record ActionMeaning : Type 0 where
  pub ty : List (List ℕ)
  pub id : List ℕ
  pub is_external : std.Bool
  pub ancestors : List (List (List ℕ) × List ℕ)
  pub principals : List (List (List ℕ))
  pub resources : List (List (List ℕ))
  pub context : Attributes

-- the entity types by name, and the actions by type and id
pub record SchemaMeaning : Type 0 where
  pub entities : List EntityMeaning
  pub actions : List ActionMeaning
