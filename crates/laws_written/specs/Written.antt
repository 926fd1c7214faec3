-- What a schema says in words, whatever its places are.
use Rattle.std.specs.Prelude.{ℕ, Bool, List, Option}
use Rattle.schema_syntax_tree.specs.declared.pr.PR.{PR}
use Rattle.schema_syntax_reader.specs.Leaves.{Notes}

mutual
  -- a type: a name, a set, or a record with its attributes
  pub data WrittenType : Type 0 where
    -- the components of a name
    path : List (List ℕ) → WrittenType
    set : WrittenType → WrittenType
    rec : WrittenAttributes → WrittenType

  -- attributes in the order of the text: the notes, the name, whether it is required, the type, and those behind it
  pub data WrittenAttributes : Type 0 where
    no_more : WrittenAttributes
    attribute : Notes → List ℕ → Bool → WrittenType → WrittenAttributes → WrittenAttributes

-- an action, by its id, and by the name of its type where that is written
pub record WrittenRef : Type 0 where
  pub ty : Option (List (List ℕ))
  pub id : List ℕ

-- what an action applies to
pub data WrittenMember : Type 0 where
  types : PR → List (List (List ℕ)) → WrittenMember
  context_path : List (List ℕ) → WrittenMember
  context_record : WrittenAttributes → WrittenMember

pub data WrittenDecl : Type 0 where
  -- names, parents, attributes and tags
  entity : List (List ℕ) → List (List (List ℕ)) → WrittenAttributes → Option WrittenType → WrittenDecl
  -- names and choices
  enum : List (List ℕ) → List (List ℕ) → WrittenDecl
  external_entity : List (List ℕ) → List (List (List ℕ)) → WrittenDecl
  action : List (List ℕ) → List WrittenRef → Option (List WrittenMember) → WrittenDecl
  external_action : List (List ℕ) → List WrittenRef → WrittenDecl
  common : List ℕ → WrittenType → WrittenDecl

-- a declaration with its notes
pub record WrittenDeclared : Type 0 where
  pub notes : Notes
  pub decl : WrittenDecl

-- a namespace with its declarations, or a declaration outside of one
pub data WrittenItem : Type 0 where
  namespace : Notes → List (List ℕ) → List WrittenDeclared → WrittenItem
  outside : WrittenDeclared → WrittenItem
