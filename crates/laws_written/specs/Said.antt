-- What is written, as a tree says it and as its lexemes spell it.
use Rattle.std.specs.Prelude.{List}
use Rattle.std.specs.List.{AllZip}
use Rattle.cedar_data.specs.declared.node.Node.{Node}
use Rattle.schema_syntax_tokens.specs.Laid.{Lexeme}
use Rattle.schema_syntax_tree.specs.declared.annotated.Annotated.{Annotated}
use Rattle.schema_syntax_tree.specs.declared.types.AttrDecl.{AttrDecl}
use Rattle.schema_syntax_tree.specs.declared.types.Type.{«Type»}
use Rattle.laws_written.specs.Written.{WrittenType, WrittenAttributes}
use Rattle.laws_written.specs.Spellings.{SpellsType}
use Rattle.laws_written.specs.Shows.{ShowsType, ShowsAttributes}

-- something that the type of a tree shows, and that the lexemes spell
pub record SaidType (n : «Type») (u : List Lexeme) : Type 0 where
  pub written : WrittenType
  pub spell : SpellsType u written
  pub shows : ShowsType n written

-- attributes, and how their lexemes spell them
pub record SaidAttributes (Spell : WrittenAttributes → Type 0) (ys : List (Node (Annotated AttrDecl))) : Type 0 where
  pub written : WrittenAttributes
  pub spell : Spell written
  pub shows : ShowsAttributes ys written

-- one part, and a list of parts
pub record Said {T A : Type 0} (Says : T → A → Type 0) (P : List Lexeme → A → Type 0) (n : T)
    (u : List Lexeme) : Type 0 where
  pub written : A
  pub spell : P u written
  pub says : Says n written

-- something that the tree says in each of its parts, and that the lexemes spell
pub record SaidAll {T A : Type 0} (Says : T → A → Type 0) (Spell : List A → Type 0) (ns : List T) : Type 0 where
  pub written : List A
  pub spell : Spell written
  pub says : AllZip Says ns written
