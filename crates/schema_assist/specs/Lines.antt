-- How it is written what may stand at a place: a line for each kind and each name.
use Rattle.std.specs.Prelude.{ℕ, List, ◌++◌, codes}
use Rattle.std.specs.List.{flat_map}
use Rattle.schema_syntax_errors.specs.ExpectedText.{kind_name}
use Rattle.schema_syntax_grammar.specs.declared.token_kind.TokenKind.{TokenKind}
use Rattle.schema_assist.specs.declared.assistance.Assistance.{Assistance}

-- the line of a kind
abbrev pub kind_line : TokenKind → List ℕ
kind_line kind = codes "kind " ++ (kind_name kind ++ codes "\n")

-- the line of a name
abbrev pub name_line : List ℕ → List ℕ
name_line name = codes "name " ++ (name ++ codes "\n")

-- a line for each kind that may stand, then one for each name, both in their order
abbrev pub assistance_lines : Assistance → List ℕ
assistance_lines a = flat_map kind_line a.expected.items ++ flat_map name_line a.names.items
