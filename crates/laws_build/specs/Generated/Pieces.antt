-- How a generated text is laid out.
use Rattle.std.specs.Prelude.{ℕ, ◌==◌, Bool, true, false, List, [], ◌∷◌, codes}
use Rattle.schema_syntax_grammar.specs.declared.token_kind.TokenKind.TheVariants.{Identifier, Comma, Semi, Colon}
use Rattle.schema_syntax_grammar.specs.declared.token_kind.TokenKind.TheVariants.{LBrace, RBrace, Equals}
use Rattle.schema_syntax_tokens.specs.Laid.{Piece, lexeme}
use Rattle.laws_written.specs.Printed.{word, mark, space, line_break}
use Rattle.schema_generate.specs.Generated.{entity_word, action_word, parent_of, target_of, resource_of}

-- a name that is no word of the grammar
abbrev pub name : List ℕ → Piece
name w = lexeme (record { kind = Identifier; text = w })

abbrev pub colon : Piece
colon = mark Colon (codes ":")

-- ` in E3`, for all but the first, in front of others
abbrev pub parent_before : Bool → ℕ → List Piece → List Piece
parent_before true i rest = rest
parent_before false i rest = space ∷ word (codes "in") ∷ space ∷ name (entity_word (parent_of i)) ∷ rest

-- the attributes of an entity type and the end of its line, in front of others
abbrev pub shape_before : ℕ → ℕ → List Piece → List Piece
shape_before n i rest =
    space ∷ mark Equals (codes "=") ∷ space ∷ mark LBrace (codes "{") ∷ space ∷ name (codes "a") ∷ colon ∷ space
    ∷ name (codes "Long") ∷ mark Comma (codes ",") ∷ space ∷ name (codes "b") ∷ colon ∷ space
    ∷ name (entity_word (target_of n i)) ∷ space ∷ mark RBrace (codes "}") ∷ mark Semi (codes ";") ∷ line_break ∷ rest

-- the line of an entity type, which is the first or is not, in front of others
abbrev pub entity_before : Bool → ℕ → ℕ → List Piece → List Piece
entity_before first n i rest =
    word (codes "entity") ∷ space ∷ name (entity_word i) ∷ parent_before first i (shape_before n i rest)

-- the line of an action, in front of others
abbrev pub action_before : ℕ → ℕ → List Piece → List Piece
action_before n i rest =
    word (codes "action") ∷ space ∷ name (action_word i) ∷ space ∷ word (codes "appliesTo") ∷ space
    ∷ mark LBrace (codes "{") ∷ space ∷ word (codes "principal") ∷ colon ∷ space ∷ name (entity_word i)
    ∷ mark Comma (codes ",") ∷ space ∷ word (codes "resource") ∷ colon ∷ space ∷ name (entity_word (resource_of n i))
    ∷ space ∷ mark RBrace (codes "}") ∷ mark Semi (codes ";") ∷ line_break ∷ rest

-- the lines of these numbers
abbrev pub pieces_of : ℕ → List ℕ → List Piece
pieces_of n [] = []
pieces_of n (i ∷ is) = entity_before (i == 0) n i (action_before n i (pieces_of n is))
