-- How what is written is laid out. The layout says whether a comma stands behind the last member of a record.
use Rattle.std.specs.Prelude.{◌≡◌, ℕ, ◌+◌, Bool, true, false, List, [], ◌∷◌, ◌++◌, codes, if◌then◌else◌, Option, Some}
use Rattle.std.specs.Prelude.{None, map}
use Rattle.std.specs.List.Sorted.{IsStrictlySortedBy}
use Rattle.cedar_data.specs.Text.{text_cmp}
use Rattle.schema_syntax_reader.specs.Leaves.{Notes}
use Rattle.cedar_identifiers.specs.Words.{is_id}
use Rattle.schema_syntax_grammar.specs.declared.token_kind.TokenKind.{TokenKind}
use Rattle.schema_syntax_grammar.specs.declared.token_kind.TokenKind.TheVariants.{StringLit, At, LParen, RParen, Comma}
use Rattle.schema_syntax_grammar.specs.declared.token_kind.TokenKind.TheVariants.{Colon, PathSep, LBrace, RBrace, Less}
use Rattle.schema_syntax_grammar.specs.declared.token_kind.TokenKind.TheVariants.{Greater, Question}
use Rattle.schema_syntax_tokens.specs.Forms.{word_kind}
use Rattle.schema_syntax_tokens.specs.Quotes.{quoted}
use Rattle.schema_syntax_tokens.specs.Laid.{Lexeme, Piece, gap, lexeme}
use Rattle.cedar_names.specs.CanonicalText.{spaces}
use Rattle.laws_written.specs.Written.{WrittenType, WrittenAttributes, path, set, rec, no_more, attribute}

abbrev pub word : List ℕ → Piece
word w = lexeme (record { kind = word_kind w; text = w })

abbrev pub mark : TokenKind → List ℕ → Piece
mark k text = lexeme (record { kind = k; text = text })

abbrev pub string : List ℕ → Piece
string value = lexeme (record { kind = StringLit; text = quoted value })

abbrev pub space : Piece
space = gap (codes " ")

abbrev pub line_break : Piece
line_break = gap (codes "\n")

-- bare where it may be, and else a string
abbrev pub name_lexeme : List ℕ → Lexeme
name_lexeme n = if is_id n then record { kind = word_kind n; text = n } else record
    { kind = StringLit; text = quoted n }

-- a name as a piece: a word where it may be one, and else a string
abbrev pub name_piece : List ℕ → Piece
name_piece n = lexeme (name_lexeme n)

-- `("value")` where there is one
abbrev pub value_pieces : Option (List ℕ) → List Piece
value_pieces None = []
value_pieces (Some value) = mark LParen (codes "(") ∷ string value ∷ mark RParen (codes ")") ∷ []

-- each of the notes on a line of its own
abbrev pub notes_pieces : ℕ → Notes → List Piece
notes_pieces base [] = []
notes_pieces base (n ∷ ns) = gap (spaces base) ∷ mark At (codes "@") ∷ word n.0.text
    ∷ (value_pieces n.1 ++ line_break ∷ notes_pieces base ns)

-- the words of a path, with `::` between two
abbrev pub path_pieces : List (List ℕ) → List Piece
path_pieces [] = []
path_pieces (c ∷ []) = word c ∷ []
path_pieces (c ∷ d ∷ cs) = word c ∷ mark PathSep (codes "::") ∷ path_pieces (d ∷ cs)

abbrev pub mark_pieces : Bool → List Piece
mark_pieces true = []
mark_pieces false = mark Question (codes "?") ∷ []

-- a comma where others follow, and behind the last where the layout has one
abbrev pub comma_pieces : Bool → WrittenAttributes → List Piece
comma_pieces closing (attribute ns n r t xs) = mark Comma (codes ",") ∷ []
comma_pieces true no_more = mark Comma (codes ",") ∷ []
comma_pieces false no_more = []

abbrev pub break_pieces : WrittenAttributes → List Piece
break_pieces no_more = []
break_pieces (attribute ns n r t xs) = line_break ∷ []

abbrev mutual
  -- a type laid out at an indentation
  pub type_pieces : Bool → ℕ → WrittenType → List Piece
  type_pieces closing base (path p) = path_pieces p
  type_pieces closing base (set t) =
      word (codes "Set") ∷ mark Less (codes "<") ∷ (type_pieces closing base t ++ mark Greater (codes ">") ∷ [])
  type_pieces closing base (rec xs) =
      mark LBrace (codes "{") ∷ (break_pieces xs
      ++ (lines_pieces closing base xs ++ gap (spaces base) ∷ mark RBrace (codes "}") ∷ []))

  pub lines_pieces : Bool → ℕ → WrittenAttributes → List Piece
  lines_pieces closing base no_more = []
  lines_pieces closing base (attribute ns n r t xs) =
      notes_pieces (base + 2) ns ++ gap (spaces (base + 2)) ∷ name_piece n
      ∷ (mark_pieces r ++ mark Colon (codes ":") ∷ space
      ∷ (type_pieces closing (base + 2) t ++ (comma_pieces closing xs ++ line_break ∷ lines_pieces closing base xs)))

-- names with at least one component, each of which may be one
abbrev pub IsProperPath : List (List ℕ) → Type 0
IsProperPath [] = ⊥
IsProperPath (c ∷ []) = is_id c ≡ true
IsProperPath (c ∷ d ∷ cs) = (is_id c ≡ true) × IsProperPath (d ∷ cs)

-- the keys rise
abbrev pub AreProperNotes : Notes → Type 0
AreProperNotes notes = IsStrictlySortedBy text_cmp (map (λ n. n.0.text) notes)

abbrev mutual
  -- each name in the type is one, and the annotations of its attributes rise by their keys
  pub IsProperType : WrittenType → Type 0
  IsProperType (path p) = IsProperPath p
  IsProperType (set t) = IsProperType t
  IsProperType (rec xs) = AreProperAttributes xs

  pub AreProperAttributes : WrittenAttributes → Type 0
  AreProperAttributes no_more = Unit {0}
  AreProperAttributes (attribute ns n r t xs) = AreProperNotes ns × IsProperType t × AreProperAttributes xs
