-- The three forms of tokens: words, marks and strings. A text is its list of bytes.
use Rattle.std.specs.Prelude.{◌≡◌, ◌≢◌, ℕ, true, ◌&&◌, ◌⊎◌, List, [], ◌∷◌, ◌++◌, Option, Some, None, if◌then◌else◌}
use Rattle.std.specs.Prelude.{◌==◌, codes, ◌<◌, length, take, slice_index}
use Rattle.std.specs.List.{AllPass}
use Rattle.std.specs.Str.{bytes_eq}
use Rattle.cedar_data.specs.Words.{is_word_start, is_word_part}
use Rattle.schema_syntax_grammar.specs.declared.token_kind.TokenKind.{TokenKind}
use Rattle.schema_syntax_grammar.specs.declared.token_kind.TokenKind.TheVariants.{KwNamespace, KwEntity, KwExternal}
use Rattle.schema_syntax_grammar.specs.declared.token_kind.TokenKind.TheVariants.{KwIn, KwType, KwSet, KwAppliesTo}
use Rattle.schema_syntax_grammar.specs.declared.token_kind.TokenKind.TheVariants.{KwPrincipal, KwAction, KwResource}
use Rattle.schema_syntax_grammar.specs.declared.token_kind.TokenKind.TheVariants.{KwContext, KwTags, KwEnum, Identifier}
use Rattle.schema_syntax_grammar.specs.declared.token_kind.TokenKind.TheVariants.{StringLit, At, Comma, Semi, Colon}
use Rattle.schema_syntax_grammar.specs.declared.token_kind.TokenKind.TheVariants.{PathSep, LParen, RParen, LBrace}
use Rattle.schema_syntax_grammar.specs.declared.token_kind.TokenKind.TheVariants.{RBrace, LBracket, RBracket, Less}
use Rattle.schema_syntax_grammar.specs.declared.token_kind.TokenKind.TheVariants.{Greater, Question, Equals}

-- `[_a-zA-Z][_a-zA-Z0-9]*`
abbrev pub IsWord : List ℕ → Type 0
IsWord [] = ⊥
IsWord (b ∷ bs) = (is_word_start b ≡ true) × AllPass is_word_part bs

-- the kind of a word: a keyword has its own, and any other is an identifier
abbrev pub word_kind : List ℕ → TokenKind
word_kind w =
    if bytes_eq w (codes "namespace") then KwNamespace
    else (if bytes_eq w (codes "entity") then KwEntity
    else (if bytes_eq w (codes "external") then KwExternal
    else (if bytes_eq w (codes "in") then KwIn
    else (if bytes_eq w (codes "type") then KwType
    else (if bytes_eq w (codes "Set") then KwSet
    else (if bytes_eq w (codes "appliesTo") then KwAppliesTo
    else (if bytes_eq w (codes "principal") then KwPrincipal
    else (if bytes_eq w (codes "action") then KwAction
    else (if bytes_eq w (codes "resource") then KwResource
    else (if bytes_eq w (codes "context") then KwContext
    else (if bytes_eq w (codes "tags") then KwTags
    else (if bytes_eq w (codes "enum") then KwEnum
    else Identifier))))))))))))

-- the marks of one byte: `@ , ; : ( ) { } [ ] < > ? =`
abbrev pub single_mark : ℕ → Option TokenKind
single_mark b =
    if b == 64 then Some At
    else (if b == 44 then Some Comma
    else (if b == 59 then Some Semi
    else (if b == 58 then Some Colon
    else (if b == 40 then Some LParen
    else (if b == 41 then Some RParen
    else (if b == 123 then Some LBrace
    else (if b == 125 then Some RBrace
    else (if b == 91 then Some LBracket
    else (if b == 93 then Some RBracket
    else (if b == 60 then Some Less
    else (if b == 62 then Some Greater
    else (if b == 63 then Some Question
    else (if b == 61 then Some Equals
    else None)))))))))))))

-- a mark: one of those, or `::`
abbrev pub mark_kind : List ℕ → Option TokenKind
mark_kind [] = None
mark_kind (b ∷ []) = single_mark b
mark_kind (b ∷ c ∷ []) = if b == 58 && c == 58 then Some PathSep else None
mark_kind (b ∷ c ∷ d ∷ bs) = None

-- neither `"` nor `\`
abbrev pub IsPlainByte : ℕ → Type 0
IsPlainByte b = (b ≢ 34) × (b ≢ 92)

-- pieces: a plain one, or `\` and one other than LF
abbrev pub IsBody : List ℕ → Type 0
IsBody [] = Unit {0}
IsBody (b ∷ []) = IsPlainByte b
IsBody (b ∷ c ∷ bs) = (IsPlainByte b × IsBody (c ∷ bs)) ⊎ ((b ≡ 92) × (c ≢ 10) × IsBody bs)

-- these bytes begin with no body and a quote
abbrev pub NoBody : List ℕ → Type 0
NoBody rest = (body after : List ℕ) → IsBody body → rest ≡ body ++ 34 ∷ after → ⊥

-- the first n bytes are a body, and then a quote comes
pub record IsBodyEnd (rest : List ℕ) (n : ℕ) : Type 0 where
  pub in_range : n < length rest
  pub body : IsBody (take n rest)
  pub quote : slice_index rest n ≡ 34

-- `"`, pieces, `"`
abbrev pub IsString : List ℕ → Type 0
IsString w = (body : List ℕ) × IsBody body × (w ≡ 34 ∷ (body ++ 34 ∷ []))

-- the text is a token of this kind: a word, a mark or a string
abbrev pub IsForm : List ℕ → TokenKind → Type 0
IsForm w k = (IsWord w × (k ≡ word_kind w)) ⊎ ((mark_kind w ≡ Some k) ⊎ (IsString w × (k ≡ StringLit)))
