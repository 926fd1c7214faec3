-- The names of kinds in a row, one more at a time.
use Rattle.std.proofs.Common.{◌≡◌, ℕ, true, List, ◌∷◌, ◌++◌, map, codes, refl, sym, ap, ◌∙◌}
use Rattle.std.specs.List.{list_all}
use Rattle.std.specs.Char.{is_ascii}
use Rattle.std.specs.Str.{chars}
use Rattle.cedar_data.proofs.Listing.{row_more, separator_of}
use Rattle.schema_syntax_grammar.specs.declared.token_kind.TokenKind.{TokenKind}
use Rattle.schema_syntax_grammar.specs.declared.token_kind.TokenKind.TheVariants.{KwNamespace, KwEntity, KwExternal}
use Rattle.schema_syntax_grammar.specs.declared.token_kind.TokenKind.TheVariants.{KwIn, KwType, KwSet, KwAppliesTo}
use Rattle.schema_syntax_grammar.specs.declared.token_kind.TokenKind.TheVariants.{KwPrincipal, KwAction, KwResource}
use Rattle.schema_syntax_grammar.specs.declared.token_kind.TokenKind.TheVariants.{KwContext, KwTags, KwEnum, Identifier}
use Rattle.schema_syntax_grammar.specs.declared.token_kind.TokenKind.TheVariants.{StringLit, At, Comma, Semi, Colon}
use Rattle.schema_syntax_grammar.specs.declared.token_kind.TokenKind.TheVariants.{PathSep, LParen, RParen, LBrace}
use Rattle.schema_syntax_grammar.specs.declared.token_kind.TokenKind.TheVariants.{RBrace, LBracket, RBracket, Less}
use Rattle.schema_syntax_grammar.specs.declared.token_kind.TokenKind.TheVariants.{Greater, Question, Equals, End}
use Rattle.schema_syntax_errors.specs.ExpectedText.{kind_name}
use Rattle.cedar_data.specs.Rows.{listed, separator}
use Rattle.cedar_data.proofs.Ascii.{chars-from_test}

name_ascii : (k : TokenKind) → list_all is_ascii (kind_name k) ≡ true
name_ascii KwNamespace = refl
name_ascii KwEntity = refl
name_ascii KwExternal = refl
name_ascii KwIn = refl
name_ascii KwType = refl
name_ascii KwSet = refl
name_ascii KwAppliesTo = refl
name_ascii KwPrincipal = refl
name_ascii KwAction = refl
name_ascii KwResource = refl
name_ascii KwContext = refl
name_ascii KwTags = refl
name_ascii KwEnum = refl
name_ascii Identifier = refl
name_ascii StringLit = refl
name_ascii At = refl
name_ascii Comma = refl
name_ascii Semi = refl
name_ascii Colon = refl
name_ascii PathSep = refl
name_ascii LParen = refl
name_ascii RParen = refl
name_ascii LBrace = refl
name_ascii RBrace = refl
name_ascii LBracket = refl
name_ascii RBracket = refl
name_ascii Less = refl
name_ascii Greater = refl
name_ascii Question = refl
name_ascii Equals = refl
name_ascii End = refl

pub names_more : (k : TokenKind) (ks : List TokenKind) (text : List ℕ)
    → ((text ++ chars (kind_name k)) ++ chars (separator (codes ", ") (codes " or ") ks))
    ++ listed (codes ", ") (codes " or ") (map kind_name ks)
    ≡ text ++ listed (codes ", ") (codes " or ") (map kind_name (k ∷ ks))
names_more k ks text =
    ap (λ n. ((text ++ n) ++ chars (separator (codes ", ") (codes " or ") ks))
    ++ listed (codes ", ") (codes " or ") (map kind_name ks)) (chars-from_test (kind_name k) (name_ascii k))
    ∙ ap (λ s. ((text ++ kind_name k) ++ chars s) ++ listed (codes ", ") (codes " or ") (map kind_name ks))
    (sym (separator_of (codes ", ") (codes " or ") kind_name ks))
    ∙ row_more (codes ", ") (codes " or ") (kind_name k) (map kind_name ks) text refl refl
