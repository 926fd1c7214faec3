-- How pieces are laid out: between two of them stands a gap.
use Rattle.std.specs.Prelude.{ℕ, zero, suc, ◌-◌, Bool, true, false, not, ◌&&◌, ◌||◌, List, [], ◌∷◌, ◌++◌, drop}
use Rattle.std.specs.Prelude.{if◌then◌else◌}
use Rattle.schema_syntax_grammar.specs.declared.token_kind.TokenKind.{TokenKind}
use Rattle.schema_syntax_grammar.specs.declared.token_kind.TokenKind.TheVariants.{KwNamespace, KwTags, At, Comma, Semi}
use Rattle.schema_syntax_grammar.specs.declared.token_kind.TokenKind.TheVariants.{Colon, PathSep, LParen, RParen}
use Rattle.schema_syntax_grammar.specs.declared.token_kind.TokenKind.TheVariants.{LBrace, RBrace, LBracket, RBracket}
use Rattle.schema_syntax_grammar.specs.declared.token_kind.TokenKind.TheVariants.{Less, Greater, Question, End}
use Rattle.schema_syntax_grammar.specs.Grammar.{is_word_kind, same_kind}
use Rattle.schema_layout_pieces.specs.declared.context.Bracket.{Bracket}
use Rattle.schema_layout_pieces.specs.declared.context.Bracket.TheVariants.{Scope, Brace, Other}
use Rattle.schema_layout_pieces.specs.declared.context.Gap.{Gap}
use Rattle.schema_layout_pieces.specs.declared.context.Gap.TheVariants.{NoGap, Space, NewLine}
use Rattle.schema_layout_pieces.specs.declared.context.Last.{Last}
use Rattle.schema_layout_pieces.specs.declared.context.Last.TheVariants.{Nothing, Comment, Token}
use Rattle.schema_layout_pieces.specs.Pieces.{SourcePiece, token, comment, spelling}

-- What stands in front of a piece: the last piece; the kind of the last token, `End` where there is none; whether that
-- token is the word after `@`; whether it ends the head of a namespace, which is `namespace` and a path; and the open
-- brackets, the innermost first.
pub record Before : Type 0 where
  pub last : Last
  pub kind : TokenKind
  pub annotates : Bool
  pub heads : Bool
  pub brackets : List Bracket

-- at the beginning of a text
abbrev pub beginning : Before
beginning = record { last = Nothing; kind = End; annotates = false; heads = false; brackets = [] }

-- An item may begin there: first of all, or behind `;`, `}`, `)` or the word after `@`.
abbrev pub begins_item : Before → Bool
begins_item f =
    f.annotates || (same_kind f.kind End || (same_kind f.kind Semi
    || (same_kind f.kind RBrace || same_kind f.kind RParen)))

-- a token of this kind is `namespace` where an item begins, or goes on with the path behind it
abbrev pub is_head : Before → TokenKind → Bool
is_head f k = (same_kind k KwNamespace && begins_item f) || (f.heads && (is_word_kind k || same_kind k PathSep))

-- one of `[ ( <`
abbrev pub opens : TokenKind → Bool
opens k = same_kind k LBracket || (same_kind k LParen || same_kind k Less)

-- one of `} ] ) >`
abbrev pub closes : TokenKind → Bool
closes k = same_kind k RBrace || (same_kind k RBracket || (same_kind k RParen || same_kind k Greater))

-- the brackets that are open behind a token of this kind
abbrev pub brackets_past : Before → TokenKind → List Bracket
brackets_past f k =
    if same_kind k LBrace then (if f.heads then Scope else Brace) ∷ f.brackets
    else (if opens k then Other ∷ f.brackets else (if closes k then drop 1 f.brackets else f.brackets))

-- what stands in front of the next piece, behind a token of this kind
abbrev pub past_token : Before → TokenKind → Before
past_token f k =
    record {
      last = Token;
      kind = k;
      annotates = same_kind f.kind At;
      heads = is_head f k;
      brackets = brackets_past f k;
    }

-- what stands in front of the next piece, behind a comment
abbrev pub past_comment : Before → Before
past_comment f =
    record { last = Comment; kind = f.kind; annotates = f.annotates; heads = f.heads; brackets = f.brackets }

-- what stands in front of the piece behind this one
abbrev pub past : Before → SourcePiece → Before
past f (token x) = past_token f x.kind
past f (comment beside line) = past_comment f

-- one of `, ; : ) ] > ? :: ( <`
abbrev pub clings : TokenKind → Bool
clings k =
    same_kind k Comma || (same_kind k Semi || (same_kind k Colon || (same_kind k RParen || (same_kind k RBracket
    || (same_kind k Greater || (same_kind k Question || (same_kind k PathSep || (same_kind k LParen
    || same_kind k Less))))))))

-- one of `( [ < @ ::`
abbrev pub holds : TokenKind → Bool
holds k =
    same_kind k LParen || (same_kind k LBracket || (same_kind k Less || (same_kind k At || same_kind k PathSep)))

-- the innermost open bracket is a `{` that does not open a namespace
abbrev pub in_braces : List Bracket → Bool
in_braces (Brace ∷ outer) = true
in_braces _ = false

-- A new line stands between two tokens behind `{`, `;`, `)` and an annotation without a value, and before `}`.
abbrev pub breaks : Before → TokenKind → Bool
breaks f b =
    (same_kind f.kind LBrace || (same_kind f.kind Semi || same_kind b RBrace))
    || (same_kind f.kind RParen || (f.annotates && not (same_kind b LParen)))

-- A new line stands between two tokens that do not touch behind a `,` in braces, and behind `}`, but not before `tags`.
abbrev pub separates : Before → TokenKind → Bool
separates f b =
    (same_kind f.kind Comma && in_braces f.brackets) || (same_kind f.kind RBrace && not (same_kind b KwTags))

-- between two tokens, by the first rule that holds
abbrev pub between : Before → TokenKind → Gap
between f b =
    if same_kind f.kind LBrace && same_kind b RBrace then NoGap
    else (if breaks f b then NewLine
    else (if clings b || holds f.kind then NoGap
    else (if separates f b then NewLine
    else Space)))

-- Before a token stands no gap where no piece is in front, and a new line behind a comment.
abbrev pub gap_to_token : Last → Before → TokenKind → Gap
gap_to_token Nothing f k = NoGap
gap_to_token Comment f k = NewLine
gap_to_token Token f k = between f k

-- Before a comment stands a space where it is beside a token, and a new line otherwise.
abbrev pub gap_to_comment : Last → Bool → Gap
gap_to_comment Nothing beside = NoGap
gap_to_comment Comment beside = NewLine
gap_to_comment Token beside = if beside then Space else NewLine

-- the gap before a piece
abbrev pub gap : Before → SourcePiece → Gap
gap f (token x) = gap_to_token f.last f x.kind
gap f (comment beside line) = gap_to_comment f.last beside

-- how many `{` are open
abbrev pub depth : List Bracket → ℕ
depth [] = 0
depth (Other ∷ outer) = depth outer
depth (_ ∷ outer) = suc (depth outer)

-- at how many `{` a token of this kind stands on a line of its own: one fewer for `}`
abbrev pub depth_at : Before → TokenKind → ℕ
depth_at f k = depth f.brackets - (if same_kind k RBrace then 1 else 0)

-- at how many `{` a piece stands on a line of its own
abbrev pub depth_of : Before → SourcePiece → ℕ
depth_of f (token x) = depth_at f x.kind
depth_of f (comment beside line) = depth f.brackets

-- two spaces for each `{`
abbrev pub indent : ℕ → List ℕ
indent zero = []
indent (suc n) = 32 ∷ 32 ∷ indent n

-- A new line is LF and two spaces for each `{` that is open, one fewer where the next piece is `}`.
abbrev pub gap_text : Gap → ℕ → List ℕ
gap_text NoGap n = []
gap_text Space n = 32 ∷ []
gap_text NewLine n = 10 ∷ indent n

-- LF, where a piece stands in front
abbrev pub last_end : Last → List ℕ
last_end Nothing = []
last_end _ = 10 ∷ []

-- the pieces behind this front, each behind its gap, and at the end LF
abbrev pub laid_behind : Before → List SourcePiece → List ℕ
laid_behind f [] = last_end f.last
laid_behind f (p ∷ ps) = gap_text (gap f p) (depth_of f p) ++ (spelling p ++ laid_behind (past f p) ps)

-- the pieces laid out
abbrev pub laid : List SourcePiece → List ℕ
laid ps = laid_behind beginning ps
