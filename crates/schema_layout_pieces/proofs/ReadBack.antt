-- Pieces that are laid out are read back, with the empty lines that are kept.
use Rattle.std.proofs.Common.{◌≡◌, ℕ, zero, suc, ◌<◌, Bool, true, false, not, ◌&&◌, ◌||◌, List, [], ◌∷◌, ◌++◌}
use Rattle.std.proofs.Common.{length, refl, sym, subst, inl, arith}
use Rattle.std.specs.Char.{is_whitespace}
use Rattle.std.proofs.lemmas.Bool.{and_parts}
use Rattle.std.proofs.lemmas.Str.{encode_ascii}
use Rattle.schema_syntax_grammar.specs.declared.token_kind.TokenKind.{TokenKind}
use Rattle.schema_syntax_grammar.specs.declared.token_kind.TokenKind.TheVariants.{At, Colon}
use Rattle.schema_syntax_grammar.specs.Grammar.{same_kind}
use Rattle.schema_syntax_tokens.specs.Forms.{IsForm}
use Rattle.schema_syntax_tokens.specs.Laid.{Lexeme, edge_of}
use Rattle.schema_syntax_tokens.specs.Scans.{EndsLine, IsLongest}
use Rattle.schema_syntax_tokens.proofs.Standing.{Ends, stands}
use Rattle.schema_layout_pieces.specs.declared.context.Bracket.{Bracket}
use Rattle.schema_layout_pieces.specs.declared.context.Feeds.{Feeds}
use Rattle.schema_layout_pieces.specs.declared.context.Feeds.TheVariants.{NoFeed, OneFeed, MoreFeeds}
use Rattle.schema_layout_pieces.specs.declared.context.Gap.{Gap}
use Rattle.schema_layout_pieces.specs.declared.context.Gap.TheVariants.{NoGap, Space, NewLine}
use Rattle.schema_layout_pieces.specs.declared.context.Last.{Last}
use Rattle.schema_layout_pieces.specs.declared.context.Last.TheVariants.{Nothing, Comment, Token}
use Rattle.schema_layout_pieces.specs.Kinds.{begins_apart, is_apart}
use Rattle.schema_layout_pieces.specs.Pieces.{SourcePiece, token, comment, spelling, kinds_among, ends_line}
use Rattle.schema_layout_pieces.specs.Layout.{Before, is_head, brackets_past, past, between, gap_to_token}
use Rattle.schema_layout_pieces.specs.Layout.{gap_to_comment, gap, depth, depth_at, depth_of, indent, last_end}
use Rattle.schema_layout_pieces.specs.Kept.{fed, has_empty_line, Spaced, pieces_in, spaced_by, HasSpaced, stays}
use Rattle.schema_layout_pieces.specs.Kept.{is_spaced, spaced_text, kept_behind, left_behind}
use Rattle.schema_layout_pieces.specs.Kept.HasSpaced.{none, blank, note, lexeme}
use Rattle.schema_layout_pieces.specs.Writing.{is_near}
use Rattle.schema_layout_pieces.proofs.OnePieces.{form_here}
use Rattle.schema_layout_pieces.proofs.Touching.{ends_space, ends_line_feed, ends_touching}

abbrev front : Last → TokenKind → Bool → Bool → List Bracket → Before
front l k a h o = record { last = l; kind = k; annotates = a; heads = h; brackets = o }

-- only a comment in the line of a token is beside something
abbrev Fits : Bool → Last → Type 0
Fits false l = Unit {0}
Fits true Token = Unit {0}
Fits true Nothing = ⊥
Fits true Comment = ⊥

fits_and : (near b : Bool) (l : Last) → Fits near l → Fits (near && b) l
fits_and false b l f = tt
fits_and true true l f = f
fits_and true false l f = tt

and_true : (b : Bool) → b && true ≡ b
and_true true = refl
and_true false = refl

and_false : (b : Bool) → b && false ≡ false
and_false true = refl
and_false false = refl

-- one blank in front
ascii_blank : (near : Bool) (s : Feeds) (c : ℕ) (rest : List ℕ) (ps : List Spaced) → c < 128 → is_whitespace c ≡ true
    → HasSpaced (near && not (ends_line c)) (fed s c) rest ps → HasSpaced near s (c ∷ rest) ps
ascii_blank near s c rest ps l w h =
    subst (λ e. HasSpaced near s (e ++ rest) ps) (encode_ascii c l) (blank c w h)

one_space : (near : Bool) (s : Feeds) (rest : List ℕ) (ps : List Spaced) → HasSpaced near s rest ps
    → HasSpaced near s (32 ∷ rest) ps
one_space near s rest ps h =
    ascii_blank near s 32 rest ps (omega arith) refl (subst (λ n. HasSpaced n s rest ps) (sym (and_true near)) h)

line_feed : (near : Bool) (s : Feeds) (rest : List ℕ) (ps : List Spaced) → HasSpaced false (fed s 10) rest ps
    → HasSpaced near s (10 ∷ rest) ps
line_feed near s rest ps h =
    ascii_blank near s 10 rest ps (omega arith) refl
    (subst (λ n. HasSpaced n (fed s 10) rest ps) (sym (and_false near)) h)

past_indent : (n : ℕ) (s : Feeds) (rest : List ℕ) (ps : List Spaced) → HasSpaced false s rest ps
    → HasSpaced false s (indent n ++ rest) ps
past_indent zero s rest ps h = h
past_indent (suc n) s rest ps h =
    one_space false s (32 ∷ (indent n ++ rest)) ps (one_space false s (indent n ++ rest) ps (past_indent n s rest ps h))

-- whether a comment behind the gap is beside what is in front
abbrev near_behind : Bool → Gap → Bool
near_behind near NoGap = near
near_behind near Space = near
near_behind near NewLine = false

-- how many line feeds the gap has
abbrev feeds_of : Gap → Bool → Feeds
feeds_of NewLine true = MoreFeeds
feeds_of NewLine false = OneFeed
feeds_of _ spaced = NoFeed

past_gap : (g : Gap) (spaced : Bool) (n : ℕ) (near : Bool) (rest : List ℕ) (ps : List Spaced)
    → HasSpaced (near_behind near g) (feeds_of g spaced) rest ps
    → HasSpaced near NoFeed (spaced_text g spaced n ++ rest) ps
past_gap NoGap spaced n near rest ps h = h
past_gap Space spaced n near rest ps h = one_space near NoFeed rest ps h
past_gap NewLine false n near rest ps h = line_feed near NoFeed (indent n ++ rest) ps (past_indent n OneFeed rest ps h)
past_gap NewLine true n near rest ps h =
    line_feed near NoFeed (10 ∷ (indent n ++ rest)) ps
    (line_feed false OneFeed (indent n ++ rest) ps (past_indent n MoreFeeds rest ps h))

at_end : (l : Last) → HasSpaced (is_near l) NoFeed (last_end l) []
at_end Nothing = none
at_end Comment = line_feed false NoFeed [] [] none
at_end Token = line_feed true NoFeed [] [] none

line_at : (spaced : Bool) (n : ℕ) (rest : List ℕ) → EndsLine (spaced_text NewLine spaced n ++ rest)
line_at true n rest = inl refl
line_at false n rest = inl refl

-- behind a comment a line ends
comment_ends : (keeps : Bool) (k : TokenKind) (a h : Bool) (o : List Bracket) (ps : List Spaced)
    → EndsLine (kept_behind keeps (front Comment k a h o) ps)
comment_ends keeps k a h o [] = inl refl
comment_ends keeps k a h o (s ∷ ps) = by_piece s.piece (stays keeps (front Comment k a h o) s)
  where
    by_piece : (p : SourcePiece) (spaced : Bool)
        → EndsLine (spaced_text (gap (front Comment k a h o) p) spaced (depth_of (front Comment k a h o) p)
        ++ (spelling p ++ kept_behind keeps (past (front Comment k a h o) p) ps))
    by_piece (token x) spaced = line_at spaced (depth_at (front Comment k a h o) x.kind) _
    by_piece (comment beside line) spaced = line_at spaced (depth o) _

feeds_empty : (g : Gap) (spaced : Bool) → has_empty_line (feeds_of g spaced) ≡ is_spaced g spaced
feeds_empty NoGap spaced = refl
feeds_empty Space spaced = refl
feeds_empty NewLine true = refl
feeds_empty NewLine false = refl

abbrev as_left : SourcePiece → Gap → Bool → Spaced
as_left p g spaced = record { piece = p; spaced = is_spaced g spaced }

-- a piece behind its gap, with the empty line that the gap has
past_piece : (g : Gap) (spaced : Bool) (n : ℕ) (near : Bool) (p : SourcePiece) (rest : List ℕ) (ps : List Spaced)
    → HasSpaced (near_behind near g) (feeds_of g spaced) rest (spaced_by (feeds_of g spaced) p ∷ ps)
    → HasSpaced near NoFeed (spaced_text g spaced n ++ rest) (as_left p g spaced ∷ ps)
past_piece g spaced n near p rest ps h =
    past_gap g spaced n near rest (as_left p g spaced ∷ ps)
    (subst (λ b. HasSpaced (near_behind near g) (feeds_of g spaced) rest (record { piece = p; spaced = b } ∷ ps))
    (feeds_empty g spaced) h)

put_note : (l : Last) (near spaced : Bool) (n : ℕ) (line after : List ℕ) (ps : List Spaced) → Fits near l
    → ((m : Bool) (s : Feeds) → HasSpaced m s (47 ∷ 47 ∷ (line ++ after)) (spaced_by s (comment m line) ∷ ps))
    → HasSpaced (is_near l) NoFeed (spaced_text (gap_to_comment l near) spaced n ++ 47 ∷ 47 ∷ (line ++ after))
    (as_left (comment near line) (gap_to_comment l near) spaced ∷ ps)
put_note Nothing true spaced n line after ps fits h = absurd fits
put_note Nothing false spaced n line after ps fits h =
    past_piece NoGap spaced n false (comment false line) (47 ∷ 47 ∷ (line ++ after)) ps (h false NoFeed)
put_note Comment true spaced n line after ps fits h = absurd fits
put_note Comment false spaced n line after ps fits h =
    past_piece NewLine spaced n false (comment false line) (47 ∷ 47 ∷ (line ++ after)) ps
    (h false (feeds_of NewLine spaced))
put_note Token true spaced n line after ps fits h =
    past_piece Space spaced n true (comment true line) (47 ∷ 47 ∷ (line ++ after)) ps (h true NoFeed)
put_note Token false spaced n line after ps fits h =
    past_piece NewLine spaced n true (comment false line) (47 ∷ 47 ∷ (line ++ after)) ps
    (h false (feeds_of NewLine spaced))

abbrev IsTokenForm : SourcePiece → Type 0
IsTokenForm (token x) = IsForm x.text x.kind
IsTokenForm (comment beside line) = Unit {0}

-- the tokens among the pieces are tokens
abbrev AreForms : List Spaced → Type 0
AreForms [] = Unit {0}
AreForms (s ∷ ps) = IsTokenForm s.piece × AreForms ps

forms : {near : Bool} {s : Feeds} {text : List ℕ} {ps : List Spaced} → HasSpaced near s text ps → AreForms ps
forms none = tt
forms (blank c w h) = forms h
forms (note line i e h) = (tt, forms h)
forms (lexeme {rest = rest} x i h) = (form_here x rest i, forms h)

ends_gap : (k : TokenKind) (x : Lexeme) (n : ℕ) (spaced : Bool) (rest : List ℕ) (f : Before) (g : Gap)
    → between f x.kind ≡ g → (between f x.kind ≡ NoGap → Ends (edge_of k) (x.text ++ rest))
    → Ends (edge_of k) (spaced_text g spaced n ++ (x.text ++ rest))
ends_gap k x n spaced rest f NoGap i h = h i
ends_gap k x n spaced rest f Space i h = ends_space (edge_of k) (x.text ++ rest)
ends_gap k x n true rest f NewLine i h = ends_line_feed (edge_of k) (10 ∷ (indent n ++ (x.text ++ rest)))
ends_gap k x n false rest f NewLine i h = ends_line_feed (edge_of k) (indent n ++ (x.text ++ rest))

ends_note : (k : TokenKind) (beside spaced : Bool) (n : ℕ) (rest : List ℕ)
    → Ends (edge_of k) (spaced_text (gap_to_comment Token beside) spaced n ++ rest)
ends_note k true spaced n rest = ends_space (edge_of k) rest
ends_note k false true n rest = ends_line_feed (edge_of k) (10 ∷ (indent n ++ rest))
ends_note k false false n rest = ends_line_feed (edge_of k) (indent n ++ rest)

-- what is laid out behind a token does not go on with it
ends_piece : (keeps : Bool) (k : TokenKind) (a h : Bool) (o : List Bracket) (p : SourcePiece) (spaced : Bool)
    (ps : List Spaced)
    → IsTokenForm p → is_apart (k ∷ kinds_among (p ∷ pieces_in ps)) ≡ true
    → Ends (edge_of k) (spaced_text (gap (front Token k a h o) p) spaced (depth_of (front Token k a h o) p)
    ++ (spelling p ++ kept_behind keeps (past (front Token k a h o) p) ps))
ends_piece keeps k a h o (token x) spaced ps i s =
    let f = front Token k a h o in
    let rest = kept_behind keeps (past f (token x)) ps in
    ends_gap k x (depth_at f x.kind) spaced rest f (between f x.kind) refl
    (λ g. ends_touching f x rest (kinds_among (pieces_in ps)) i g s)
ends_piece keeps k a h o (comment beside line) spaced ps i s = ends_note k beside spaced (depth o) _

ends_kept : (keeps : Bool) (k : TokenKind) (a h : Bool) (o : List Bracket) (ps : List Spaced) → AreForms ps
    → is_apart (k ∷ kinds_among (pieces_in ps)) ≡ true → Ends (edge_of k) (kept_behind keeps (front Token k a h o) ps)
ends_kept keeps k a h o [] i s = ends_line_feed (edge_of k) []
ends_kept keeps k a h o (p ∷ ps) i s = ends_piece keeps k a h o p.piece (stays keeps (front Token k a h o) p) ps i.0 s

apart_tail : (k : TokenKind) (ks : List TokenKind) → is_apart (k ∷ ks) ≡ true → is_apart ks ≡ true
apart_tail k ks h = (and_parts (not (same_kind k Colon) || begins_apart ks) (is_apart ks) h).1

pub kept_back : {near : Bool} {s : Feeds} {text : List ℕ} {ps : List Spaced} → HasSpaced near s text ps → (keeps : Bool)
    → (l : Last) (k : TokenKind) (a h : Bool) (o : List Bracket) → Fits near l
    → is_apart (k ∷ kinds_among (pieces_in ps)) ≡ true
    → HasSpaced (is_near l) NoFeed (kept_behind keeps (front l k a h o) ps) (left_behind keeps (front l k a h o) ps)
kept_back none keeps l k a h o fits s = at_end l
kept_back (blank {near = near} c w r) keeps l k a h o fits s =
    kept_back r keeps l k a h o (fits_and near (not (ends_line c)) l fits) s
kept_back (note {near = near} {s = here} {ps = ps} line i e r) keeps l k a h o fits s =
    put_note l near (stays keeps (front l k a h o) (spaced_by here (comment near line))) (depth o) line
    (kept_behind keeps (front Comment k a h o) ps) (left_behind keeps (front Comment k a h o) ps) fits
    (λ n m. note {near = n} {s = m} line i (comment_ends keeps k a h o ps) (kept_back r keeps Comment k a h o tt s))
kept_back (lexeme {s = here} {rest = rest} {ps = ps} x i r) keeps l k a h o fits s =
    let f = front l k a h o in
    let ks = kinds_among (pieces_in ps) in
    let tail : is_apart (x.kind ∷ ks) ≡ true = apart_tail k (x.kind ∷ ks) s in
    let after = kept_behind keeps (past f (token x)) ps in
    let stand : IsLongest (x.text ++ after) x.kind (length x.text) =
    stands x.text after x.kind (form_here x rest i)
    (ends_kept keeps x.kind (same_kind k At) (is_head f x.kind) (brackets_past f x.kind) ps (forms r) tail) in
    let behind : HasSpaced true NoFeed after (left_behind keeps (past f (token x)) ps) =
    kept_back r keeps Token x.kind (same_kind k At) (is_head f x.kind) (brackets_past f x.kind) tt tail in
    past_piece (gap_to_token l f x.kind) (stays keeps f (spaced_by here (token x))) (depth_at f x.kind) (is_near l)
    (token x) (x.text ++ after) (left_behind keeps (past f (token x)) ps) (lexeme x stand behind)
