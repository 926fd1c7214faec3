-- A text has one list of pieces, which all that begins it is a front of.
use Rattle.std.proofs.Common.{◌≡◌, ◌≢◌, ℕ, zero, suc, ◌<◌, ◌≤◌, List, [], ◌∷◌, ◌++◌, length, take, drop, refl, ap, ◌∙◌}
use Rattle.std.proofs.Common.{arith}
use Rattle.std.specs.List.{All}
use Rattle.std.proofs.lemmas.Str.{chars-nil}
use Rattle.std.proofs.lemmas.List.Elements.{All-nil, All-cons}
use Rattle.cedar_identifiers.specs.NamePieces.{blank_len, piece_len, BeginsWith, here, blank, piece, NothingStands}
use Rattle.cedar_identifiers.proofs.Pieces.{piece_len-le}

abbrev Pieces : Type 0
Pieces = List (List ℕ)

-- The next piece and the others, from how long the blank and the piece at the front are. Where neither begins, the
-- empty list stands, which is no piece.
abbrev pieces_behind : ℕ → ℕ → List ℕ → (ℕ → Pieces) → Pieces
pieces_behind zero zero text next = [] ∷ []
pieces_behind zero (suc n) text next = take (suc n) text ∷ next n
pieces_behind (suc m) n text next = next m

-- the pieces behind the first bytes, as many as are skipped
pieces_at : List ℕ → ℕ → Pieces
pieces_at [] skip = []
pieces_at (b ∷ bs) zero = pieces_behind (blank_len (b ∷ bs)) (piece_len (b ∷ bs)) (b ∷ bs) (λ k. pieces_at bs k)
pieces_at (b ∷ bs) (suc skip) = pieces_at bs skip

-- the pieces of the text, up to the first place where none stands
pub pieces_of : List ℕ → Pieces
pieces_of text = pieces_at text 0

pieces_at-skip : (text : List ℕ) (k : ℕ) → pieces_at text k ≡ pieces_of (drop k text)
unfolding pieces_of pieces_at
pieces_at-skip [] zero = refl
pieces_at-skip [] (suc k) = refl
pieces_at-skip (b ∷ bs) zero = refl
pieces_at-skip (b ∷ bs) (suc k) = pieces_at-skip bs k

-- an empty text has no piece
pub pieces_of-nil : pieces_of [] ≡ []
unfolding pieces_of pieces_at
pieces_of-nil = refl

-- and no blank
blank_len-nil : blank_len [] ≡ 0
unfolding blank_len
blank_len-nil = rw chars-nil refl

-- one turn, at a blank
behind_blank : (m n b : ℕ) (bs : List ℕ) → 0 < m
    → pieces_behind m n (b ∷ bs) (λ k. pieces_at bs k) ≡ pieces_of (drop m (b ∷ bs))
behind_blank zero n b bs h = absurd (omega (arith, h))
behind_blank (suc m) n b bs h = pieces_at-skip bs m

-- one turn, at a piece
behind_piece : (n b : ℕ) (bs : List ℕ) → 0 < n
    → pieces_behind 0 n (b ∷ bs) (λ k. pieces_at bs k) ≡ take n (b ∷ bs) ∷ pieces_of (drop n (b ∷ bs))
behind_piece zero b bs h = absurd (omega (arith, h))
behind_piece (suc n) b bs h = ap (λ ps. take (suc n) (b ∷ bs) ∷ ps) (pieces_at-skip bs n)

-- a blank has no piece
pieces_of-blank : (text : List ℕ) → 0 < blank_len text → pieces_of text ≡ pieces_of (drop (blank_len text) text)
unfolding pieces_of pieces_at
pieces_of-blank [] h = absurd (omega (arith, h, blank_len-nil))
pieces_of-blank (b ∷ bs) h = behind_blank (blank_len (b ∷ bs)) (piece_len (b ∷ bs)) b bs h

-- a piece stands before the others
pieces_of-piece : (text : List ℕ) → blank_len text ≡ 0 → 0 < piece_len text
    → pieces_of text ≡ take (piece_len text) text ∷ pieces_of (drop (piece_len text) text)
unfolding pieces_of pieces_at
pieces_of-piece [] e h = absurd (omega (arith, h))
pieces_of-piece (b ∷ bs) e h =
    ap (λ m. pieces_behind m (piece_len (b ∷ bs)) (b ∷ bs) (λ k. pieces_at bs k)) e
    ∙ behind_piece (piece_len (b ∷ bs)) b bs h

-- neither begins there
pub pieces_of-stuck : (text : List ℕ) → NothingStands text → pieces_of text ≡ [] ∷ []
unfolding pieces_of pieces_at
pieces_of-stuck [] n = absurd (n.some refl)
pieces_of-stuck (b ∷ bs) n =
    ap (λ m. pieces_behind m (piece_len (b ∷ bs)) (b ∷ bs) (λ k. pieces_at bs k)) n.no_blank ∙
    ap (λ k. pieces_behind 0 k (b ∷ bs) (λ i. pieces_at bs i)) n.no_piece

-- what begins the text is a front of its pieces
pub pieces_of-begins : {text rest : List ℕ} {ps : Pieces} → BeginsWith text ps rest
    → pieces_of text ≡ ps ++ pieces_of rest
pieces_of-begins here = refl
pieces_of-begins (blank {text = text} some b) = pieces_of-blank text some ∙ pieces_of-begins b
pieces_of-begins (piece {text = text} no_blank some b) = pieces_of-piece text no_blank some
    ∙ ap (λ qs. take (piece_len text) text ∷ qs) (pieces_of-begins b)

-- a front of a text has bytes
take_some : (n : ℕ) (text : List ℕ) → 0 < n → n ≤ length text → take n text ≢ []
take_some zero text h l e = omega (arith, h)
take_some (suc n) [] h l e = omega (arith, l)
take_some (suc n) (b ∷ bs) h l e = cc

-- pieces have bytes
pub pieces_some : {text rest : List ℕ} {ps : Pieces} → BeginsWith text ps rest → All (λ p. p ≢ []) ps
pieces_some here = All-nil (λ p. p ≢ [])
pieces_some (blank some b) = pieces_some b
pieces_some (piece {text = text} {pieces = ps} no_blank some b) =
    All-cons (λ p. p ≢ []) (take (piece_len text) text) ps (take_some (piece_len text) text some (piece_len-le text))
    (pieces_some b)
