-- What is laid out stays as it is.
use Rattle.std.proofs.Common.{◌≡◌, ℕ, Bool, true, false, ◌&&◌, List, [], ◌∷◌, ◌++◌, refl, sym, ap, ◌∙◌, subst}
use Rattle.schema_syntax_grammar.specs.Grammar.{Sentence}
use Rattle.schema_layout_pieces.specs.declared.context.Feeds.TheVariants.{NoFeed}
use Rattle.schema_layout_pieces.specs.declared.context.Gap.{Gap}
use Rattle.schema_layout_pieces.specs.declared.context.Gap.TheVariants.{NoGap, Space, NewLine}
use Rattle.schema_layout_pieces.specs.declared.context.Last.TheVariants.{Nothing}
use Rattle.schema_layout_pieces.specs.Pieces.{SourcePiece, IsPieces, kinds_among, spelling}
use Rattle.schema_layout_pieces.specs.Layout.{Before, beginning, past, gap, gap_text, depth_of, laid_behind, laid}
use Rattle.schema_layout_pieces.specs.Kept.{Spaced, pieces_in, AreSpaced, may_be_spaced, is_spaced}
use Rattle.schema_layout_pieces.specs.Kept.{spaced_text, kept_behind, left_behind, laid_kept}
use Rattle.schema_layout_pieces.specs.LaidOut.{IsLaidOut, IsLaidOutKept, HaveSamePieces}
use Rattle.schema_layout_pieces.specs.Writing.{IsWritten}
use Rattle.schema_layout_pieces.proofs.OnePieces.{one_spaced, one_pieces, unspace, space}
use Rattle.schema_layout_pieces.proofs.ReadBack.{kept_back}
use Rattle.schema_layout_pieces.proofs.Sentences.{sentence_apart}

same_stay : (keeps spaced may : Bool) → (keeps && ((keeps && spaced) && may)) && may ≡ (keeps && spaced) && may
same_stay true true true = refl
same_stay true true false = refl
same_stay true false may = refl
same_stay false spaced may = refl

text_left : (g : Gap) (keeps spaced may : Bool) (n : ℕ)
    → spaced_text g ((keeps && is_spaced g ((keeps && spaced) && may)) && may) n
    ≡ spaced_text g ((keeps && spaced) && may) n
text_left NoGap keeps spaced may n = refl
text_left Space keeps spaced may n = refl
text_left NewLine keeps spaced may n = ap (λ b. spaced_text NewLine b n) (same_stay keeps spaced may)

-- what is left is laid out the same
left_same : (keeps : Bool) (f : Before) (ps : List Spaced)
    → kept_behind keeps f (left_behind keeps f ps) ≡ kept_behind keeps f ps
left_same keeps f [] = refl
left_same keeps f (p ∷ ps) =
    let t = text_left (gap f p.piece) keeps p.spaced (may_be_spaced f p.piece) (depth_of f p.piece) in
    let r = left_same keeps (past f p.piece) ps in
    λ i. t i ++ (spelling p.piece ++ r i)

pieces_left : (keeps : Bool) (f : Before) (ps : List Spaced) → pieces_in (left_behind keeps f ps) ≡ pieces_in ps
pieces_left keeps f [] = refl
pieces_left keeps f (p ∷ ps) = ap (λ l. p.piece ∷ l) (pieces_left keeps (past f p.piece) ps)

plain_gap : (g : Gap) (n : ℕ) → spaced_text g false n ≡ gap_text g n
plain_gap NoGap n = refl
plain_gap Space n = refl
plain_gap NewLine n = refl

-- without empty lines the layout is that of the pieces
pub plain_text : (f : Before) (ps : List Spaced) → kept_behind false f ps ≡ laid_behind f (pieces_in ps)
plain_text f [] = refl
plain_text f (p ∷ ps) =
    let t = plain_gap (gap f p.piece) (depth_of f p.piece) in
    let r = plain_text (past f p.piece) ps in
    λ i. t i ++ (spelling p.piece ++ r i)

pub written_back : (keeps : Bool) (text : List ℕ) (ps : List Spaced) → AreSpaced text ps
    → Sentence (kinds_among (pieces_in ps))
    → AreSpaced (kept_behind keeps beginning ps) (left_behind keeps beginning ps)
written_back keeps text ps h s =
    kept_back h keeps Nothing _ _ _ _ tt (sentence_apart (kinds_among (pieces_in ps)) s)

pub laid_back : (text : List ℕ) (ps : List SourcePiece) → IsPieces text ps → Sentence (kinds_among ps)
    → IsPieces (laid ps) ps
laid_back text ps h s =
    let q = space h NoFeed in
    let back = unspace (written_back false text q.0 q.1 (subst (λ l. Sentence (kinds_among l)) (sym q.2) s)) in
    let same : pieces_in (left_behind false beginning q.0) ≡ ps = pieces_left false beginning q.0 ∙ q.2 in
    let text : kept_behind false beginning q.0 ≡ laid ps = plain_text beginning q.0 ∙ ap laid q.2 in
    subst (λ l. IsPieces (laid ps) l) same
    (subst (λ t. IsPieces t (pieces_in (left_behind false beginning q.0))) text back)

pub keeps_pieces : (old new : List ℕ) (ps : List SourcePiece) → IsPieces old ps → Sentence (kinds_among ps)
    → IsLaidOut old new → HaveSamePieces old new
keeps_pieces old new ps h s l =
    let same : l.0 ≡ ps = one_pieces l.1 h in
    let text : laid ps ≡ new = ap laid (sym same) ∙ sym l.2 in
    (ps, h, subst (λ t. IsPieces t ps) text (laid_back old ps h s))

pub laid_once : (old new again : List ℕ) (ps : List SourcePiece) → IsPieces old ps → Sentence (kinds_among ps)
    → IsLaidOut old new → IsLaidOut new again → again ≡ new
laid_once old new again ps h s l m =
    let same : l.0 ≡ ps = one_pieces l.1 h in
    let text : laid ps ≡ new = ap laid (sym same) ∙ sym l.2 in
    let back : IsPieces new ps = subst (λ t. IsPieces t ps) text (laid_back old ps h s) in
    let other : m.0 ≡ ps = one_pieces m.1 back in
    m.2 ∙ (ap laid other ∙ text)

-- the pieces of a text with its empty lines, as they stand in that text laid out
kept_pieces : (old new : List ℕ) (ps : List SourcePiece) → IsPieces old ps → Sentence (kinds_among ps)
    → (l : IsLaidOutKept old new) → (pieces_in l.0 ≡ ps) × AreSpaced new (left_behind true beginning l.0)
kept_pieces old new ps h s l =
    let same : pieces_in l.0 ≡ ps = one_pieces (unspace l.1) h in
    let back = written_back true old l.0 l.1 (subst (λ q. Sentence (kinds_among q)) (sym same) s) in
    (same, subst (λ t. AreSpaced t (left_behind true beginning l.0)) (sym l.2) back)

pub kept_keeps_pieces : (old new : List ℕ) (ps : List SourcePiece) → IsPieces old ps → Sentence (kinds_among ps)
    → IsLaidOutKept old new → HaveSamePieces old new
kept_keeps_pieces old new ps h s l =
    let k = kept_pieces old new ps h s l in
    let same : pieces_in (left_behind true beginning l.0) ≡ ps = pieces_left true beginning l.0 ∙ k.0 in
    (ps, h, subst (λ q. IsPieces new q) same (unspace k.1))

pub kept_once : (old new again : List ℕ) (ps : List SourcePiece) → IsPieces old ps → Sentence (kinds_among ps)
    → IsLaidOutKept old new → IsLaidOutKept new again → again ≡ new
kept_once old new again ps h s l m =
    let k = kept_pieces old new ps h s l in
    let other : m.0 ≡ left_behind true beginning l.0 = one_spaced m.1 k.1 refl in
    m.2 ∙ (ap laid_kept other ∙ (left_same true beginning l.0 ∙ sym l.2))

-- what is written without empty lines is laid out
pub written_plain : (old new : List ℕ) → IsWritten false old new → IsLaidOut old new
written_plain old new w = (pieces_in w.0, unspace w.1, w.2 ∙ plain_text beginning w.0)

-- What is written with empty lines is laid out with those that are kept.
pub written_kept : (old new : List ℕ) → IsWritten true old new → IsLaidOutKept old new
written_kept old new w = w

-- a text with pieces has them with its empty lines
pub spaced_pieces : (text : List ℕ) → ((ps : List SourcePiece) × IsPieces text ps)
    → (qs : List Spaced) × AreSpaced text qs
spaced_pieces text p = let q = space p.1 NoFeed in (q.0, q.1)
