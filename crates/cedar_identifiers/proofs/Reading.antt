-- Pieces that make a name.
use Rattle.std.proofs.Common.{◌≡◌, ℕ, ◌+◌, ◌≤◌, Bool, true, false, List, [], ◌∷◌, ◌++◌, length, take, Option, Some}
use Rattle.std.proofs.Common.{None, refl, sym, ap, ◌∙◌, subst, arith, codes, length-drop, append-nil}
use Rattle.std.specs.List.{All}
use Rattle.std.specs.Option.{option_and_then}
use Rattle.std.specs.Str.{chars, IsUtf8}
use Rattle.std.proofs.lemmas.Str.{IsUtf8-drop}
use Rattle.std.proofs.lemmas.List.Elements.{All-nil, All-cons, All-head}
use Rattle.cedar_data.specs.Words.{is_word}
use Rattle.cedar_identifiers.specs.NamePieces.{blank_len, piece_len, BeginsWith, here, blank, piece}
use Rattle.cedar_identifiers.specs.NameReading.{is_single, due_next, due_behind, separated, HasWords, NameFaultOf}
use Rattle.cedar_identifiers.specs.Fronts.{StopsAt}
use Rattle.cedar_identifiers.specs.declared.name_kind.NameKind.{NameKind}
use Rattle.cedar_identifiers.specs.declared.name_fault.NameFault.{NameFault}
use Rattle.cedar_identifiers.specs.declared.name_fault.NameFault.TheVariants.{End, Token, Invalid, NotNormalized}
use Rattle.cedar_identifiers.specs.declared.name_fault.NameFault.TheVariants.{Reserved, Memory}
use Rattle.cedar_identifiers.proofs.Blanks.{Begins-append, past-blank}
use Rattle.cedar_identifiers.proofs.Pieces.{piece_chars, piece_len-le, piece_len-boundary}

-- the bytes of pieces are their characters
pieces_chars : {text rest : List ℕ} {ps : List (List ℕ)} → BeginsWith text ps rest → All (λ p. chars p ≡ p) ps
pieces_chars here = All-nil (λ p. chars p ≡ p)
pieces_chars (blank some b) = pieces_chars b
pieces_chars (piece {text = text} {pieces = ps} no_blank some b) =
    All-cons (λ p. chars p ≡ p) (take (piece_len text) text) ps (piece_chars text) (pieces_chars b)

pub front_chars : (text p rest : List ℕ) → BeginsWith text (p ∷ []) rest → chars p ≡ p
front_chars text p rest b = All-head (λ q. chars q ≡ q) p [] (pieces_chars b)

-- each piece has bytes
pub begins_shorter : {text rest : List ℕ} {ps : List (List ℕ)} → BeginsWith text ps rest
    → length rest + length ps ≤ length text
begins_shorter here = omega arith
begins_shorter (blank {text = text} some b) =
    let r = begins_shorter b in omega (arith, r, length-drop (blank_len text) text)
begins_shorter (piece {text = text} no_blank some b) =
    let r = begins_shorter b in omega (arith, r, some, length-drop (piece_len text) text, piece_len-le text)

-- a piece that cannot stand there
pub token_stops : (single due : Bool) (text p rest t : List ℕ) → BeginsWith text (p ∷ []) rest → t ≡ chars p
    → due_next single due p ≡ None → StopsAt single due text (Token t)
token_stops single due text p rest t b e n =
    let same : t ≡ p = e ∙ front_chars text p rest b in (
      rest,
      subst (λ (x : List ℕ). BeginsWith text (x ∷ []) rest) (sym same) b,
      subst
          (λ (x : List ℕ). due_next single due x ≡ None) (sym same) n,
    )

-- pieces behind pieces
pub due_behind-append : (single due d : Bool) (ps qs : List (List ℕ)) → due_behind single due ps ≡ Some d
    → due_behind single due (ps ++ qs) ≡ due_behind single d qs
due_behind-append single due d [] qs e = let same : due ≡ d = cc in ap (λ x. due_behind single x qs) same
due_behind-append single due d (p ∷ ps) qs e =
    by_next (due_next single due p) (λ x. due_behind-append single x d ps qs) e
  where
    by_next : (n : Option Bool)
        → ((x : Bool) → due_behind single x ps ≡ Some d → due_behind single x (ps ++ qs) ≡ due_behind single d qs)
        → option_and_then (λ x. due_behind single x ps) n ≡ Some d
        → option_and_then (λ x. due_behind single x (ps ++ qs)) n ≡ due_behind single d qs
    by_next None rec h = cc
    by_next (Some x) rec h = rec x h

-- reading that stops behind pieces stops there in the text
pub stops_behind : (kind : NameKind) (text rest : List ℕ) (ps : List (List ℕ)) (due : Bool) (f : NameFault)
    → BeginsWith text ps rest → due_behind (is_single kind) true ps ≡ Some due → StopsAt (is_single kind) due rest f
    → NameFaultOf kind text f
stops_behind kind text rest ps due Invalid b d (end, s, n) =
    (ps, due, end, subst (λ (qs : List (List ℕ)). BeginsWith text qs end) (append-nil ps) (Begins-append b s), d, n)
stops_behind kind text rest ps due (Token t) b d (end, s, n) = (ps, due, end, Begins-append b s, d, n)
stops_behind kind text rest ps due End b d (s, e) = (
  ps,
  subst (λ (qs : List (List ℕ)). BeginsWith text qs []) (append-nil ps) (Begins-append b s),
  d
      ∙ ap (λ x. Some x) e,
)
stops_behind kind text rest ps due (Reserved w) b d s = absurd s
stops_behind kind text rest ps due NotNormalized b d s = absurd s
stops_behind kind text rest ps due Memory b d s = tt

-- one word more
separated-push : (w : List ℕ) (ws : List (List ℕ)) (v : List ℕ)
    → separated (w ∷ (ws ++ v ∷ [])) ≡ separated (w ∷ ws) ++ (codes "::" ∷ v ∷ [])
separated-push w [] v = refl
separated-push w (x ∷ ws) v = ap (λ ps. w ∷ codes "::" ∷ ps) (separated-push x ws v)

-- the pieces so far are words that make a name, and the rest follows
pub record IsRead (kind : NameKind) (text : List ℕ) (words : List (List ℕ)) (rest : List ℕ) : Type 0 where
  pub begins : BeginsWith text (separated words) rest
  pub whole : due_behind (is_single kind) true (separated words) ≡ Some false

-- another
pub read_more : (kind : NameKind) (text : List ℕ) (w : List ℕ) (ws : List (List ℕ)) (v rest after next : List ℕ)
    → IsRead kind text (w ∷ ws) rest
    → is_single kind ≡ false → BeginsWith rest (codes "::" ∷ []) after → BeginsWith after (v ∷ []) next
    → is_word v ≡ true → IsRead kind text (w ∷ (ws ++ v ∷ [])) next
read_more kind text w ws v rest after next r s b n h =
    let push = sym (separated-push w ws v) in
    record {
      begins = subst (λ (ps : List (List ℕ)). BeginsWith text ps next) push
          (Begins-append r.begins (Begins-append b n));
      whole = ap (due_behind (is_single kind) true) (sym push)
          ∙ (due_behind-append (is_single kind) true false (separated (w ∷ ws)) (codes "::" ∷ v ∷ []) r.whole
          ∙ rw (s, h) refl);
    }

-- behind a separator a word is due
pub due_separator : (kind : NameKind) (text : List ℕ) (ws : List (List ℕ)) (rest after : List ℕ)
    → IsRead kind text ws rest → is_single kind ≡ false → BeginsWith rest (codes "::" ∷ []) after
    → BeginsWith text (separated ws ++ codes "::" ∷ []) after
    × (due_behind (is_single kind) true (separated ws ++ codes "::" ∷ []) ≡ Some true)
due_separator kind text ws rest after r s b = (
  Begins-append r.begins b,
  due_behind-append (is_single kind) true false (separated ws) (codes "::" ∷ []) r.whole
      ∙ rw s refl,
)

-- the end
pub has_words : (kind : NameKind) (text : List ℕ) (ws : List (List ℕ)) (rest : List ℕ) → IsRead kind text ws rest
    → BeginsWith rest [] [] → HasWords kind text ws
has_words kind text ws rest r b =
    record {
      pieces = subst (λ (ps : List (List ℕ)). BeginsWith text ps []) (append-nil (separated ws))
          (Begins-append r.begins b);
      whole = r.whole;
    }

-- a piece that is a word
pub record IsWordHere (text t rest : List ℕ) : Type 0 where
  pub word : is_word t ≡ true
  pub begins : BeginsWith text (t ∷ []) rest

pub word_here : (text p rest t bytes : List ℕ) → BeginsWith text (p ∷ []) rest → t ≡ chars p → bytes ≡ p
    → is_word bytes ≡ true → IsWordHere text t rest
word_here text p rest t bytes b e f h =
    let same : t ≡ p = e ∙ front_chars text p rest b in
    record {
      word = ap is_word (same ∙ sym f) ∙ h;
      begins = subst (λ (x : List ℕ). BeginsWith text (x ∷ []) rest) (sym same) b;
    }

-- and one that is none
pub no_word_here : (single : Bool) (text p rest t bytes : List ℕ) → BeginsWith text (p ∷ []) rest → t ≡ chars p
    → bytes ≡ p → is_word bytes ≡ false → StopsAt single true text (Token t)
no_word_here single text p rest t bytes b e f h =
    token_stops single true text p rest t b e (let n : is_word p ≡ false = ap is_word (sym f) ∙ h in rw n refl)

-- what follows is a text
pub begins_utf8 : {text rest : List ℕ} {ps : List (List ℕ)} → IsUtf8 text → BeginsWith text ps rest → IsUtf8 rest
begins_utf8 u here = u
begins_utf8 u (blank {text = text} some b) = begins_utf8 (past-blank text u some).rest b
begins_utf8 u (piece {text = text} no_blank some b) =
    begins_utf8 (IsUtf8-drop text (piece_len text) u (piece_len-boundary text u some)) b
