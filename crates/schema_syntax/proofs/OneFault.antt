-- A text has one syntax fault at most, and none where its tokens are those of a schema.
use Rattle.std.proofs.Common.{◌≡◌, ◌+◌, ◌<◌, ℕ, List, [], ◌∷◌, ◌++◌, length, take, drop, Some, sym, ap, ◌∙◌, subst}
use Rattle.std.proofs.Common.{arith, refl}
use Rattle.std.specs.Prelude.{slice_get, slice_range}
use Rattle.std.specs.Str.{chars}
use Rattle.std.proofs.lemmas.List.{take-append-drop, same_from_push}
use Rattle.std.proofs.lemmas.Option.{slice_get_within, same_Some}
use Rattle.schema_syntax_grammar.specs.declared.token_kind.TokenKind.{TokenKind}
use Rattle.schema_syntax_grammar.specs.declared.token_kind.TheConstants.{ALL_KINDS}
use Rattle.schema_syntax_grammar.specs.Grammar.{Sentence, Viable}
use Rattle.schema_syntax_grammar.specs.Fault.{IsFault}
use Rattle.schema_syntax_tokens.specs.declared.token.Token.{Token}
use Rattle.schema_syntax_tokens.specs.Scans.{Scans}
use Rattle.schema_syntax_tokens.specs.TokenLists.{kinds_of}
use Rattle.schema_syntax.specs.declared.syntax_fault.SyntaxFault.{SyntaxFault}
use Rattle.schema_syntax.specs.declared.syntax_fault.SyntaxFault.TheVariants.{InvalidToken, UnrecognizedToken}
use Rattle.schema_syntax.specs.declared.syntax_fault.SyntaxFault.TheVariants.{UnrecognizedEof}
use Rattle.schema_syntax.specs.SyntaxFaults.{IsSyntaxFault, unrecognized_token, invalid_token, unrecognized_eof}
use Rattle.schema_syntax.specs.SyntaxFaults.{IsSentence}
use Rattle.schema_syntax.proofs.Found.{kinds_long}

abbrev OneScan : Type 0
OneScan = (text : List ℕ) (ts us : List Token) (at bt : ℕ) → Scans text ts at → Scans text us bt → (ts ≡ us) × (at ≡ bt)

abbrev OneFault : Type 0
OneFault = (kinds first second : List TokenKind) (p q : ℕ) → IsFault ALL_KINDS kinds p first
    → IsFault ALL_KINDS kinds q second → (p ≡ q) × (first ≡ second)

abbrev Fronts : Type 0
Fronts = (front rest : List TokenKind) → Viable (front ++ rest) → Viable front

-- the token at a place is one
one_token : (tokens : List Token) (p q : ℕ) (t u : Token) → p ≡ q → slice_get tokens p ≡ Some t
    → slice_get tokens q ≡ Some u → t ≡ u
one_token tokens p q t u e g h = same_Some t u (sym g ∙ ap (slice_get tokens) e ∙ h)

-- the fault that a token is
abbrev fault_at : List ℕ → Token → List TokenKind → SyntaxFault
fault_at text t list = UnrecognizedToken t.loc.start (chars (slice_range text t.loc.start t.loc.end)) t.loc.end list

-- kinds with a fault among them begin no sentence
inside : Fronts → (kinds list : List TokenKind) (place : ℕ) → IsFault ALL_KINDS kinds place list
    → place < length kinds → Viable kinds → ⊥
inside fronts kinds list place f h v =
    f.stops h (fronts (take (place + 1) kinds) (drop (place + 1) kinds)
    (subst Viable (sym (take-append-drop (place + 1) kinds)) v))

-- no token at a place, and tokens to the end
invalid_end : OneScan → (text : List ℕ) (ts us : List Token) (at bt : ℕ) → Scans text ts at → at < length text
    → Scans text us bt → bt ≡ length text → ⊥
invalid_end scan_once text ts us at bt s lt s2 e =
    let same : at ≡ bt = (scan_once text ts us at bt s s2).1 in omega arith

module _ (scan_once : OneScan) (fault_once : OneFault) (fronts : Fronts) (text : List ℕ) where
  -- both faults at tokens
  token_token : (ts us : List Token) (at bt p q : ℕ) (t u : Token) {first second : List TokenKind} → Scans text ts at
      → slice_get ts p ≡ Some t → IsFault ALL_KINDS (kinds_of ts) p first → Scans text us bt → slice_get us q ≡ Some u
      → IsFault ALL_KINDS (kinds_of us) q second → fault_at text t first ≡ fault_at text u second
  token_token ts us at bt p q t u {first} {second} s g f s2 g2 f2 =
      let same : us ≡ ts = (scan_once text us ts bt at s2 s).0 in
      let once = fault_once (kinds_of ts) first second p q f
      (subst (λ x. IsFault ALL_KINDS (kinds_of x) q second) same f2) in
      let token : t ≡ u = one_token ts p q t u once.0 g (subst (λ x. slice_get x q ≡ Some u) same g2) in
      ap (λ x. fault_at text x first) token ∙ ap (fault_at text u) once.1

  -- a fault at a token, and no token behind viable ones
  token_invalid : (ts us : List Token) (at bt p : ℕ) (t : Token) {list : List TokenKind} → Scans text ts at
      → slice_get ts p ≡ Some t → IsFault ALL_KINDS (kinds_of ts) p list → Scans text us bt → Viable (kinds_of us) → ⊥
  token_invalid ts us at bt p t {list} s g f s2 v =
      inside fronts (kinds_of ts) list p f (omega (arith, slice_get_within ts p t g, kinds_long ts))
      (subst (λ x. Viable (kinds_of x)) (scan_once text us ts bt at s2 s).0 v)

  -- a fault at a token, and one at the end
  token_end : (ts us : List Token) (at bt p : ℕ) (t : Token) {first second : List TokenKind} → Scans text ts at
      → slice_get ts p ≡ Some t → IsFault ALL_KINDS (kinds_of ts) p first → Scans text us bt
      → IsFault ALL_KINDS (kinds_of us) (length us) second → ⊥
  token_end ts us at bt p t {first} {second} s g f s2 f2 =
      let same : us ≡ ts = (scan_once text us ts bt at s2 s).0 in
      let once = fault_once (kinds_of ts) first second p (length ts) f
      (subst (λ x. IsFault ALL_KINDS (kinds_of x) (length x) second) same f2) in
      let e : p ≡ length ts = once.0 in
      let h = slice_get_within ts p t g in
      omega arith

  -- both faults at the end
  end_end : (ts us : List Token) (t u : Token) {first second : List TokenKind}
      → Scans text (ts ++ t ∷ []) (length text)
      → IsFault ALL_KINDS (kinds_of (ts ++ t ∷ [])) (length (ts ++ t ∷ [])) first
      → Scans text (us ++ u ∷ []) (length text)
      → IsFault ALL_KINDS (kinds_of (us ++ u ∷ [])) (length (us ++ u ∷ [])) second
      → UnrecognizedEof t.loc.end first ≡ UnrecognizedEof u.loc.end second
  end_end ts us t u {first} {second} s f s2 f2 =
      let same : us ++ u ∷ [] ≡ ts ++ t
      ∷ [] = (scan_once text (us ++ u ∷ []) (ts ++ t ∷ []) (length text) (length text) s2 s).0 in
      let all = ts ++ t ∷ [] in
      let once = fault_once (kinds_of all) first second (length all) (length all) f
      (subst (λ x. IsFault ALL_KINDS (kinds_of x) (length x) second) same f2) in
      let last : t ≡ u = (same_from_push ts us t u (sym same)).1 in
      ap (λ x. UnrecognizedEof x.loc.end first) last ∙ ap (UnrecognizedEof u.loc.end) once.1

  pub one_syntax_fault_from : (fault other : SyntaxFault) → IsSyntaxFault text fault → IsSyntaxFault text other
      → fault ≡ other
  one_syntax_fault_from fault other (unrecognized_token ts at p t s g f) (unrecognized_token us bt q u s2 g2 f2) =
      token_token ts us at bt p q t u s g f s2 g2 f2
  one_syntax_fault_from fault other (unrecognized_token ts at p t s g f) (invalid_token us bt s2 lt v) =
      absurd (token_invalid ts us at bt p t s g f s2 v)
  one_syntax_fault_from fault other (unrecognized_token ts at p t s g f) (unrecognized_eof us u s2 f2) =
      absurd (token_end ts (us ++ u ∷ []) at (length text) p t s g f s2 f2)
  one_syntax_fault_from fault other (invalid_token us bt s2 lt v) (unrecognized_token ts at p t s g f) =
      absurd (token_invalid ts us at bt p t s g f s2 v)
  one_syntax_fault_from fault other (invalid_token us bt s2 lt v) (invalid_token ts at s h w) =
      ap InvalidToken ((scan_once text us ts bt at s2 s).1)
  one_syntax_fault_from fault other (invalid_token us bt s2 lt v) (unrecognized_eof ts t s f) =
      absurd (invalid_end scan_once text us (ts ++ t ∷ []) bt (length text) s2 lt s refl)
  one_syntax_fault_from fault other (unrecognized_eof us u s2 f2) (unrecognized_token ts at p t s g f) =
      absurd (token_end ts (us ++ u ∷ []) at (length text) p t s g f s2 f2)
  one_syntax_fault_from fault other (unrecognized_eof ts t s f) (invalid_token us bt s2 lt v) =
      absurd (invalid_end scan_once text us (ts ++ t ∷ []) bt (length text) s2 lt s refl)
  one_syntax_fault_from fault other (unrecognized_eof ts t s f) (unrecognized_eof us u s2 f2) =
      end_end ts us t u s f s2 f2

-- a text that is a sentence has no fault
pub faulty_or_sentence_from : OneScan → (text : List ℕ) (fault : SyntaxFault) → IsSyntaxFault text fault
    → IsSentence text → ⊥
faulty_or_sentence_from scan_once text fault (unrecognized_token ts at p t s g f) h =
    f.no_sentence (subst (λ x. Sentence (kinds_of x))
    (scan_once text h.tokens ts (length text) at h.scans s).0 h.sentence)
faulty_or_sentence_from scan_once text fault (invalid_token ts at s lt v) h =
    invalid_end scan_once text ts h.tokens at (length text) s lt h.scans refl
faulty_or_sentence_from scan_once text fault (unrecognized_eof ts t s f) h =
    f.no_sentence (subst (λ x. Sentence (kinds_of x))
    (scan_once text h.tokens (ts ++ t ∷ []) (length text) (length text) h.scans s).0 h.sentence)
