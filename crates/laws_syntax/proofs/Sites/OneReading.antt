-- Two derivations of the same kinds read each kind alike, since they pick the same of all tokens with these kinds.
use Rattle.std.proofs.Common.{◌≡◌, ℕ, Bool, true, false, List, [], ◌∷◌, map, arith, refl, sym, ap, ◌∙◌}
use Rattle.schema_syntax_grammar.specs.declared.token_kind.TokenKind.{TokenKind}
use Rattle.schema_syntax_grammar.specs.Grammar.{Kinds, Sentence}
use Rattle.schema_syntax_tokens.specs.declared.token.Token.{Token}
use Rattle.schema_syntax_tokens.specs.TokenLists.{kinds_of}
use Rattle.laws_syntax.specs.Sites.Readings.{reads, picked, AreReadings, none, text, itself}
use Rattle.laws_syntax.proofs.Sites.ReadingForms.{readings}
use Rattle.laws_syntax.proofs.Sites.ExactSites.{one_picking}

-- a token of the kind that starts at this byte
abbrev token_at : ℕ → TokenKind → Token
token_at start k = record { kind = k; loc = record { start = start; end = start } }

some_tokens : (kinds : Kinds) → kinds_of (map (token_at 0) kinds) ≡ kinds
some_tokens [] = refl
some_tokens (k ∷ kinds) = ap (λ l. k ∷ l) (some_tokens kinds)

abbrev start_of : List Token → ℕ
start_of [] = 0
start_of (t ∷ u) = t.loc.start

-- what is picked begins with the first token, wherever it stands, or not
apart : (k : TokenKind) (a b : List Token) → ((t : Token) → t.kind ≡ k → t ∷ a ≡ b) → ⊥
apart k a b h =
    let same : ◌≡◌ {A = ℕ} 0 1 = ap start_of (h (token_at 0 k) refl ∙ sym (h (token_at 1 k) refl)) in
    omega arith

abbrev PickSame : List Bool → List Bool → Kinds → Type 0
PickSame c d kinds = (u : List Token) → kinds_of u ≡ kinds → picked c u ≡ picked d u

rest_same : (t : Token) (a b : List Token) → t ∷ a ≡ t ∷ b → a ≡ b
rest_same t a b e = cc

as_head : (k : TokenKind) (kinds : Kinds) (t : Token) → t.kind ≡ k
    → kinds_of (t ∷ map (token_at 0) kinds) ≡ k ∷ kinds
as_head k kinds t e = λ i. e i ∷ some_tokens kinds i

same_readings : {c d : List Bool} {kinds : Kinds} → AreReadings c kinds → AreReadings d kinds → PickSame c d kinds
    → c ≡ d
same_readings none none h = refl
same_readings (text {k = k} {bits = c} p r) (text {bits = d} q s) h =
    ap (λ l. true ∷ l) (same_readings r s (λ u e.
    rest_same (token_at 0 k) (picked c u) (picked d u) (h (token_at 0 k ∷ u) (ap (λ l. k ∷ l) e))))
same_readings (text {k = k} {bits = c} {kinds = kinds} p r) (itself {bits = d} q s) h =
    let u = map (token_at 0) kinds in
    absurd (apart k (picked c u) (picked d u) (λ t e. h (t ∷ u) (as_head k kinds t e)))
same_readings (itself {k = k} {bits = c} {kinds = kinds} p r) (text {bits = d} q s) h =
    let u = map (token_at 0) kinds in
    absurd (apart k (picked d u) (picked c u) (λ t e. sym (h (t ∷ u) (as_head k kinds t e))))
same_readings (itself {k = k} p r) (itself q s) h =
    ap (λ l. false ∷ l) (same_readings r s (λ u e. h (token_at 0 k ∷ u) (ap (λ l. k ∷ l) e)))

pub one_reading : (kinds : Kinds) (d e : Sentence kinds) → reads d ≡ reads e
one_reading kinds d e = same_readings (readings d) (readings e) (one_picking d e)
