-- The walk over kinds finds a place that is too deep exactly where there is one.
use Rattle.std.proofs.Common.{◌≡◌, ◌+◌, ◌<◌, ◌≤◌, ◌++◌, ◌↔◌, ◌∙◌, ℕ, Bool, true, false, nat_lt, List, [], ◌∷◌, refl}
use Rattle.std.proofs.Common.{sym, ap, arith}
use Rattle.std.proofs.Common.{inl, inr}
use Rattle.std.proofs.lemmas.Bool.{cases_Bool, ltb-true, ltb-false, cond-true, cond-false, false≢true}
use Rattle.std.specs.Prelude.{if◌then◌else◌}
use Rattle.schema_syntax_grammar.specs.declared.token_kind.TokenKind.{TokenKind}
use Rattle.schema_syntax.specs.Nesting.{opens, closes, number_of, IsTooDeep}
use Rattle.schema_syntax.specs.declared.nesting.TheConstants.{DEEPEST}

abbrev pub one : Bool → ℕ
one b = if b then 1 else 0

-- whether such a place comes, where so many brackets were opened and closed before
abbrev pub deep_from : ℕ → ℕ → List TokenKind → Bool
deep_from opened closed [] = false
deep_from opened closed (kind ∷ kinds) =
    if nat_lt (closed + one (closes kind) + DEEPEST) (opened + one (opens kind)) then true
    else deep_from (opened + one (opens kind)) (closed + one (closes kind)) kinds

-- a place that is found is too deep
found : (kinds : List TokenKind) (o c : ℕ) → deep_from o c kinds ≡ true
    → (front rest : List TokenKind) × (kinds ≡ front ++ rest)
    × (c + number_of closes front + DEEPEST < o + number_of opens front)
found [] o c h = absurd (false≢true h)
found (k ∷ ks) o c h = elim (cases_Bool (nat_lt (c + one (closes k) + DEEPEST) (o + one (opens k)))) [
  | inl t ↦ (k ∷ [], ks, refl, omega (arith, ltb-true (c + one (closes k) + DEEPEST) (o + one (opens k)) t))
  | inr f ↦ let r = found ks (o + one (opens k)) (c + one (closes k)) (sym (cond-false _ true _ f) ∙ h) in
      (k ∷ r.0, r.1, ap (λ x. k ∷ x) r.2, omega (arith, r.3))
]

-- a place that is too deep is found
finds : (front rest : List TokenKind) (o c : ℕ) → o ≤ c + DEEPEST
    → c + number_of closes front + DEEPEST < o + number_of opens front → deep_from o c (front ++ rest) ≡ true
finds [] rest o c le lt = absurd (omega arith)
finds (k ∷ ks) rest o c le lt = elim (cases_Bool (nat_lt (c + one (closes k) + DEEPEST) (o + one (opens k)))) [
  | inl t ↦ cond-true _ true _ t
  | inr f ↦ cond-false _ true _ f ∙ finds ks rest (o + one (opens k)) (c + one (closes k))
      (ltb-false (c + one (closes k) + DEEPEST) (o + one (opens k)) f) (omega arith)
]

pub deep_found : (kinds : List TokenKind) → deep_from 0 0 kinds ≡ true → IsTooDeep kinds
deep_found kinds h = let r = found kinds 0 0 h in
    record { front = r.0; rest = r.1; place = r.2; deep = omega (arith, r.3) }

pub deep_finds : (kinds : List TokenKind) → IsTooDeep kinds → deep_from 0 0 kinds ≡ true
deep_finds kinds d = ap (deep_from 0 0) d.place ∙ finds d.front d.rest 0 0 (omega arith) (omega (arith, d.deep))
