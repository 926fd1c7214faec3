-- The walk over bytes finds a place that is too deep exactly where there is one.
use Rattle.std.proofs.Common.{◌≡◌, ◌+◌, ◌<◌, ◌≤◌, ◌++◌, ◌∙◌, ◌&&◌, ℕ, Bool, true, false, nat_lt, List, [], ◌∷◌, refl}
use Rattle.std.proofs.Common.{sym, ap, arith}
use Rattle.std.proofs.Common.{inl, inr}
use Rattle.std.proofs.lemmas.Bool.{cases_Bool, ltb-true, ltb-false, cond-true, cond-false, false≢true}
use Rattle.std.specs.Prelude.{if◌then◌else◌}
use Rattle.cedar_nesting.specs.Nesting.{past, is_outside, opens, closes, number_of, IsTooDeep}
use Rattle.cedar_nesting.specs.declared.nesting.Place.{Place}
use Rattle.cedar_nesting.specs.declared.nesting.Place.TheVariants.{Outside}
use Rattle.cedar_nesting.specs.declared.nesting.TheConstants.{DEEPEST}

-- one, where the byte stands outside and is such
abbrev pub one : (ℕ → Bool) → Place → ℕ → ℕ
one is_such place b = if (is_outside place && is_such b) then 1 else 0

-- whether such a place comes, where so many brackets were opened and closed before
abbrev pub deep_from : Place → ℕ → ℕ → List ℕ → Bool
deep_from place opened closed [] = false
deep_from place opened closed (b ∷ bs) =
    if nat_lt (closed + one closes place b + DEEPEST) (opened + one opens place b) then true
    else deep_from (past place b) (opened + one opens place b) (closed + one closes place b) bs

-- a place that is found is too deep
found : (bytes : List ℕ) (p : Place) (o c : ℕ) → deep_from p o c bytes ≡ true
    → (front rest : List ℕ) × (bytes ≡ front ++ rest)
    × (c + number_of closes p front + DEEPEST < o + number_of opens p front)
found [] p o c h = absurd (false≢true h)
found (b ∷ bs) p o c h = elim (cases_Bool (nat_lt (c + one closes p b + DEEPEST) (o + one opens p b))) [
  | inl t ↦ (b ∷ [], bs, refl, omega (arith, ltb-true (c + one closes p b + DEEPEST) (o + one opens p b) t))
  | inr f ↦ let r = found bs (past p b) (o + one opens p b) (c + one closes p b)
      (sym (cond-false _ true _ f) ∙ h) in
      (b ∷ r.0, r.1, ap (λ x. b ∷ x) r.2, omega (arith, r.3))
]

-- a place that is too deep is found
finds : (front rest : List ℕ) (p : Place) (o c : ℕ) → o ≤ c + DEEPEST
    → c + number_of closes p front + DEEPEST < o + number_of opens p front → deep_from p o c (front ++ rest) ≡ true
finds [] rest p o c le lt = absurd (omega arith)
finds (b ∷ bs) rest p o c le lt = elim (cases_Bool (nat_lt (c + one closes p b + DEEPEST) (o + one opens p b))) [
  | inl t ↦ cond-true _ true _ t
  | inr f ↦ cond-false _ true _ f ∙ finds bs rest (past p b) (o + one opens p b) (c + one closes p b)
      (ltb-false (c + one closes p b + DEEPEST) (o + one opens p b) f) (omega arith)
]

pub deep_found : (bytes : List ℕ) → deep_from Outside 0 0 bytes ≡ true → IsTooDeep bytes
deep_found bytes h = let r = found bytes Outside 0 0 h in
    record { front = r.0; rest = r.1; place = r.2; deep = omega (arith, r.3) }

pub deep_finds : (bytes : List ℕ) → IsTooDeep bytes → deep_from Outside 0 0 bytes ≡ true
deep_finds bytes d =
    ap (deep_from Outside 0 0) d.place ∙ finds d.front d.rest Outside 0 0 (omega arith) (omega (arith, d.deep))
