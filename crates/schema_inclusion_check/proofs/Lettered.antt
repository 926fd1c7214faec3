-- Texts of the letter `a` alone.
use Rattle.std.proofs.Common.{◌≡◌, ℕ, zero, suc, ◌+◌, ◌<◌, ◌≤◌, true, false, List, [], ◌∷◌, ◌++◌, length, refl, sym, ap}
use Rattle.std.proofs.Common.{◌∙◌, inl, inr, arith, add-one}
use Rattle.std.specs.Str.{chars}
use Rattle.std.proofs.lemmas.Bool.{cases_eq}
use Rattle.schema_inclusion_values.specs.Ids.{letters, has_text, IsLeastUnused}

pub letter_a : chars (97 ∷ []) ≡ 97 ∷ []
unfolding chars
letter_a = refl

one_letter_more : (n : ℕ) → letters n ++ 97 ∷ [] ≡ letters (suc n)
one_letter_more zero = refl
one_letter_more (suc n) = ap (λ l. 97 ∷ l) (one_letter_more n)

so_many : (n : ℕ) → length (letters n) ≡ n
so_many zero = refl
so_many (suc n) = ap suc (so_many n)

-- one letter behind such a text
pub next_lettered : (id new : List ℕ) → id ≡ letters (length id) → new ≡ id ++ 97 ∷ []
    → (new ≡ letters (length new)) × (length new ≡ length id + 1)
next_lettered id new lettered more =
    let is : new ≡ letters (suc (length id)) = more ∙ (ap (λ l. l ++ 97 ∷ []) lettered ∙ one_letter_more (length id)) in
    let many : length new ≡ suc (length id) = ap length is ∙ so_many (suc (length id)) in
    (is ∙ ap letters (sym many), omega (arith, many))

-- one that is there is shorter than the least that is not
pub still_shorter : (cs : List (List ℕ)) (id : List ℕ) (u : ℕ) → IsLeastUnused cs u → id ≡ letters (length id)
    → length id ≤ u → has_text cs id ≡ true → length id < u
still_shorter cs id u least lettered few there = elim (cases_eq (length id) u) [
  | inl same ↦ absurd (
      let no : true ≡ false = sym there ∙ (ap (has_text cs) (lettered ∙ ap letters same) ∙ least.0) in cc)
  | inr other ↦ omega arith
]
