-- Which of the two candidates of a word is the first that passes.
use Rattle.std.proofs.Common.{◌≡◌, ℕ, Bool, true, false, List, [], ◌∷◌, ◌++◌, cond, find, Option, Some}
use Rattle.std.proofs.Common.{None}
use Rattle.std.proofs.Common.{sym, ap, ◌∙◌, inl, inr}
use Rattle.std.specs.Prelude.{◌⊎◌}
use Rattle.std.proofs.lemmas.Bool.{cases_Bool}
use Rattle.std.proofs.lemmas.List.{append_cancel_right}
use Rattle.std.proofs.lemmas.Option.{same_Some}

abbrev Words : Type 0
Words = List (List ℕ)

module _ (p : Words → Bool) (ns : Words) (w : List ℕ) where
  abbrev pub first_of : Option Words
  first_of = find p ((ns ++ w ∷ []) ∷ (w ∷ []) ∷ [])

  -- the one behind the namespace
  pub first_own : p (ns ++ w ∷ []) ≡ true → first_of ≡ Some (ns ++ w ∷ [])
  first_own h = ap (λ b. cond b (Some (ns ++ w ∷ [])) (find p ((w ∷ []) ∷ []))) h

  -- the word alone
  pub first_alone : p (ns ++ w ∷ []) ≡ false → p (w ∷ []) ≡ true → first_of ≡ Some (w ∷ [])
  first_alone h k = ap (λ b. cond b (Some (ns ++ w ∷ [])) (find p ((w ∷ []) ∷ []))) h
      ∙ ap (λ b. cond b (Some (w ∷ [])) None) k

  pub first_none : p (ns ++ w ∷ []) ≡ false → p (w ∷ []) ≡ false → first_of ≡ None
  first_none h k = ap (λ b. cond b (Some (ns ++ w ∷ [])) (find p ((w ∷ []) ∷ []))) h
      ∙ ap (λ b. cond b (Some (w ∷ [])) None) k

  -- no other
  pub first_is : (name : Words) → first_of ≡ Some name → (name ≡ ns ++ w ∷ []) ⊎ (name ≡ w ∷ [])
  first_is name h = elim (cases_Bool (p (ns ++ w ∷ []))) [
    | inl own ↦ inl (same_Some name (ns ++ w ∷ []) (sym h ∙ first_own own))
    | inr not_own ↦ elim (cases_Bool (p (w ∷ []))) [
      | inl alone ↦ inr (same_Some name (w ∷ []) (sym h ∙ first_alone not_own alone))
      | inr neither ↦ (let e : Some name ≡ None = sym h ∙ first_none not_own neither in absurd (cc))
    ]
  ]

-- a name in a namespace has more than one word
pub longer : (x : List ℕ) (xs : Words) (w v : List ℕ) → v ∷ [] ≡ (x ∷ xs) ++ w ∷ [] → ⊥
longer x [] w v e = cc
longer x (y ∷ ys) w v e = cc

module _ (p : Words → Bool) (ns : Words) (w : List ℕ) where
  -- of a name in another namespace, the word alone is no candidate
  pub first_of_other : (x : List ℕ) (xs : Words) → (x ∷ xs ≡ ns → ⊥)
      → first_of p ns w ≡ Some ((x ∷ xs) ++ w ∷ []) → ⊥
  first_of_other x xs other h = elim (first_is p ns w ((x ∷ xs) ++ w ∷ []) h) [
    | inl own ↦ other (append_cancel_right (x ∷ xs) ns (w ∷ []) own)
    | inr alone ↦ longer x xs w w (sym alone)
  ]

  -- and a name without a namespace is hidden by one behind the namespace
  pub first_hidden : ([] ≡ ns → ⊥) → p (ns ++ w ∷ []) ≡ true → first_of p ns w ≡ Some (w ∷ []) → ⊥
  first_hidden other h e =
      let same : ns ++ w ∷ [] ≡ w ∷ [] = same_Some (ns ++ w ∷ []) (w ∷ []) (sym (first_own p ns w h) ∙ e) in
      other (sym (append_cancel_right ns [] (w ∷ []) same))
