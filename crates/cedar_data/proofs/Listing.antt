-- Texts in a row, one more at a time.
use Rattle.std.proofs.Common.{◌≡◌, ℕ, true, List, [], ◌∷◌, ◌++◌, map, refl, ap, ◌∙◌, append_assoc}
use Rattle.std.specs.List.{list_all}
use Rattle.std.specs.Char.{is_ascii}
use Rattle.std.specs.Str.{chars}
use Rattle.std.proofs.lemmas.List.{append-nil}
use Rattle.cedar_data.specs.Rows.{joined_by, listed, separator}
use Rattle.cedar_data.proofs.Ascii.{chars-from_test}

module _ (between before_last : List ℕ) where
  separator_ascii : (texts : List (List ℕ)) → list_all is_ascii between ≡ true → list_all is_ascii before_last ≡ true
      → list_all is_ascii (separator between before_last texts) ≡ true
  separator_ascii [] b l = refl
  separator_ascii (text ∷ []) b l = l
  separator_ascii (text ∷ next ∷ texts) b l = b

  -- a text, what stands behind it, and the others
  one_more : (text : List ℕ) (texts : List (List ℕ))
      → text ++ (separator between before_last texts ++ listed between before_last texts)
      ≡ listed between before_last (text ∷ texts)
  one_more text [] = append-nil text
  one_more text (last ∷ []) = refl
  one_more text (next ∷ more ∷ texts) = refl

  pub row_more : (text : List ℕ) (texts : List (List ℕ)) (list : List ℕ) → list_all is_ascii between ≡ true
      → list_all is_ascii before_last ≡ true
      → ((list ++ text) ++ chars (separator between before_last texts)) ++ listed between before_last texts ≡ list
      ++ listed between before_last (text ∷ texts)
  row_more text texts list b l =
      ap (λ s. ((list ++ text) ++ s) ++ listed between before_last texts)
      (chars-from_test (separator between before_last texts) (separator_ascii texts b l))
      ∙ append_assoc (list ++ text) (separator between before_last texts) (listed between before_last texts)
      ∙ append_assoc list text (separator between before_last texts ++ listed between before_last texts)
      ∙ ap (λ row. list ++ row) (one_more text texts)

-- a row with the same text between any two
pub listed_alike : (between : List ℕ) (texts : List (List ℕ)) → listed between between texts ≡ joined_by between texts
listed_alike between [] = refl
listed_alike between (text ∷ []) = refl
listed_alike between (text ∷ last ∷ []) = refl
listed_alike between (text ∷ next ∷ more ∷ texts) =
    ap (λ row. text ++ (between ++ row)) (listed_alike between (next ∷ more ∷ texts))

-- what stands before items is what stands before their texts
pub separator_of : {A : Type 0} (between before_last : List ℕ) (f : A → List ℕ) (xs : List A)
    → separator between before_last (map f xs) ≡ separator between before_last xs
separator_of between before_last f [] = refl
separator_of between before_last f (x ∷ []) = refl
separator_of between before_last f (x ∷ y ∷ xs) = refl
