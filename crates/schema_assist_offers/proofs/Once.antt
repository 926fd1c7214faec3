-- Texts in order, each once.
use Rattle.std.proofs.Common.{◌≡◌, ℕ, Bool, true, List, Contains, sym, subst}
use Rattle.std.specs.Prelude.{◌↔◌, nat_eq}
use Rattle.std.specs.Cmp.{IsTotalOrder, IsEquivalence, on_total, on_equiv}
use Rattle.std.specs.Cmp.Lexicographic.{pointwise}
use Rattle.std.specs.List.{dedup}
use Rattle.std.specs.List.Sorted.{IsStrictlySortedBy, IsPermutation, IsSorted}
use Rattle.std.specs.Ordering.{on, eq_by_cmp}
use Rattle.std.specs.Str.{encode_utf8_all}
use Rattle.std.proofs.lemmas.Cmp.{nat_list_cmp_total, nat_list_eq_equiv}
use Rattle.std.proofs.lemmas.List.Kept.{IsStrictlySortedBy-dedup, Contains-dedup, Contains-from_dedup}
use Rattle.std.proofs.lemmas.List.Sorted.{Contains-permutation, IsPermutation-sym}
use Rattle.std.proofs.lemmas.Map.Text.{is_eq-slice_cmp}
use Rattle.std.proofs.lemmas.Slice.Eq.{bytes_eq-Decides}
use Rattle.std.proofs.lemmas.Str.{encodes_same}
use Rattle.cedar_data.specs.Text.{text_cmp}

-- texts of the same bytes
abbrev pub same_text : List ℕ → List ℕ → Bool
same_text = on encode_utf8_all (pointwise nat_eq)

text_total : IsTotalOrder text_cmp
text_total = on_total encode_utf8_all nat_list_cmp_total

text_equiv : IsEquivalence same_text
text_equiv = on_equiv encode_utf8_all nat_list_eq_equiv

text_ties : (x y : List ℕ) → same_text x y ≡ eq_by_cmp text_cmp x y
text_ties x y = sym (is_eq-slice_cmp (encode_utf8_all x) (encode_utf8_all y))

text_same : (x y : List ℕ) → same_text x y ≡ true → x ≡ y
text_same x y h = encodes_same x y ((bytes_eq-Decides (encode_utf8_all x) (encode_utf8_all y)).0 h)

module _ (old sorted new : List (List ℕ)) (moved : IsPermutation old sorted) (is : new ≡ dedup same_text sorted) where
  pub rises_once : IsSorted text_cmp sorted → IsStrictlySortedBy text_cmp new
  rises_once h = subst (λ xs. IsStrictlySortedBy text_cmp xs) (sym is)
      (IsStrictlySortedBy-dedup text_total text_ties sorted h)

  pub same_once : (s : List ℕ) → (Contains new s ↔ Contains old s)
  same_once s = (
    λ h. Contains-permutation sorted old s (IsPermutation-sym old sorted moved)
        (Contains-from_dedup same_text sorted s (subst (λ xs. Contains xs s) is h)),
    λ h. subst (λ xs. Contains xs s) (sym is)
        (Contains-dedup text_equiv text_same sorted s (Contains-permutation old sorted s moved h)),
  )
