-- Namespaces that rise, on the two sides of one of them.
use Rattle.std.proofs.Common.{◌≡◌, ℕ, true, false, not, List, [], ◌∷◌, ◌++◌, ap, ◌∙◌}
use Rattle.std.specs.declared.cmp.Ordering.{Ordering}
use Rattle.std.specs.declared.cmp.Ordering.TheVariants.{Less}
use Rattle.std.specs.Ordering.{is_lt, ordering_reverse}
use Rattle.std.specs.Cmp.Lexicographic.{slice_cmp}
use Rattle.std.specs.List.{AllByRecursion}
use Rattle.std.specs.List.Sorted.{IsStrictlySortedBy}
use Rattle.std.proofs.lemmas.Cmp.{tied_itself}
use Rattle.cedar_data.specs.Text.{text_cmp}
use Rattle.cedar_data.proofs.Orders.{texts_total}
use Rattle.cedar_data.proofs.Every.{all_front, all_back}
use Rattle.schema_build_recovered.specs.Places.{on_side}

abbrev C : List (List ℕ) → List (List ℕ) → Ordering
C = slice_cmp text_cmp

abbrev pub IsRising : List (List (List ℕ)) → Type 0
IsRising = IsStrictlySortedBy C

pub front_rises : (xs us : List (List (List ℕ))) → IsRising (xs ++ us) → IsRising xs
unfolding IsStrictlySortedBy
front_rises [] us r = tt
front_rises (x ∷ xs) us r = (all_front (λ y. C x y ≡ Less) xs us r.0, front_rises xs us r.1)

pub back_rises : (xs us : List (List (List ℕ))) → IsRising (xs ++ us) → IsRising us
unfolding IsStrictlySortedBy
back_rises [] us r = r
back_rises (x ∷ xs) us r = back_rises xs us r.1

-- those before one are below it
pub front_below : (xs : List (List (List ℕ))) (p : List (List ℕ)) (us : List (List (List ℕ)))
    → IsRising (xs ++ p ∷ us) → AllByRecursion (λ n. on_side true p n ≡ true) xs
unfolding IsStrictlySortedBy
front_below [] p us r = tt
front_below (x ∷ xs) p us r =
    let all = all_back (λ y. C x y ≡ Less) xs (p ∷ us) r.0 in
    (ap is_lt all.0, front_below xs p us r.1)

above : (p : List (List ℕ)) (us : List (List (List ℕ))) → AllByRecursion (λ y. C p y ≡ Less) us
    → AllByRecursion (λ n. on_side false p n ≡ true) us
above p [] a = tt
above p (n ∷ us) a =
    (ap (λ o. not (is_lt o)) (texts_total.antisymm n p ∙ ap ordering_reverse a.0), above p us a.1)

-- and those from it on are not
pub back_above : (p : List (List ℕ)) (us : List (List (List ℕ))) → IsRising (p ∷ us)
    → AllByRecursion (λ n. on_side false p n ≡ true) (p ∷ us)
unfolding IsStrictlySortedBy
back_above p us r = (ap (λ o. not (is_lt o)) (tied_itself texts_total p), above p us r.0)
