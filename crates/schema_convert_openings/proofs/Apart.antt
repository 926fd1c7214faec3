-- Items of which no two are the same have no repeat.
use Rattle.std.proofs.Common.{◌≡◌, ◌+◌, ◌<◌, ℕ, Bool, true, false, cond, List, [], ◌∷◌, ◌++◌, length, get_or, map}
use Rattle.std.proofs.Common.{Option}
use Rattle.std.proofs.Common.{Some, None, refl, sym, ap, ◌∙◌, subst}
use Rattle.std.specs.Cmp.{IsTotalOrder}
use Rattle.std.specs.List.{AllByRecursion, IsDistinct}
use Rattle.std.specs.List.Sorted.{IsPermutation, IsStrictlySortedBy}
use Rattle.std.specs.Ordering.{eq_by_cmp, is_eq, nat_cmp}
use Rattle.std.specs.declared.cmp.Ordering.{Ordering}
use Rattle.std.specs.declared.cmp.Ordering.TheVariants.{Less, Equal, Greater}
use Rattle.std.proofs.lemmas.Cmp.{nat_cmp_total, tied_itself}
use Rattle.std.proofs.lemmas.List.{map-append}
use Rattle.std.proofs.lemmas.List.Sorted.{IsPermutation-sym}
use Rattle.std.proofs.lemmas.Map.Keys.{IsDistinct-from_sorted, IsDistinct-IsPermutation, sorted_from_all_adjacent}
use Rattle.cedar_data.proofs.Orders.{is_eq_turned}
use Rattle.schema_convert_openings.specs.Repeats.{first_repeat, same_among, or_later, repeat_behind}

-- items each of which is less than the next
pub rising : {K : Type 0} (R : K → K → Ordering) (o : IsTotalOrder R) (items : List K)
    → ((k : ℕ) (d : K) → k + 1 < length items → R (get_or items k d) (get_or items (k + 1) d) ≡ Less)
    → IsStrictlySortedBy R items
unfolding IsStrictlySortedBy
rising R o [] h = tt
rising R o (x ∷ xs) h = sorted_from_all_adjacent o (x ∷ xs) x (λ k lt. h k x lt)

module _ {K : Type 0} (R : K → K → Ordering) (o : IsTotalOrder R) where
  flips : (x y : K) → eq_by_cmp R x y ≡ eq_by_cmp R y x
  flips x y = is_eq_turned o x y

  -- none of the later items is the same as one of those that are done
  abbrev AreOther : List K → List K → Type 0
  AreOther done xs = AllByRecursion (λ d. AllByRecursion (λ y. eq_by_cmp R d y ≡ false) xs) done

  none_same : (done : List K) (x : K) (xs : List K) → AreOther done (x ∷ xs) → same_among R x done ≡ None
  none_same [] x xs h = refl
  none_same (d ∷ done) x xs h =
      let other : eq_by_cmp R x d ≡ false = flips x d ∙ h.0.0 in
      rw other (none_same done x xs h.1)

  rest_other : (done : List K) (x : K) (xs : List K) → AreOther done (x ∷ xs) → AreOther done xs
  rest_other [] x xs h = tt
  rest_other (d ∷ done) x xs h = (h.0.1, rest_other done x xs h.1)

  one_more : (done : List K) (x : K) (xs : List K) → AreOther done xs → AllByRecursion (λ y. eq_by_cmp R x y ≡ false) xs
      → AreOther (done ++ x ∷ []) xs
  one_more [] x xs h here = (here, tt)
  one_more (d ∷ done) x xs h here = (h.0, one_more done x xs h.1 here)

  none_behind : (done xs : List K) → AreOther done xs → IsDistinct (eq_by_cmp R) xs → repeat_behind R done xs ≡ None
  unfolding IsDistinct
  none_behind done [] h apart = refl
  none_behind done (x ∷ xs) h apart =
      ap (λ o. or_later o x (repeat_behind R (done ++ x ∷ []) xs)) (none_same done x xs h)
      ∙ none_behind (done ++ x ∷ []) xs (one_more done x xs (rest_other done x xs h) apart.0) apart.1

  pub none_repeats : (items sorted : List K) → IsPermutation items sorted → IsStrictlySortedBy R sorted
      → first_repeat R items ≡ None
  none_repeats items sorted moved rises =
      none_behind [] items tt
      (IsDistinct-IsPermutation (eq_by_cmp R) flips sorted items (IsPermutation-sym items sorted moved)
      (IsDistinct-from_sorted R sorted rises))

or_first : {K : Type 0} (o : Option K) (x : K) (later : Option (K × K)) → or_later o x later ≡ None → o ≡ None
or_first (Some y) x later h = cc
or_first None x later h = refl

or_rest : {K : Type 0} (o : Option K) (x : K) (later : Option (K × K)) → or_later o x later ≡ None → later ≡ None
or_rest (Some y) x later h = cc
or_rest None x later h = h

-- items are apart where numbers are that the same items have in common
module _ {K : Type 0} (R : K → K → Ordering) (number : K → ℕ)
    (alike : (x y : K) → R x y ≡ Equal → number x ≡ number y) where
  none_alike : (x : K) (ys : List K) → same_among nat_cmp (number x) (map number ys) ≡ None
      → same_among R x ys ≡ None
  none_alike x [] h = refl
  none_alike x (y ∷ ys) h = by (none_alike x ys) (R x y) refl
    where
      numbered : (o : Ordering) → nat_cmp (number x) (number y) ≡ o → is_eq o ≡ true → Some (number y) ≡ None
      numbered o is e =
          ap (λ b. cond b (Some (number y)) (same_among nat_cmp (number x) (map number ys)))
          (sym (ap is_eq is ∙ e)) ∙ h

      rest : is_eq (nat_cmp (number x) (number y)) ≡ false → same_among nat_cmp (number x) (map number ys) ≡ None
      rest e =
          ap (λ b. cond b (Some (number y)) (same_among nat_cmp (number x) (map number ys))) (sym e) ∙ h

      other : (b : Bool) → is_eq (nat_cmp (number x) (number y)) ≡ b → same_among nat_cmp (number x)
          (map number ys) ≡ None
      other true e = absurd (let no : Some (number y) ≡ None = numbered (nat_cmp (number x) (number y)) refl e in cc)
      other false e = rest e

      by : (same_among nat_cmp (number x) (map number ys) ≡ None → same_among R x ys ≡ None) → (o : Ordering)
          → R x y ≡ o → cond (is_eq o) (Some y) (same_among R x ys) ≡ None
      by more Less e = more (other (is_eq (nat_cmp (number x) (number y))) refl)
      by more Greater e = more (other (is_eq (nat_cmp (number x) (number y))) refl)
      by more Equal e =
          absurd (let same : nat_cmp (number x) (number y) ≡ Equal =
          subst (λ n. nat_cmp (number x) n ≡ Equal) (alike x y e) (tied_itself nat_cmp_total (number x)) in
          let no : Some (number y) ≡ None = numbered Equal same refl in cc)

  none_behind_numbers : (before items : List K) → repeat_behind nat_cmp (map number before) (map number items) ≡ None
      → repeat_behind R before items ≡ None
  none_behind_numbers before [] h = refl
  none_behind_numbers before (x ∷ xs) h =
      let among = same_among nat_cmp (number x) (map number before) in
      let later = repeat_behind nat_cmp (map number before ++ number x ∷ []) (map number xs) in
      ap (λ o. or_later o x (repeat_behind R (before ++ x ∷ []) xs))
      (none_alike x before (or_first among (number x) later h))
      ∙ none_behind_numbers (before ++ x ∷ []) xs
      (subst (λ l. repeat_behind nat_cmp l (map number xs) ≡ None) (sym (map-append number before (x ∷ [])))
      (or_rest among (number x) later h))

  pub none_by_numbers : (items : List K) → first_repeat nat_cmp (map number items) ≡ None
      → first_repeat R items ≡ None
  none_by_numbers items h = none_behind_numbers [] items h
