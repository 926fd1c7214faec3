-- Items that go into groups, one after the other.
use Rattle.std.proofs.Common.{◌≡◌, ℕ, zero, suc, ◌<◌, Bool, true, false, not, ◌||◌, cond, List, [], ◌∷◌, ◌++◌, length}
use Rattle.std.proofs.Common.{get_or, set, map, filter, Option, Some, None, refl, sym, ap, ◌∙◌, append_assoc}
use Rattle.std.proofs.Common.{append-nil, arith, true≢false}
use Rattle.std.specs.declared.cmp.Ordering.{Ordering}
use Rattle.std.specs.Ordering.{is_eq}
use Rattle.std.specs.BTreeMap.{is_at}
use Rattle.std.specs.Cmp.{IsTotalOrder, tied_itself}
use Rattle.std.specs.List.{list_any}
use Rattle.std.specs.Map.{lookup}
use Rattle.std.specs.Option.{option_or, option_map}
use Rattle.std.proofs.lemmas.List.{map-append, length-map}
use Rattle.std.proofs.lemmas.List.Elements.{filter-append}
use Rattle.std.proofs.lemmas.Bool.{or_parts}
use Rattle.std.proofs.lemmas.Option.{same_Some}
use Rattle.std.proofs.Math.Bool.{not-not}
use Rattle.cedar_data.proofs.Options.{or_none}
use Rattle.cedar_data.proofs.Orders.{equal_from, is_eq_turned}
use Rattle.schema_convert_openings.specs.Joined.{first_of_each}

-- where the first item stands that passes the test
abbrev pub place_of : {N : Type 0} → (N → Bool) → List N → Option ℕ
place_of test [] = None
place_of test (x ∷ xs) = cond (test x) (Some 0) (option_map suc (place_of test xs))

-- none of the items is the same as one before it
abbrev pub AreApart : {N : Type 0} → (N → N → Bool) → List N → Type 0
AreApart same [] = Unit {0}
AreApart same (x ∷ xs) = (list_any (same x) xs ≡ false) × AreApart same xs

none_not : (i : ℕ) → None ≡ Some i → true ≡ false
none_not i h = cc

zero_not : (i : ℕ) → Some 0 ≡ Some (suc i) → true ≡ false
zero_not i h = let e : 0 ≡ suc i = same_Some 0 (suc i) h in absurd (omega arith)

not_zero : (o : Option ℕ) → option_map suc o ≡ Some 0 → true ≡ false
not_zero None h = cc
not_zero (Some j) h = let e : suc j ≡ 0 = same_Some (suc j) 0 h in absurd (omega arith)

behind_suc : (o : Option ℕ) (i : ℕ) → option_map suc o ≡ Some (suc i) → o ≡ Some i
behind_suc None i h = cc
behind_suc (Some j) i h =
    let e : suc j ≡ suc i = same_Some (suc j) (suc i) h in
    let same : j ≡ i = omega arith in
    ap (λ (k : ℕ). Some k) same

shifted : (o : Option ℕ) (l : ℕ) (c : Bool)
    → option_map suc (option_or o (cond c (Some l) None)) ≡ option_or (option_map suc o) (cond c (Some (suc l)) None)
shifted None l true = refl
shifted None l false = refl
shifted (Some j) l c = refl

module _ {N : Type 0} where
  any_filter_by : (p k : N → Bool) (x : N) (xs : List N) → list_any p (filter k xs) ≡ list_any p xs
      → (k x ≡ false → p x ≡ false) → (b : Bool) → k x ≡ b
      → list_any p (cond b (x ∷ filter k xs) (filter k xs)) ≡ (p x || list_any p xs)
  any_filter_by p k x xs i h true e = ap (λ l. p x || l) i
  any_filter_by p k x xs i h false e = rw (h e) i

  -- what passes a test is kept, so whether an item passes is kept
  any_filter : (p k : N → Bool) → ((x : N) → k x ≡ false → p x ≡ false) → (xs : List N)
      → list_any p (filter k xs) ≡ list_any p xs
  any_filter p k h [] = refl
  any_filter p k h (x ∷ xs) = any_filter_by p k x xs (any_filter p k h xs) (h x) (k x) refl

  none_filter_by : (p k : N → Bool) (x : N) (xs : List N) → list_any p (filter k xs) ≡ false → p x ≡ false
      → (b : Bool)
      → list_any p (cond b (x ∷ filter k xs) (filter k xs)) ≡ false
  none_filter_by p k x xs i h true = rw h i
  none_filter_by p k x xs i h false = i

  none_filter : (p k : N → Bool) (xs : List N) → list_any p xs ≡ false → list_any p (filter k xs) ≡ false
  none_filter p k [] h = refl
  none_filter p k (x ∷ xs) h =
      let both = or_parts (p x) (list_any p xs) h in
      none_filter_by p k x xs (none_filter p k xs both.1) both.0 (k x)

  none_removed_by : (p : N → Bool) (x : N) (xs : List N) → list_any p (filter (λ y. not (p y)) xs) ≡ false
      → (b : Bool)
      → p x ≡ b → list_any p (cond (not b) (x ∷ filter (λ y. not (p y)) xs) (filter (λ y. not (p y)) xs)) ≡ false
  none_removed_by p x xs i true e = i
  none_removed_by p x xs i false e = rw e i

  none_removed : (p : N → Bool) (xs : List N) → list_any p (filter (λ y. not (p y)) xs) ≡ false
  none_removed p [] = refl
  none_removed p (x ∷ xs) = none_removed_by p x xs (none_removed p xs) (p x) refl

  none_kept : (p : N → Bool) (xs : List N) → list_any p xs ≡ false → filter p xs ≡ []
  none_kept p [] h = refl
  none_kept p (x ∷ xs) h =
      let both = or_parts (p x) (list_any p xs) h in
      rw both.0 (none_kept p xs both.1)

  none_behind : (t : N → Bool) (xs : List N) → (place_of t xs ≡ None → list_any t xs ≡ false) → (o : Option ℕ)
      → place_of t xs ≡ o → option_map suc o ≡ None → list_any t xs ≡ false
  none_behind t xs i None e h = i e
  none_behind t xs i (Some j) e h = cc

  placeless_by : (t : N → Bool) (x : N) (xs : List N) → (place_of t xs ≡ None → list_any t xs ≡ false) → (b : Bool)
      → cond b (Some 0) (option_map suc (place_of t xs)) ≡ None → (b || list_any t xs) ≡ false
  placeless_by t x xs i true h = cc
  placeless_by t x xs i false h = none_behind t xs i (place_of t xs) refl h

  -- where none has a place, none passes
  placeless : (t : N → Bool) (xs : List N) → place_of t xs ≡ None → list_any t xs ≡ false
  placeless t [] h = refl
  placeless t (x ∷ xs) h = placeless_by t x xs (placeless t xs) (t x) h

  somewhere_by : (t : N → Bool) (xs : List N) (i : ℕ) → ((j : ℕ) → place_of t xs ≡ Some j → list_any t xs ≡ true)
      → (o : Option ℕ) → place_of t xs ≡ o → option_map suc o ≡ Some i → list_any t xs ≡ true
  somewhere_by t xs i later None e h = absurd (true≢false (none_not i h))
  somewhere_by t xs i later (Some j) e h = later j e

  somewhere_first : (t : N → Bool) (xs : List N) (i : ℕ) → ((j : ℕ) → place_of t xs ≡ Some j → list_any t xs ≡ true)
      → (b : Bool) → cond b (Some 0) (option_map suc (place_of t xs)) ≡ Some i → (b || list_any t xs) ≡ true
  somewhere_first t xs i later true h = refl
  somewhere_first t xs i later false h = somewhere_by t xs i later (place_of t xs) refl h

  -- where one has a place, one passes
  placed_somewhere : (t : N → Bool) (xs : List N) (i : ℕ) → place_of t xs ≡ Some i → list_any t xs ≡ true
  placed_somewhere t [] i h = absurd (true≢false (none_not i h))
  placed_somewhere t (x ∷ xs) i h = somewhere_first t xs i (placed_somewhere t xs) (t x) h

  place_more_by : (t : N → Bool) (n : N) (xs : List N)
      → place_of t (xs ++ n ∷ []) ≡ option_or (place_of t xs) (cond (t n) (Some (length xs)) None) → (b : Bool)
      → cond b (Some 0) (option_map suc (place_of t (xs ++ n ∷ [])))
      ≡ option_or (cond b (Some 0) (option_map suc (place_of t xs))) (cond (t n) (Some (suc (length xs))) None)
  place_more_by t n xs i true = refl
  place_more_by t n xs i false = ap (option_map suc) i ∙ shifted (place_of t xs) (length xs) (t n)

  -- the place in a list with an item more
  place_more : (t : N → Bool) (n : N) (xs : List N)
      → place_of t (xs ++ n ∷ []) ≡ option_or (place_of t xs) (cond (t n) (Some (length xs)) None)
  place_more t n [] = refl
  place_more t n (x ∷ xs) = place_more_by t n xs (place_more t n xs) (t x)

  below_behind : (t : N → Bool) (xs : List N) (i : ℕ) → ((j : ℕ) → place_of t xs ≡ Some j → j < length xs)
      → (o : Option ℕ) → place_of t xs ≡ o → option_map suc o ≡ Some i → i < suc (length xs)
  below_behind t xs i below None e h = cc
  below_behind t xs i below (Some j) e h =
      let at : suc j ≡ i = same_Some (suc j) i h in
      let under : j < length xs = below j e in
      omega arith

  below_by : (t : N → Bool) (xs : List N) (i : ℕ) → ((j : ℕ) → place_of t xs ≡ Some j → j < length xs) → (b : Bool)
      → cond b (Some 0) (option_map suc (place_of t xs)) ≡ Some i → i < suc (length xs)
  below_by t xs i below true h =
      let at : 0 ≡ i = same_Some 0 i h in
      omega arith
  below_by t xs i below false h = below_behind t xs i below (place_of t xs) refl h

  -- a place is one of the list
  place_below : (t : N → Bool) (xs : List N) (i : ℕ) → place_of t xs ≡ Some i → i < length xs
  place_below t [] i h = cc
  place_below t (x ∷ xs) i h = below_by t xs i (place_below t xs) (t x) h

  module _ (same : N → N → Bool) where
    apart_filter_by : (k : N → Bool) (x : N) (xs : List N) → AreApart same (filter k xs)
        → list_any (same x) (filter k xs) ≡ false → (b : Bool)
        → AreApart same (cond b (x ∷ filter k xs) (filter k xs))
    apart_filter_by k x xs i none true = (none, i)
    apart_filter_by k x xs i none false = i

    apart_filter : (k : N → Bool) (xs : List N) → AreApart same xs → AreApart same (filter k xs)
    apart_filter k [] h = tt
    apart_filter k (x ∷ xs) h =
        apart_filter_by k x xs (apart_filter k xs h.1) (none_filter (same x) k xs h.0) (k x)

    -- first ones are apart
    pub firsts_apart : (xs : List N) → AreApart same (first_of_each same xs)
    firsts_apart [] = tt
    firsts_apart (x ∷ xs) = (
      none_removed (same x) (first_of_each same xs),
      apart_filter (λ y. not (same x y)) (first_of_each same xs)
          (firsts_apart xs),
    )

    removed_by : (x n : N) (b a : Bool) → same x n ≡ b
        → filter (λ y. not (same x y)) (cond a [] (n ∷ [])) ≡ cond (b || a) [] (n ∷ [])
    removed_by x n true true e = refl
    removed_by x n true false e = rw e refl
    removed_by x n false true e = refl
    removed_by x n false false e = rw e refl

    -- an item more is a first one where it is the same as none before it
    firsts_more : (xs : List N) (n : N)
        → first_of_each same (xs ++ n ∷ []) ≡ first_of_each same xs ++ cond (list_any (λ y. same y n) xs) [] (n ∷ [])
    firsts_more [] n = refl
    firsts_more (x ∷ xs) n =
        ap (λ l. x ∷ filter (λ y. not (same x y)) l) (firsts_more xs n)
        ∙ (ap (λ l. x ∷ l) (filter-append (λ y. not (same x y)) (first_of_each same xs)
        (cond (list_any (λ y. same y n) xs) [] (n ∷ [])))
        ∙ ap (λ l. x ∷ (filter (λ y. not (same x y)) (first_of_each same xs) ++ l))
        (removed_by x n (same x n) (list_any (λ y. same y n) xs) refl))

-- items with names that are compared
module _ {N P : Type 0} (name : N → P) (R : P → P → Ordering) where
  abbrev pub are_same : N → N → Bool
  are_same a b = is_eq (R (name a) (name b))

  -- an item with all that are the same as it
  abbrev pub with_all : List N → N → N × List N
  with_all xs n = (n, filter (are_same n) xs)

  -- The items that went in, and the places and the groups that they have.
  pub record Grouped (all left : List N) (entries : List (P × ℕ)) (groups : List (N × List N)) : Type 0 where
    pub done : List N
    pub split : done ++ left ≡ all
    pub placed : (q : P)
        → lookup (is_at (R q)) entries ≡ place_of (λ n. is_eq (R q (name n))) (first_of_each are_same done)
    pub grouped : groups ≡ map (with_all done) (first_of_each are_same done)

  pub over : (all left : List N) (entries : List (P × ℕ)) (groups : List (N × List N))
      → Grouped all left entries groups
      → length left ≡ 0 → groups ≡ map (with_all all) (first_of_each are_same all)
  over all [] entries groups h e =
      let same : h.done ≡ all = sym (append-nil h.done) ∙ h.split in
      h.grouped ∙ ap (λ xs. map (with_all xs) (first_of_each are_same xs)) same
  over all (x ∷ left) entries groups h e = absurd (omega arith)

  module _ (o : IsTotalOrder R) where
    alike : (p q r : P) → is_eq (R p q) ≡ true → is_eq (R p r) ≡ is_eq (R q r)
    alike p q r h = ap is_eq (o.congr p q r (equal_from (R p q) h))

    own : (p : P) → is_eq (R p p) ≡ true
    own p = ap is_eq (tied_itself o p)

    any_first_by : (x n : N) (xs : List N)
        → list_any (λ y. are_same y n) (first_of_each are_same xs) ≡ list_any (λ y. are_same y n) xs → (b : Bool)
        → are_same x n ≡ b
        → (b || list_any (λ y. are_same y n) (filter (λ y. not (are_same x y)) (first_of_each are_same xs)))
        ≡ (b || list_any (λ y. are_same y n) xs)
    any_first_by x n xs i true e = refl
    any_first_by x n xs i false e =
        any_filter (λ y. are_same y n) (λ y. not (are_same x y))
        (λ y h. sym (alike (name x) (name y) (name n) (sym (not-not (are_same x y)) ∙ ap not h)) ∙ e)
        (first_of_each are_same xs) ∙ i

    -- one of the first ones is the same as n exactly where one of all is
    any_first : (n : N) (xs : List N)
        → list_any (λ y. are_same y n) (first_of_each are_same xs) ≡ list_any (λ y. are_same y n) xs
    any_first n [] = refl
    any_first n (x ∷ xs) = any_first_by x n xs (any_first n xs) (are_same x n) refl

    any_swapped : (n : N) (xs : List N) → list_any (are_same n) xs ≡ list_any (λ y. are_same y n) xs
    any_swapped n [] = refl
    any_swapped n (x ∷ xs) = ap (λ b. b || list_any (are_same n) xs) (is_eq_turned o (name n) (name x))
        ∙ ap (λ b. are_same x n || b) (any_swapped n xs)

    -- of items that are not the same as n, none has one more
    untouched : (n : N) (xs fs : List N) → list_any (are_same n) fs ≡ false
        → map (with_all (xs ++ n ∷ [])) fs ≡ map (with_all xs) fs
    untouched n xs [] h = refl
    untouched n xs (f ∷ fs) h =
        let both = or_parts (are_same n f) (list_any (are_same n) fs) h in
        let other : are_same f n ≡ false = is_eq_turned o (name f) (name n) ∙ both.0 in
        let kept : filter (are_same f) (xs ++ n ∷ [])
        ≡ filter (are_same f) xs = filter-append (are_same f) xs (n ∷ [])
        ∙ rw other (append-nil (filter (are_same f) xs)) in
        ap (λ l. (f, l) ∷ map (with_all (xs ++ n ∷ [])) fs) kept
        ∙ ap (λ l. with_all xs f ∷ l) (untouched n xs fs both.1)

    any_alike : (n f : N) → are_same n f ≡ true → (fs : List N) → list_any (are_same n) fs ≡ list_any (are_same f) fs
    any_alike n f h [] = refl
    any_alike n f h (x ∷ fs) = ap (λ b. b || list_any (are_same n) fs) (alike (name n) (name f) (name x) h)
        ∙ ap (λ b. are_same f x || b) (any_alike n f h fs)

    -- the group at the place of n has one more
    touched_first : (n : N) (xs : List N) (f : N) (fs : List N) (e : N × List N) → list_any (are_same f) fs ≡ false
        → are_same n f ≡ true → e ≡ with_all xs f
        → map (with_all (xs ++ n ∷ [])) (f ∷ fs) ≡ (e.0, e.1 ++ n ∷ []) ∷ map (with_all xs) fs
    touched_first n xs f fs e apart same is =
        let also : are_same f n ≡ true = is_eq_turned o (name f) (name n) ∙ same in
        let one : filter (are_same f) (xs ++ n ∷ []) ≡ filter (are_same f) xs
        ++ n ∷ [] = filter-append (are_same f) xs (n ∷ []) ∙ rw also refl in
        ap (λ l. (f, l) ∷ map (with_all (xs ++ n ∷ [])) fs) one
        ∙ (ap (λ l. (f, filter (are_same f) xs ++ n ∷ []) ∷ l) (untouched n xs fs (any_alike n f same fs ∙ apart))
        ∙ ap (λ (w : N × List N). (w.0, w.1 ++ n ∷ []) ∷ map (with_all xs) fs) (sym is))

    touched_later : (n : N) (xs : List N) (f : N) (fs : List N) (ws : List (N × List N)) → are_same n f ≡ false
        → map (with_all (xs ++ n ∷ [])) fs ≡ ws → map (with_all (xs ++ n ∷ [])) (f ∷ fs) ≡ with_all xs f ∷ ws
    touched_later n xs f fs ws other behind =
        let also : are_same f n ≡ false = is_eq_turned o (name f) (name n) ∙ other in
        let kept : filter (are_same f) (xs ++ n ∷ [])
        ≡ filter (are_same f) xs = filter-append (are_same f) xs (n ∷ [])
        ∙ rw also (append-nil (filter (are_same f) xs)) in
        ap (λ l. (f, l) ∷ map (with_all (xs ++ n ∷ [])) fs) kept ∙ ap (λ l. with_all xs f ∷ l) behind

    touched_by : (n : N) (xs : List N) (f : N) (fs : List N) (i : ℕ) (e : N × List N)
        → ((j : ℕ) → place_of (are_same n) fs ≡ Some j → e ≡ get_or (map (with_all xs) fs) j e
        → map (with_all (xs ++ n ∷ [])) fs ≡ set (map (with_all xs) fs) j (e.0, e.1 ++ n ∷ []))
        → list_any (are_same f) fs ≡ false → (b : Bool) → are_same n f ≡ b
        → cond b (Some 0) (option_map suc (place_of (are_same n) fs)) ≡ Some i
        → e ≡ get_or (map (with_all xs) (f ∷ fs)) i e
        → map (with_all (xs ++ n ∷ [])) (f ∷ fs) ≡ set (map (with_all xs) (f ∷ fs)) i (e.0, e.1 ++ n ∷ [])
    touched_by n xs f fs zero e later apart true same at is = touched_first n xs f fs e apart same is
    touched_by n xs f fs zero e later apart false same at is =
        absurd (true≢false (not_zero (place_of (are_same n) fs) at))
    touched_by n xs f fs (suc i) e later apart true same at is = absurd (true≢false (zero_not i at))
    touched_by n xs f fs (suc i) e later apart false same at is =
        touched_later n xs f fs (set (map (with_all xs) fs) i (e.0, e.1 ++ n ∷ [])) same
        (later i (behind_suc (place_of (are_same n) fs) i at) is)

    touched : (n : N) (xs fs : List N) (i : ℕ) (e : N × List N) → AreApart are_same fs
        → place_of (are_same n) fs ≡ Some i → e ≡ get_or (map (with_all xs) fs) i e
        → map (with_all (xs ++ n ∷ [])) fs ≡ set (map (with_all xs) fs) i (e.0, e.1 ++ n ∷ [])
    touched n xs [] i e apart at is = absurd (true≢false (none_not i at))
    touched n xs (f ∷ fs) i e apart at is =
        touched_by n xs f fs i e (λ j p q. touched n xs fs j e apart.1 p q) apart.0 (are_same n f) refl at is

    -- an item more of a group that is there
    pub met : (all left left' : List N) (entries : List (P × ℕ)) (groups groups' : List (N × List N)) (n : N) (i : ℕ)
        (e : N × List N) → Grouped all left entries groups → left ≡ n ∷ left'
        → lookup (is_at (R (name n))) entries ≡ Some i → e ≡ get_or groups i e
        → groups' ≡ set groups i (e.0, e.1 ++ n ∷ []) → Grouped all left' entries groups'
    met all left left' entries groups groups' n i e h next at is into =
        let place : place_of (are_same n) (first_of_each are_same h.done) ≡ Some i = sym (h.placed (name n)) ∙ at in
        let some : list_any (λ y. are_same y n) h.done
        ≡ true = sym (any_swapped n (first_of_each are_same h.done) ∙ any_first n h.done)
        ∙ placed_somewhere (are_same n) (first_of_each are_same h.done) i place in
        let firsts : first_of_each are_same (h.done ++ n ∷ [])
        ≡ first_of_each are_same h.done = firsts_more are_same h.done n
        ∙ rw some (append-nil (first_of_each are_same h.done)) in
        let was : e ≡ get_or (map (with_all h.done) (first_of_each are_same h.done)) i e = is
        ∙ ap (λ l. get_or l i e) h.grouped in
        record {
          done = h.done ++ n ∷ [];
          split = append_assoc h.done (n ∷ []) left' ∙ (ap (λ l. h.done ++ l) (sym next) ∙ h.split);
          placed = λ q. h.placed q ∙ ap (place_of (λ m. is_eq (R q (name m)))) (sym firsts);
          grouped =
              into ∙ (ap (λ l. set l i (e.0, e.1 ++ n ∷ [])) h.grouped
              ∙ (sym (touched n h.done (first_of_each are_same h.done) i e (firsts_apart are_same h.done) place was)
              ∙ ap (map (with_all (h.done ++ n ∷ []))) (sym firsts)));
        }

    placed_new : (n : N) (fs : List N) (q : P) (l : Option ℕ) → place_of (are_same n) fs ≡ None
        → l ≡ place_of (λ m. is_eq (R q (name m))) fs → (b : Bool) → is_eq (R (name n) q) ≡ b
        → cond b (Some (length fs)) l ≡ option_or (place_of (λ m. is_eq (R q (name m))) fs)
        (cond (is_eq (R q (name n))) (Some (length fs)) None)
    placed_new n fs q l none was true same =
        let also : is_eq (R q (name n)) ≡ true = is_eq_turned o q (name n) ∙ same in
        let away : place_of (λ m. is_eq (R q (name m))) fs
        ≡ None = (λ j. place_of (λ m. alike q (name n) (name m) also j) fs) ∙ none in
        rw away (rw also refl)
    placed_new n fs q l none was false other =
        let also : is_eq (R q (name n)) ≡ false = is_eq_turned o q (name n) ∙ other in
        was ∙ rw also (sym (or_none (place_of (λ m. is_eq (R q (name m))) fs)))

    -- an item that is the first of its group
    pub met_first : (all left left' : List N) (entries entries' : List (P × ℕ))
        (groups groups' : List (N × List N)) (n : N)
        → Grouped all left entries groups → left ≡ n ∷ left' → lookup (is_at (R (name n))) entries ≡ None
        → ((q : P) → lookup (is_at (R q)) entries'
        ≡ cond (is_at (R (name n)) q) (Some (length groups)) (lookup (is_at (R q)) entries))
        → groups' ≡ groups ++ (n, n ∷ []) ∷ [] → Grouped all left' entries' groups'
    met_first all left left' entries entries' groups groups' n h next at into is =
        let fs = first_of_each are_same h.done in
        let none : place_of (are_same n) fs ≡ None = sym (h.placed (name n)) ∙ at in
        let away : list_any (are_same n) fs ≡ false = placeless (are_same n) fs none in
        let apart : list_any (λ y. are_same y n) h.done ≡ false = sym (any_swapped n fs ∙ any_first n h.done) ∙ away in
        let firsts : first_of_each are_same (h.done ++ n ∷ []) ≡ fs ++ n ∷ [] = firsts_more are_same h.done n
        ∙ rw apart refl in
        let alone : with_all (h.done ++ n ∷ []) n
        ≡ (n, n ∷ []) = ap (λ l. (n, l))
        (filter-append (are_same n) h.done (n ∷ [])
        ∙ (ap (λ l. l ++ filter (are_same n) (n ∷ [])) (none_kept (are_same n) h.done (any_swapped n h.done ∙ apart))
        ∙ rw (own (name n)) refl)) in
        let count : length groups ≡ length fs = ap length h.grouped ∙ length-map fs (with_all h.done) in
        record {
          done = h.done ++ n ∷ [];
          split = append_assoc h.done (n ∷ []) left' ∙ (ap (λ l. h.done ++ l) (sym next) ∙ h.split);
          placed = λ q.
              into q ∙ (ap (λ c. cond (is_eq (R (name n) q)) (Some c) (lookup (is_at (R q)) entries)) count
              ∙ (placed_new n fs q (lookup (is_at (R q)) entries) none (h.placed q) (is_eq (R (name n) q)) refl
              ∙ (sym (place_more (λ m. is_eq (R q (name m))) n fs)
              ∙ ap (place_of (λ m. is_eq (R q (name m)))) (sym firsts))));
          grouped =
              is ∙ (ap (λ l. l ++ (n, n ∷ []) ∷ []) (h.grouped ∙ sym (untouched n h.done fs away))
              ∙ (ap (λ (w : N × List N). map (with_all (h.done ++ n ∷ [])) fs ++ w ∷ []) (sym alone)
              ∙ (sym (map-append (with_all (h.done ++ n ∷ [])) fs (n ∷ []))
              ∙ ap (map (with_all (h.done ++ n ∷ []))) (sym firsts))));
        }

  -- the place of a group is one of the groups
  pub at_group : (all left : List N) (entries : List (P × ℕ)) (groups : List (N × List N)) (q : P) (i : ℕ)
      → Grouped all left entries groups → lookup (is_at (R q)) entries ≡ Some i → i < length groups
  at_group all left entries groups q i h at =
      let fs = first_of_each are_same h.done in
      let count : length groups ≡ length fs = ap length h.grouped ∙ length-map fs (with_all h.done) in
      let below : i < length fs = place_below (λ n. is_eq (R q (name n))) fs i (sym (h.placed q) ∙ at) in
      omega arith
