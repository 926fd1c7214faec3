-- Items that are sorted by a key, equal ones as they stood: they stand in groups of one key, the keys sorted, each
-- once.
use Rattle.std.proofs.Common.{◌≡◌, ℕ, suc, ◌<◌, ◌≤◌, Bool, true, false, not, ◌&&◌, ◌||◌, List, [], ◌∷◌, ◌++◌, map}
use Rattle.std.proofs.Common.{length, get_or, All, cond, refl, ap, sym, ◌∙◌, subst, arith}
use Rattle.std.specs.declared.cmp.Ordering.{Ordering}
use Rattle.std.specs.declared.cmp.Ordering.TheVariants.{Less, Equal, Greater}
use Rattle.std.specs.Ordering.{is_eq, is_lt, ordering_reverse}
use Rattle.std.specs.BTreeSet.{insert_key}
use Rattle.std.specs.Cmp.{IsTotalOrder}
use Rattle.std.specs.List.{AllByRecursion, filter, flat_map, list_any}
use Rattle.std.specs.List.Sorted.{IsPermutation, IsSortedBy, IsStableBy, IsStrictlySortedBy, ties}
use Rattle.std.proofs.lemmas.Cmp.{tied_itself, alike_right}
use Rattle.std.proofs.lemmas.List.Elements.{All-head, All-tail, All-cons, All-nil}
use Rattle.std.proofs.lemmas.List.Sorted.{sorted_far, ranks_by, All-permutation}
use Rattle.std.proofs.lemmas.Map.Views.{All-insert_key}
use Rattle.std.proofs.lemmas.Bool.{or_right}
use Rattle.cedar_data.proofs.Orders.{nothing_rises}
use Rattle.schema_build_types.proofs.Inserted.{any_insert, rises_insert}
use Rattle.schema_build_text.specs.Rows.{sorted_once}

-- filters and groups
filter_front : {X : Type 0} (p : X → Bool) (x : X) (xs : List X) (b : Bool) → p x ≡ b
    → filter p (x ∷ xs) ≡ cond b (x ∷ filter p xs) (filter p xs)
filter_front p x xs b e = ap (λ t. cond t (x ∷ filter p xs) (filter p xs)) e

flat_same : {X A : Type 0} (f g : X → List A) (xs : List X) → All (λ x. f x ≡ g x) xs → flat_map f xs ≡ flat_map g xs
flat_same f g [] all = refl
flat_same f g (x ∷ xs) all =
    (λ i. All-head (λ y. f y ≡ g y) x xs all i ++ flat_same f g xs (All-tail (λ y. f y ≡ g y) x xs all) i)

pub flat_nothing : {X A : Type 0} (xs : List X) → flat_map (λ (x : X). let none : List A = [] in none) xs ≡ []
flat_nothing [] = refl
flat_nothing (x ∷ xs) = flat_nothing xs

module _ {K : Type 0} {C : K → K → Ordering} (o : IsTotalOrder C) where
  turn : (a b : K) (r : Ordering) → C a b ≡ r → C b a ≡ ordering_reverse r
  turn a b r e = o.antisymm b a ∙ ap ordering_reverse e

  pub rises_sorted : (ks : List K) → IsStrictlySortedBy C (sorted_once C ks)
  rises_sorted [] = nothing_rises C
  rises_sorted (k ∷ ks) = rises_insert C o k (sorted_once C ks) (rises_sorted ks)

  -- the key is equal to one of these
  abbrev has : List K → K → Bool
  has ks q = list_any (λ k. is_eq (C k q)) ks

  has_insert : (q k : K) (ks : List K) → has (insert_key C ks k) q ≡ (is_eq (C k q) || has ks q)
  has_insert q k ks = any_insert C (λ j. is_eq (C j q)) (λ i j e. ap is_eq (o.congr i j q e)) k ks

  module _ {X : Type 0} (key : X → K) where
    all_has : (xs : List X) → All (λ x. has (sorted_once C (map key xs)) (key x) ≡ true) xs
    all_has [] = All-nil (λ x. has (sorted_once C []) (key x) ≡ true)
    all_has (x ∷ xs) =
        let all = sorted_once C (map key (x ∷ xs)) in
        All-cons (λ y. has all (key y) ≡ true) x xs
        (has_insert (key x) (key x) (sorted_once C (map key xs))
        ∙ ap (λ r. is_eq r || has (sorted_once C (map key xs)) (key x)) (tied_itself o (key x)))
        (λ i d h. has_insert (key (get_or xs i d)) (key x) (sorted_once C (map key xs))
        ∙ or_right (is_eq (C (key x) (key (get_or xs i d)))) (has (sorted_once C (map key xs)) (key (get_or xs i d)))
        (all_has xs i d h))

    all_keys : (xs : List X) → All (λ k. (x : X) × (key x ≡ k)) (sorted_once C (map key xs))
    all_keys [] = All-nil (λ k. (x : X) × (key x ≡ k))
    all_keys (x ∷ xs) = All-insert_key C (key x) (λ k. (y : X) × (key y ≡ k)) (sorted_once C (map key xs))
        (all_keys xs) (x, refl)

    -- no item is below the key
    abbrev NoneBelow : K → List X → Type 0
    NoneBelow k [] = Unit {0}
    NoneBelow k (y ∷ ys) = (is_lt (C (key y) k) ≡ false) × NoneBelow k ys

    abbrev IsUp : List X → Type 0
    IsUp [] = Unit {0}
    IsUp (y ∷ ys) = NoneBelow (key y) ys × IsUp ys

    none_below_from : (x : X) (ys : List X)
        → ((j : ℕ) (d : X) → j < length ys → is_lt (C (key (get_or ys j d)) (key x)) ≡ false) → NoneBelow (key x) ys
    none_below_from x [] f = tt
    none_below_from x (y ∷ ys) f = (f 0 y (omega arith), none_below_from x ys (λ j d h. f (suc j) d (omega arith)))

    up_from : (ys : List X)
        → ((i j : ℕ) (d : X) → i ≤ j → j < length ys → is_lt (C (key (get_or ys j d)) (key (get_or ys i d))) ≡ false)
        → IsUp ys
    up_from [] f = tt
    up_from (y ∷ ys) f = (
      none_below_from y ys (λ j d h. f 0 (suc j) d (omega arith) (omega arith)),
      up_from ys
          (λ i j d le h. f (suc i) (suc j) d (omega arith) (omega arith)),
    )

    -- the items of a key
    abbrev in_group : K → X → Bool
    in_group n x = is_eq (C n (key x))

    -- a key below another is below each item that is not below that
    above_all : (n k : K) (ys : List X) → C n k ≡ Less → NoneBelow k ys → filter (in_group n) ys ≡ []
    above_all n k [] e b = refl
    above_all n k (y ∷ ys) e b = filter_front (in_group n) y ys false (ap is_eq (by (C (key y) k) refl))
        ∙ above_all n k ys e b.1
      where
        by : (a : Ordering) → C (key y) k ≡ a → C n (key y) ≡ Less
        by Less h = absurd (let no : is_lt Less ≡ false = ap is_lt (sym h) ∙ b.0 in cc)
        by Equal h = alike_right o (key y) k n h ∙ e
        by Greater h = o.trans n k (key y) e (turn (key y) k Greater h)

    -- keys above that of an item do not have it
    not_there : (n : K) (x : X) (xs : List X) (ns : List K) → ((m : K) → C n m ≡ Less → is_eq (C m (key x)) ≡ false)
        → AllByRecursion (λ m. C n m ≡ Less) ns
        → flat_map (λ m. filter (in_group m) (x ∷ xs)) ns ≡ flat_map (λ m. filter (in_group m) xs) ns
    not_there n x xs [] f b = refl
    not_there n x xs (m ∷ ms) f b =
        (λ i. filter_front (in_group m) x xs false (f m b.0) i ++ not_there n x xs ms f b.1 i)

    not_had : (n : K) (x : X) (ns : List K) → ((m : K) → C n m ≡ Less → is_eq (C m (key x)) ≡ false)
        → AllByRecursion (λ m. C n m ≡ Less) ns → has ns (key x) ≡ false
    not_had n x [] f b = refl
    not_had n x (m ∷ ms) f b = ap (λ t. t || has ms (key x)) (f m b.0) ∙ not_had n x ms f b.1

    above_equal : (n : K) (x : X) → C n (key x) ≡ Equal → (m : K) → C n m ≡ Less → is_eq (C m (key x)) ≡ false
    above_equal n x e m h = ap is_eq (turn (key x) m Less (sym (o.congr n (key x) m e) ∙ h))

    above_greater : (n : K) (x : X) → C n (key x) ≡ Greater → (m : K) → C n m ≡ Less → is_eq (C m (key x)) ≡ false
    above_greater n x e m h = ap is_eq (turn (key x) m Less (o.trans (key x) n m (turn n (key x) Greater e) h))

    -- the first item stands in the first group that has items
    put_first : (x : X) (xs : List X) → NoneBelow (key x) xs → (ns : List K) → IsStrictlySortedBy C ns
        → has ns (key x) ≡ true
        → x ∷ flat_map (λ n. filter (in_group n) xs) ns ≡ flat_map (λ n. filter (in_group n) (x ∷ xs)) ns
    unfolding IsStrictlySortedBy
    put_first x xs b [] r h = absurd (cc)
    put_first x xs b (n ∷ ns) r h = by (λ k. put_first x xs b ns r.1 k) (C n (key x)) refl
      where
        by : (has ns (key x) ≡ true → x ∷ flat_map (λ n. filter (in_group n) xs) ns
            ≡ flat_map (λ n. filter (in_group n) (x ∷ xs)) ns)
            → (a : Ordering) → C n (key x) ≡ a
            → x ∷ (filter (in_group n) xs ++ flat_map (λ n. filter (in_group n) xs) ns) ≡ filter (in_group n) (x ∷ xs)
            ++ flat_map (λ n. filter (in_group n) (x ∷ xs)) ns
        by more Less e =
            let none = above_all n (key x) xs e b in
            ap (λ l. x ∷ (l ++ flat_map (λ n. filter (in_group n) xs) ns)) none
            ∙ more (ap (λ t. t || has ns (key x)) (sym (ap is_eq e)) ∙ h)
            ∙ ap (λ l. l ++ flat_map (λ n. filter (in_group n) (x ∷ xs)) ns)
            (sym (filter_front (in_group n) x xs false (ap is_eq e) ∙ none))
        by more Equal e =
            ap (λ l. x ∷ (filter (in_group n) xs ++ l)) (sym (not_there n x xs ns (above_equal n x e) r.0))
            ∙ ap (λ l. l ++ flat_map (λ n. filter (in_group n) (x ∷ xs)) ns)
            (sym (filter_front (in_group n) x xs true (ap is_eq e)))
        by more Greater e =
            let no : has (n ∷ ns) (key x) ≡ false = ap (λ t. t || has ns (key x)) (ap is_eq e)
            ∙ not_had n x ns (above_greater n x e) r.0 in
            absurd (cc)

    in_groups : (ns : List K) → IsStrictlySortedBy C ns → (ys : List X) → IsUp ys → All (λ y. has ns (key y) ≡ true) ys
        → ys ≡ flat_map (λ n. filter (in_group n) ys) ns
    in_groups ns r [] up all = sym (flat_nothing ns)
    in_groups ns r (y ∷ ys) up all =
        ap (λ l. y ∷ l) (in_groups ns r ys up.1 (All-tail (λ z. has ns (key z) ≡ true) y ys all))
        ∙ put_first y ys up.0 ns r (All-head (λ z. has ns (key z) ≡ true) y ys all)

    abbrev below : X → X → Bool
    below x y = is_lt (C (key x) (key y))

    tie_by : (a : Ordering) → (not (is_lt a) && not (is_lt (ordering_reverse a))) ≡ is_eq a
    tie_by Less = refl
    tie_by Equal = refl
    tie_by Greater = refl

    tie_is : (x y : X) → ties below x y ≡ is_eq (C (key x) (key y))
    tie_is x y = ap (λ r. not (is_lt (C (key x) (key y))) && not (is_lt r)) (o.antisymm (key y) (key x))
        ∙ tie_by (C (key x) (key y))

    module _ (same : K → K → Bool) (tie : (x y : X) → same (key x) (key y) ≡ is_eq (C (key x) (key y)))
        (xs ys : List X) where
      one_group : IsStableBy below xs ys → (n : K) → (x : X) × (key x ≡ n)
          → filter (in_group n) ys ≡ filter (λ x. same n (key x)) xs
      one_group stable n k =
          subst (λ m. filter (in_group m) ys ≡ filter (λ x. same m (key x)) xs) k.1
          ((λ i. filter (λ y. sym (tie_is k.0 y) i) ys) ∙ stable k.0
          ∙ (λ i. filter (λ y. (tie_is k.0 y ∙ sym (tie k.0 y)) i) xs))

      -- sorted by their keys, equal ones as they stood
      pub grouped : IsPermutation xs ys → IsSortedBy below ys → IsStableBy below xs ys
          → ys ≡ flat_map (λ n. filter (λ x. same n (key x)) xs) (sorted_once C (map key xs))
      grouped perm up stable =
          let ns = sorted_once C (map key xs) in
          in_groups ns (rises_sorted (map key xs)) ys
          (up_from ys (sorted_far below (ranks_by o key) ys up))
          (All-permutation (λ y. has ns (key y) ≡ true) xs ys perm (all_has xs))
          ∙ flat_same (λ n. filter (in_group n) ys) (λ n. filter (λ x. same n (key x)) xs) ns
          (λ i d h. one_group stable (get_or ns i d) (all_keys xs i d h))
