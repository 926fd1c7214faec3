-- Lists that are sorted and hold each item once are the same exactly where each item of one is among the other.
use Rattle.std.proofs.Common.{◌≡◌, ◌↔◌, Bool, true, false, ◌||◌, List, [], ◌∷◌, map, refl, ap, sym, ◌∙◌, subst}
use Rattle.std.specs.declared.cmp.Ordering.{Ordering}
use Rattle.std.specs.declared.cmp.Ordering.TheVariants.{Less, Equal, Greater}
use Rattle.std.specs.Ordering.{is_eq, ordering_reverse}
use Rattle.std.specs.BTreeSet.{insert_key}
use Rattle.std.specs.Cmp.{IsTotalOrder, first_so, second_so}
use Rattle.std.specs.Cmp.Lexicographic.{pointwise}
use Rattle.std.specs.List.{list_any, list_all, AllByRecursion}
use Rattle.std.proofs.lemmas.Bool.{and_from, false≢true, or_right}
use Rattle.std.proofs.lemmas.Cmp.{tied_itself}
use Rattle.std.specs.List.Sorted.{IsStrictlySortedBy}
use Rattle.cedar_data.proofs.Orders.{all_above, equal_from, nothing_rises}
use Rattle.schema_build_types.proofs.Inserted.{any_insert, rises_insert}
use Rattle.schema_build_equal.specs.Among.{are_among, are_one_set}

-- tests that imply one another are the same
same_test : (a b : Bool) → (a ≡ true → b ≡ true) → (b ≡ true → a ≡ true) → a ≡ b
same_test true b f g = sym (f refl)
same_test false true f g = g refl
same_test false false f g = refl

either_or : (a b : Bool) {P : Type 0} → (a ≡ true → P) → (b ≡ true) ↔ P → ((a || b) ≡ true) ↔ P
either_or true b f g = (λ h. f refl, λ p. refl)
either_or false b f g = g

-- items are equal in turn where their keys are
pub in_turn : {X K : Type 0} (key : X → K) (E : X → X → Bool) → ((x y : X) → (E x y ≡ true) ↔ (key x ≡ key y))
    → (xs ys : List X) → (pointwise E xs ys ≡ true) ↔ (map key xs ≡ map key ys)
in_turn key E same [] [] = (λ h. refl, λ h. refl)
in_turn key E same [] (y ∷ ys) = (λ h. absurd (false≢true h), λ h. absurd (cc))
in_turn key E same (x ∷ xs) [] = (λ h. absurd (false≢true h), λ h. absurd (cc))
in_turn key E same (x ∷ xs) (y ∷ ys) =
    let more = in_turn key E same xs ys in (
      λ h. let first : key x ≡ key y = (same x y).0 (first_so (E x y) (pointwise E xs ys) h) in
          let rest : map key xs ≡ map key ys = more.0 (second_so (E x y) (pointwise E xs ys) h) in
          cc,
      λ h. let first : key x ≡ key y = cc in
          let rest : map key xs ≡ map key ys = cc in
          and_from (E x y) (pointwise E xs ys) ((same x y).1 first) (more.1 rest),
    )

module _ {K : Type 0} {C : K → K → Ordering} (o : IsTotalOrder C) (exact : (a b : K) → C a b ≡ Equal → a ≡ b) where
  turn : (a b : K) (r : Ordering) → C a b ≡ r → C b a ≡ ordering_reverse r
  turn a b r e = o.antisymm b a ∙ ap ordering_reverse e

  -- the keys, sorted, each once
  abbrev pub once : List K → List K
  once [] = []
  once (k ∷ ks) = insert_key C (once ks) k

  rises_once : (ks : List K) → IsStrictlySortedBy C (once ks)
  rises_once [] = nothing_rises C
  rises_once (k ∷ ks) = rises_insert C o k (once ks) (rises_once ks)

  -- the key is equal to one of these
  abbrev has : List K → K → Bool
  has ks q = list_any (λ k. is_eq (C k q)) ks

  has_once : (ks : List K) (q : K) → has (once ks) q ≡ has ks q
  has_once [] q = refl
  has_once (k ∷ ks) q = any_insert C (λ j. is_eq (C j q)) (λ i j e. ap is_eq (o.congr i j q e)) k (once ks)
      ∙ ap (λ b. is_eq (C k q) || b) (has_once ks q)

  has_first : (k : K) (ks : List K) → has (k ∷ ks) k ≡ true
  has_first k ks = ap (λ r. is_eq r || has ks k) (tied_itself o k)

  not_had : (q : K) (ks : List K) → AllByRecursion (λ k. C q k ≡ Less) ks → has ks q ≡ false
  not_had q [] b = refl
  not_had q (k ∷ ks) b = ap (λ r. is_eq r || has ks q) (turn q k Less b.0) ∙ not_had q ks b.1

  clash : (x : K) (xs ys : List K) → AllByRecursion (λ y. C x y ≡ Less) ys
      → ((q : K) → has (x ∷ xs) q ≡ has ys q) → ⊥
  clash x xs ys b h = false≢true (sym (not_had x ys b) ∙ (sym (h x) ∙ has_first x xs))

  behind : (x : K) (xs ys : List K) → AllByRecursion (λ y. C x y ≡ Less) xs → AllByRecursion (λ y. C x y ≡ Less) ys
      → ((q : K) → has (x ∷ xs) q ≡ has (x ∷ ys) q) → (q : K) → has xs q ≡ has ys q
  behind x xs ys b c h q = by (C x q) refl
    where
      by : (a : Ordering) → C x q ≡ a → has xs q ≡ has ys q
      by Less e = sym (ap (λ r. is_eq r || has xs q) e) ∙ (h q ∙ ap (λ r. is_eq r || has ys q) e)
      by Equal e = let p = exact x q e in
          ap (has xs) (sym p) ∙ (not_had x xs b ∙ (sym (not_had x ys c) ∙ ap (has ys) p))
      by Greater e = sym (ap (λ r. is_eq r || has xs q) e) ∙ (h q ∙ ap (λ r. is_eq r || has ys q) e)

  -- lists that rise are the same where they have the same keys
  one_list : (xs ys : List K) → IsStrictlySortedBy C xs → IsStrictlySortedBy C ys → ((q : K) → has xs q ≡ has ys q)
      → xs ≡ ys
  unfolding IsStrictlySortedBy
  one_list [] [] r s h = refl
  one_list [] (y ∷ ys) r s h = absurd (clash y ys [] tt (λ q. sym (h q)))
  one_list (x ∷ xs) [] r s h = absurd (clash x xs [] tt h)
  one_list (x ∷ xs) (y ∷ ys) r s h = by (λ f. one_list xs ys r.1 s.1 f) (C x y) refl
    where
      by : (((q : K) → has xs q ≡ has ys q) → xs ≡ ys) → (a : Ordering) → C x y ≡ a → x ∷ xs ≡ y ∷ ys
      by more Less e = absurd (clash x xs (y ∷ ys) (e, all_above o x y ys e s.0) h)
      by more Equal e =
          let p = sym (exact x y e) in
          let b : AllByRecursion (λ z. C x z ≡ Less) ys = subst (λ k. AllByRecursion (λ z. C k z ≡ Less) ys) p s.0 in
          let f : (q : K) → has (x ∷ xs) q ≡ has (x ∷ ys) q =
          subst (λ k. (q : K) → has (x ∷ xs) q ≡ has (k ∷ ys) q) p h in
          let rest : xs ≡ ys = more (behind x xs ys r.0 b f) in
          cc
      by more Greater e = absurd (let less = turn x y Greater e in
          clash y ys (x ∷ xs) (less, all_above o y x xs less r.0) (λ q. sym (h q)))

  module _ {T : Type 0} (key : T → K) (eq : T → T → Bool) (same : (x y : T) → (eq x y ≡ true) ↔ (key x ≡ key y)) where
    tests : (x y : T) → eq x y ≡ is_eq (C (key x) (key y))
    tests x y = same_test (eq x y) (is_eq (C (key x) (key y)))
        (λ h. ap (λ k. is_eq (C (key x) k)) (sym ((same x y).0 h)) ∙ ap is_eq (tied_itself o (key x)))
        (λ h. (same x y).1 (exact (key x) (key y) (equal_from (C (key x) (key y)) h)))

    any_is : (ys : List T) (x : T) → list_any (λ y. eq y x) ys ≡ has (map key ys) (key x)
    any_is [] x = refl
    any_is (y ∷ ys) x = λ i. tests y x i || any_is ys x i

    among_is : (xs ys : List T) → are_among eq xs ys ≡ list_all (λ x. has (map key ys) (key x)) xs
    among_is xs ys = λ i. list_all (λ x. any_is ys x i) xs

    had : (xs : List T) (ns : List K) → list_all (λ x. has ns (key x)) xs ≡ true
        → (q : K) → has (map key xs) q ≡ true → has ns q ≡ true
    had [] ns all q h = absurd (false≢true h)
    had (x ∷ xs) ns all q h =
        let more = second_so (has ns (key x)) (list_all (λ z. has ns (key z)) xs) all in
        by (had xs ns more q) (C (key x) q) refl
      where
        by : (has (map key xs) q ≡ true → has ns q ≡ true) → (a : Ordering) → C (key x) q ≡ a → has ns q ≡ true
        by more Less e = more (sym (ap (λ r. is_eq r || has (map key xs) q) e) ∙ h)
        by more Equal e = ap (has ns) (sym (exact (key x) q e))
            ∙ first_so (has ns (key x)) (list_all (λ z. has ns (key z)) xs) all
        by more Greater e = more (sym (ap (λ r. is_eq r || has (map key xs) q) e) ∙ h)

    all_had : (xs : List T) (ns : List K) → ((q : K) → has (map key xs) q ≡ true → has ns q ≡ true)
        → list_all (λ x. has ns (key x)) xs ≡ true
    all_had [] ns f = refl
    all_had (x ∷ xs) ns f =
        and_from (has ns (key x)) (list_all (λ z. has ns (key z)) xs) (f (key x) (has_first (key x) (map key xs)))
        (all_had xs ns (λ q h. f q (or_right (is_eq (C (key x) q)) (has (map key xs) q) h)))

    kept : (xs ys : List T) → once (map key xs) ≡ once (map key ys) → (q : K)
        → has (map key xs) q ≡ has (map key ys) q
    kept xs ys e q = sym (has_once (map key xs) q) ∙ (ap (λ l. has l q) e ∙ has_once (map key ys) q)

    one_way : (xs ys : List T) → once (map key xs) ≡ once (map key ys) → are_among eq xs ys ≡ true
    one_way xs ys e = among_is xs ys ∙ all_had xs (map key ys) (λ q h. sym (kept xs ys e q) ∙ h)

    -- each item of one is among the other, both ways
    both_ways : (xs ys : List T) → (are_one_set eq xs ys ≡ true) ↔ (once (map key xs) ≡ once (map key ys))
    both_ways xs ys = (
      λ h. one_list (once (map key xs)) (once (map key ys)) (rises_once (map key xs)) (rises_once (map key ys))
          (λ q. has_once (map key xs) q ∙ (same_test (has (map key xs) q) (has (map key ys) q)
          (had xs (map key ys) (sym (among_is xs ys) ∙ first_so (are_among eq xs ys) (are_among eq ys xs) h) q)
          (had ys (map key xs) (sym (among_is ys xs) ∙ second_so (are_among eq xs ys) (are_among eq ys xs) h) q)
          ∙ sym (has_once (map key ys) q))),
      λ e. and_from (are_among eq xs ys) (are_among eq ys xs) (one_way xs ys e) (one_way ys xs (sym e)),
    )

    -- in turn, or as sets
    pub same_once : (xs ys : List T)
        → ((pointwise eq xs ys || are_one_set eq xs ys) ≡ true) ↔ (once (map key xs) ≡ once (map key ys))
    same_once xs ys = either_or (pointwise eq xs ys) (are_one_set eq xs ys)
        (λ h. ap once ((in_turn key eq same xs ys).0 h)) (both_ways xs ys)

-- a test of two things is one of what they are equal to
pub restated : {A : Type 0} (r b : Bool) (p q s t : A) → r ≡ b → (b ≡ true) ↔ (s ≡ t) → p ≡ s → q ≡ t
    → (r ≡ true) ↔ (p ≡ q)
restated r b p q s t e f g h = (λ k. g ∙ (f.0 (sym e ∙ k) ∙ sym h), λ k. e ∙ f.1 (sym g ∙ (k ∙ h)))
