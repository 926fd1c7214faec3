-- Ranks among names that rise.
use Rattle.std.proofs.Common.{◌≡◌, ℕ, ◌+◌, ◌<◌, List, [], ◌∷◌, ◌++◌, length, get_or, map, sym, ap, ◌∙◌, subst}
use Rattle.std.proofs.Common.{arith}
use Rattle.std.proofs.Common.{inl, inr, Contains, Option, Some, Result, Ok, Err, Ordering}
use Rattle.std.specs.Prelude.{slice_get}
use Rattle.std.specs.declared.cmp.Ordering.TheVariants.{Less, Equal, Greater}
use Rattle.std.specs.Cmp.{IsTotalOrder}
use Rattle.std.specs.Ordering.{is_lt, ordering_reverse}
use Rattle.std.specs.Option.{option_map}
use Rattle.std.specs.Result.{result_ok}
use Rattle.std.specs.List.Sorted.{IsStrictlySortedBy, IsSortedBy, IsBinarySearchResult, IsSearchInRange}
use Rattle.std.proofs.lemmas.Bool.{cases_lt}
use Rattle.std.proofs.lemmas.Cmp.{tied_back, alike_right}
use Rattle.std.proofs.lemmas.List.{get_or-map, length-map}
use Rattle.std.proofs.lemmas.List.Elements.{Contains-push, Contains-push_cases, Contains-append_left}
use Rattle.std.proofs.lemmas.List.Sorted.{searchable_from_sorted}
use Rattle.std.proofs.lemmas.Map.Keys.{Less-from_sorted}
use Rattle.std.proofs.lemmas.Option.{slice_get_within, get_or_from_slice_get, slice_get_cases, slice_get-map}
use Rattle.std.proofs.lemmas.Option.{slice_get-get_or}
use Rattle.schema_build_hierarchy.specs.Ranks.{HasRank, IsRankOf, HasRankAmong, AreRanksOf}

module _ {K : Type 0} {R : K → K → Ordering} (o : IsTotalOrder R) where
  pub less_at : (own : List K) → IsStrictlySortedBy R own → (i j : ℕ) (a b : K) → slice_get own i ≡ Some a
      → slice_get own j ≡ Some b
      → i < j → R a b ≡ Less
  less_at own up i j a b p q lt =
      ap (λ z. R z b) (sym (get_or_from_slice_get own i a a p))
      ∙ ap (λ z. R (get_or own i a) z) (sym (get_or_from_slice_get own j b a q))
      ∙ Less-from_sorted R own i j a up lt (slice_get_within own j b q)

  -- what the order does not tell apart stands at one place
  pub one_place : (own : List K) → IsStrictlySortedBy R own → (i j : ℕ) (a b : K) → slice_get own i ≡ Some a
      → slice_get own j ≡ Some b → R a b ≡ Equal → i ≡ j
  one_place own up i j a b p q e = elim (cases_lt i j) [
    | inl lt ↦ absurd (let less : R a b ≡ Less = less_at own up i j a b p q lt in cc)
    | inr ge ↦ elim (cases_lt j i) [
      | inl lt ↦ absurd (let less : R b a ≡ Less = less_at own up j i b a q p lt in
          let back : R b a ≡ Equal = tied_back o a b e in cc)
      | inr le ↦ omega arith
    ]
  ]

  module _ (own : List K) (up : IsStrictlySortedBy R own) where
    one_rank : (k : K) (r x : ℕ) → HasRank R own k r → HasRank R own k x → r ≡ x
    one_rank k r x (a, p, e) (b, q, f) =
        let same : R b a ≡ R b k = alike_right o a k b e in
        let tied : R b a ≡ Equal = same ∙ f in
        one_place own up r x a b p q (tied_back o b a tied)

    more_named : (ns : List K) (k : K) (x : ℕ) → HasRankAmong R own ns x → HasRankAmong R own (ns ++ k ∷ []) x
    more_named ns k x (n, c, h) = (n, Contains-append_left ns (k ∷ []) n c, h)

    pub ranks_push : (ns row row' : List _) (k : K) (r : ℕ) → AreRanksOf R own ns row → HasRank R own k r
        → row' ≡ row ++ r ∷ []
        → AreRanksOf R own (ns ++ k ∷ []) row'
    ranks_push ns row row' k r are h grown = record {
      are = λ x. (
        (λ c. elim (Contains-push_cases row r x (subst (λ l. Contains l x) grown c)) [
          | inl old ↦ more_named ns k x ((are.are x).0 old)
          | inr same ↦ (k, Contains-push ns k, subst (HasRank R own k) same h)
        ]),
        (λ n. subst (λ l. Contains l x) (sym grown) (elim (Contains-push_cases ns k n.0 n.1) [
          | inl old ↦ Contains-append_left row (r ∷ []) x ((are.are x).1 (n.0, old, n.2))
          | inr same ↦ subst (Contains (row ++ r ∷ []))
              (one_rank k r x h (subst (λ z. HasRank R own z x) (sym same) n.2)) (Contains-push row r)
        ])),
      );
    }

    pub ranks_skip : (ns : List K) (row : List ℕ) (k : K) → AreRanksOf R own ns row → ((r : ℕ) → HasRank R own k r → ⊥)
        → AreRanksOf R own (ns ++ k ∷ []) row
    ranks_skip ns row k are none = record {
      are = λ x. (
        (λ c. more_named ns k x ((are.are x).0 c)),
        (λ n. elim (Contains-push_cases ns k n.0 n.1) [
          | inl old ↦ (are.are x).1 (n.0, old, n.2)
          | inr same ↦ absurd (none x (subst (λ z. HasRank R own z x) (sym same) n.2))
        ]),
      );
    }

  -- ---- the search
  module _ {E : Type 0} (name : E → K) (entries : List E) (k : K) (up : IsStrictlySortedBy R (map name entries)) where
    backwards : IsSortedBy (λ a b. is_lt (R (name a) (name b))) entries
    backwards i d low high =
        let lo : get_or (map name entries) i (name d)
        ≡ name (get_or entries i d) = get_or-map name entries i d (name d) (omega arith) in
        let hi : get_or (map name entries) (i + 1) (name d)
        ≡ name (get_or entries (i + 1) d) = get_or-map name entries (i + 1) d (name d) high in
        let less : R (get_or (map name entries) i (name d)) (get_or (map name entries) (i + 1) (name d))
        ≡ Less = Less-from_sorted R (map name entries) i (i + 1) (name d) up (omega arith)
        (omega (arith, length-map entries name)) in
        let less' : R (name (get_or entries i d)) (name (get_or entries (i + 1) d)) ≡ Less = cc in
        ap is_lt (o.antisymm (name (get_or entries (i + 1) d)) (name (get_or entries i d)) ∙ ap ordering_reverse less')

    named_at : (r : ℕ) (x : E) → slice_get entries r ≡ Some x → slice_get (map name entries) r ≡ Some (name x)
    named_at r x is = slice_get-map name entries r ∙ ap (option_map name) is

    pub rank_is : (r : Result ℕ ℕ) (res : Option ℕ) → res ≡ result_ok r → IsSearchInRange r (length entries)
        → IsBinarySearchResult (λ e. R (name e) k) entries r → IsRankOf R (map name entries) k res
    rank_is (Ok i) res e within at =
        subst (IsRankOf R (map name entries) k) (sym e) (elim (slice_get_cases entries i).1 [
          | inl x ↦ (name x.0, named_at i x.0 x.2, ap (λ z. R (name z) k) (sym x.3) ∙ at x.0)
          | inr past ↦ absurd (omega (arith, past.0))
        ])
    rank_is (Err i) res e within at =
        subst (IsRankOf R (map name entries) k) (sym e) (λ r h. elim (slice_get_cases entries r).1 [
          | inl x ↦
              let parts = at (searchable_from_sorted o name entries k backwards) in
              let there : slice_get (map name entries) r ≡ Some (name x.0) = named_at r x.0 x.2 in
              let mine : slice_get (map name entries) r ≡ Some h.0 = h.1 in
              let same : name x.0 ≡ h.0 = cc in
              let equal : R (name x.0) k ≡ Equal = ap (λ z. R z k) same ∙ h.2 in
              elim (cases_lt r i) [
                | inl before ↦ absurd (let less : R (name x.0) k ≡ Less = ap (λ z. R (name z) k) (sym x.3)
                    ∙ parts.0 r x.0 (omega arith) before in cc)
                | inr after ↦ absurd (let more : R (name x.0) k ≡ Greater = ap (λ z. R (name z) k) (sym x.3)
                    ∙ parts.1 r x.0 after x.1 in cc)
              ]
          | inr past ↦ absurd (let lt : r < length (map name entries) = slice_get_within (map name entries) r h.0 h.1 in
              omega (arith, past.0, length-map entries name))
        ])

module _ {K E : Type 0} (R : K → K → Ordering) (name : E → K) (entries : List E) (k : K) where
  -- the entry at the place has the name, whatever stands beside it
  pub rank_at : (r : ℕ) (d : E) → r < length entries → R (name (get_or entries r d)) k ≡ Equal
      → HasRank R (map name entries) k r
  rank_at r d within equal = (
    name (get_or entries r d),
    slice_get-map name entries r ∙ ap (option_map name) (slice_get-get_or entries r d within),
    equal,
  )
