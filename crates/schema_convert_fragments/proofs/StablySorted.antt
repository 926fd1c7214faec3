-- A stable sort of entries by their keys leaves the map that they make.
use Rattle.std.proofs.Common.{◌≡◌, Bool, true, false, not, ◌&&◌, cond, List, [], ◌∷◌, refl, sym, ap, ◌∙◌}
use Rattle.std.specs.declared.cmp.Ordering.{Ordering}
use Rattle.std.specs.declared.cmp.Ordering.TheVariants.{Less, Equal, Greater}
use Rattle.std.specs.Ordering.{is_eq, is_lt, ordering_reverse}
use Rattle.std.specs.Cmp.{IsTotalOrder, tied_itself}
use Rattle.std.specs.List.{filter}
use Rattle.std.specs.List.Sorted.{IsStableBy}
use Rattle.cedar_data.specs.Maps.{map_of}
use Rattle.schema_convert_fragments.proofs.Filtered.{Below, Rises, map_filtered, map_rises}

-- which of two neither is less
is_tie : (a b : Ordering) → b ≡ ordering_reverse a → (not (is_lt a) && not (is_lt b)) ≡ is_eq a
is_tie Less b e = refl
is_tie Equal b e = ap (λ r. not (is_lt r)) e
is_tie Greater b e = ap (λ r. not (is_lt r)) e

module _ {K : Type 0} {R : K → K → Ordering} (o : IsTotalOrder R) where
  -- whether keys are the same as one is told of the same keys alike
  told_alike : (k a b : K) → R a b ≡ Equal → is_eq (R k a) ≡ is_eq (R k b)
  told_alike k a b same =
      ap is_eq (o.antisymm k a ∙ ap ordering_reverse (o.congr a b k same) ∙ sym (o.antisymm k b))

module _ {K X : Type 0} {R : K → K → Ordering} (o : IsTotalOrder R) where
  tied_none : (k : K) (es : List (K × X)) → Below o k es → filter (λ e. is_eq (R k e.0)) es ≡ []
  tied_none k [] b = refl
  tied_none k (e ∷ es) b =
      ap (λ r. cond (is_eq r) (e ∷ filter (λ e. is_eq (R k e.0)) es) (filter (λ e. is_eq (R k e.0)) es)) b.0
      ∙ tied_none k es b.1

  tied_first : (k : K) (e : K × X) (es : List (K × X)) → R k e.0 ≡ Equal → Below o k es
      → filter (λ e. is_eq (R k e.0)) (e ∷ es) ≡ e ∷ []
  tied_first k e es same b =
      ap (λ r. cond (is_eq r) (e ∷ filter (λ e. is_eq (R k e.0)) es) (filter (λ e. is_eq (R k e.0)) es)) same
      ∙ ap (λ l. e ∷ l) (tied_none k es b)

  below_same : (j k : K) (es : List (K × X)) → R j k ≡ Equal → Below o k es → Below o j es
  below_same j k [] same b = tt
  below_same j k (e ∷ es) same b = (o.congr j k e.0 same ∙ b.0, below_same j k es same b.1)

  below_less : (j k : K) (es : List (K × X)) → R j k ≡ Less → Below o k es → Below o j es
  below_less j k [] less b = tt
  below_less j k (e ∷ es) less b = (o.trans j k e.0 less b.0, below_less j k es less b.1)

  abbrev pub TiedAlike : List (K × X) → List (K × X) → Type 0
  TiedAlike m n = (e : K × X) → filter (λ f. is_eq (R e.0 f.0)) m ≡ filter (λ f. is_eq (R e.0 f.0)) n

  first_of : (a b : K × X) (m n : List (K × X)) → a ∷ m ≡ b ∷ n → a ≡ b
  first_of a b m n e = cc

  no_first : (a : K × X) (m : List (K × X)) → a ∷ m ≡ [] → ⊥
  no_first a m e = absurd (cc)

  rest_alike : (a b : K × X) (m n : List (K × X)) → a ≡ b → TiedAlike (a ∷ m) (b ∷ n) → TiedAlike m n
  rest_alike a b m n same h e =
      by (is_eq (R e.0 a.0)) (h e ∙ (λ i. filter (λ f. is_eq (R e.0 f.0)) (sym same i ∷ n)))
    where
      by : (t : Bool)
          → cond t (a ∷ filter (λ f. is_eq (R e.0 f.0)) m) (filter (λ f. is_eq (R e.0 f.0)) m)
          ≡ cond t (a ∷ filter (λ f. is_eq (R e.0 f.0)) n) (filter (λ f. is_eq (R e.0 f.0)) n)
          → filter (λ f. is_eq (R e.0 f.0)) m ≡ filter (λ f. is_eq (R e.0 f.0)) n
      by true e = cc
      by false e = e

  -- entries whose keys rise are known by those of each key
  known_by_ties : (m n : List (K × X)) → Rises o m → Rises o n → TiedAlike m n → m ≡ n
  known_by_ties [] [] r s h = refl
  known_by_ties [] (b ∷ n) r s h = absurd (no_first b [] (sym (tied_first b.0 b n (tied_itself o b.0) s.0) ∙ sym (h b)))
  known_by_ties (a ∷ m) [] r s h = absurd (no_first a [] (sym (tied_first a.0 a m (tied_itself o a.0) r.0) ∙ h a))
  known_by_ties (a ∷ m) (b ∷ n) r s h = by (R a.0 b.0) refl (known_by_ties m n r.1 s.1)
    where
      by : (t : Ordering) → R a.0 b.0 ≡ t → (TiedAlike m n → m ≡ n) → a ∷ m ≡ b ∷ n
      by Less e more =
          absurd (no_first a [] (sym (tied_first a.0 a m (tied_itself o a.0) r.0)
          ∙ (h a ∙ tied_none a.0 (b ∷ n) (e, below_less a.0 b.0 n e s.0))))
      by Greater e more =
          let less : R b.0 a.0 ≡ Less = o.antisymm b.0 a.0 ∙ ap ordering_reverse e in
          absurd (no_first b [] (sym (tied_first b.0 b n (tied_itself o b.0) s.0)
          ∙ (sym (h b) ∙ tied_none b.0 (a ∷ m) (less, below_less b.0 a.0 m less r.0))))
      by Equal e more =
          let same : a ≡ b = first_of a b [] [] (sym (tied_first a.0 a m (tied_itself o a.0) r.0)
          ∙ (h a ∙ tied_first a.0 b n e (below_same a.0 b.0 n e s.0))) in
          (λ i. same i ∷ more (rest_alike a b m n same h) i)

  -- a stable sort keeps the entries of each key
  tied_kept : (xs ys : List (K × X)) → IsStableBy (λ a b. is_lt (R a.0 b.0)) xs ys → (e : K × X)
      → filter (λ f. is_eq (R e.0 f.0)) ys ≡ filter (λ f. is_eq (R e.0 f.0)) xs
  tied_kept xs ys stable e =
      sym (λ i. filter (λ f. is_tie (R e.0 f.0) (R f.0 e.0) (o.antisymm f.0 e.0) i) ys) ∙ stable e
      ∙ (λ i. filter (λ f. is_tie (R e.0 f.0) (R f.0 e.0) (o.antisymm f.0 e.0) i) xs)

  maps_tied : (xs ys : List (K × X)) → TiedAlike ys xs → TiedAlike (map_of R ys) (map_of R xs)
  maps_tied xs ys alike e =
      map_filtered o (λ k. is_eq (R e.0 k)) (told_alike o e.0) ys ∙ ap (map_of R) (alike e)
      ∙ sym (map_filtered o (λ k. is_eq (R e.0 k)) (told_alike o e.0) xs)

  -- entries are known by those of each key, as far as the map goes that is made of them
  pub map_of_alike : (xs ys : List (K × X)) → TiedAlike ys xs → map_of R ys ≡ map_of R xs
  map_of_alike xs ys alike =
      known_by_ties (map_of R ys) (map_of R xs) (map_rises o ys) (map_rises o xs) (maps_tied xs ys alike)

  -- so the map that is made of them stays
  pub map_of_sorted : (xs ys : List (K × X)) → IsStableBy (λ a b. is_lt (R a.0 b.0)) xs ys → map_of R ys ≡ map_of R xs
  map_of_sorted xs ys stable = map_of_alike xs ys (tied_kept xs ys stable)
