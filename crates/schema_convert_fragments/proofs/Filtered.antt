-- A map of the entries that pass a test on their keys has those of the map of all that pass it.
use Rattle.std.proofs.Common.{◌≡◌, Bool, true, false, cond, List, [], ◌∷◌, ◌++◌, refl, sym, ap, ◌∙◌}
use Rattle.std.specs.declared.cmp.Ordering.{Ordering}
use Rattle.std.specs.declared.cmp.Ordering.TheVariants.{Less, Equal, Greater}
use Rattle.std.specs.Ordering.{match_ordering, ordering_reverse}
use Rattle.std.specs.BTreeMap.{insert_entry}
use Rattle.std.specs.Cmp.{IsTotalOrder}
use Rattle.std.specs.List.{filter, flat_map}
use Rattle.cedar_data.specs.Maps.{with_entries, map_of}

module _ {K X : Type 0} {R : K → K → Ordering} (o : IsTotalOrder R) where
  -- the key is below each of these
  abbrev pub Below : K → List (K × X) → Type 0
  Below k [] = Unit {0}
  Below k (e ∷ es) = (R k e.0 ≡ Less) × Below k es

  abbrev pub Rises : List (K × X) → Type 0
  Rises [] = Unit {0}
  Rises (e ∷ es) = Below e.0 es × Rises es

  below_through : (j k : K) (es : List (K × X)) → R j k ≡ Less → Below k es → Below j es
  below_through j k [] h b = tt
  below_through j k (e ∷ es) h b = (o.trans j k e.0 h b.0, below_through j k es h b.1)

  put_first : (k : K) (v : X) (es : List (K × X)) → Below k es → insert_entry R es k v ≡ (k, v) ∷ es
  put_first k v [] b = refl
  put_first k v (e ∷ es) b = ap (λ r. match_ordering r ((k, v) ∷ e ∷ es) ((e.0, v) ∷ es) (e ∷ insert_entry R es k v))
      b.0

  -- what is put in keeps the keys rising
  put_rises : (k : K) (v : X) (es : List (K × X)) → Rises es → Rises (insert_entry R es k v)
  put_rises k v [] r = (tt, tt)
  put_rises k v (e ∷ es) r = by (put_rises k v es r.1) (R k e.0) refl
    where
      into : (j : K) (xs : List (K × X)) → Below j xs → R j k ≡ Less → Below j (insert_entry R xs k v)
      into j [] b h = (h, tt)
      into j (x ∷ xs) b h = at (into j xs b.1 h) (R k x.0)
        where
          at : Below j (insert_entry R xs k v) → (a : Ordering)
              → Below j (match_ordering a ((k, v) ∷ x ∷ xs) ((x.0, v) ∷ xs) (x ∷ insert_entry R xs k v))
          at m Less = (h, b)
          at m Equal = b
          at m Greater = (b.0, m)

      by : Rises (insert_entry R es k v) → (a : Ordering) → R k e.0 ≡ a
          → Rises (match_ordering a ((k, v) ∷ e ∷ es) ((e.0, v) ∷ es) (e ∷ insert_entry R es k v))
      by m Less h = ((h, below_through k e.0 es h r.0), r)
      by m Equal h = r
      by m Greater h = (into e.0 es r.0 (o.antisymm e.0 k ∙ ap ordering_reverse h), m)

  with_rises : (m es : List (K × X)) → Rises m → Rises (with_entries R m es)
  with_rises m [] r = r
  with_rises m (e ∷ es) r = with_rises (insert_entry R m e.0 e.1) es (put_rises e.0 e.1 m r)

  -- the keys of a map rise
  pub map_rises : (es : List (K × X)) → Rises (map_of R es)
  map_rises es = with_rises [] es tt

  module _ (p : K → Bool) (same : (a b : K) → R a b ≡ Equal → p a ≡ p b) where
    below_filter : (k : K) (es : List (K × X)) → Below k es → Below k (filter (λ e. p e.0) es)
    below_filter k [] b = tt
    below_filter k (e ∷ es) b = by (below_filter k es b.1) (p e.0)
      where
        by : Below k (filter (λ x. p x.0) es) → (t : Bool)
            → Below k (cond t (e ∷ filter (λ x. p x.0) es) (filter (λ x. p x.0) es))
        by more true = (b.0, more)
        by more false = more

    -- putting an entry in and testing
    put_filtered : (k : K) (v : X) (es : List (K × X)) → Rises es
        → filter (λ e. p e.0) (insert_entry R es k v)
        ≡ cond (p k) (insert_entry R (filter (λ e. p e.0) es) k v) (filter (λ e. p e.0) es)
    put_filtered k v [] r = by (p k)
      where
        by : (t : Bool) → cond {A = List (K × X)} t ((k, v) ∷ []) [] ≡ cond {A = List (K × X)} t ((k, v) ∷ []) []
        by t = refl
    put_filtered k v (e ∷ es) r = cases (put_filtered k v es r.1) (R k e.0) refl
      where
        less : R k e.0 ≡ Less → (t : Bool)
            → cond {A = List (K × X)} t ((k, v) ∷ filter (λ x. p x.0) (e ∷ es)) (filter (λ x. p x.0) (e ∷ es))
            ≡ cond t (insert_entry R (filter (λ x. p x.0) (e ∷ es)) k v) (filter (λ x. p x.0) (e ∷ es))
        less h true = sym (put_first k v (filter (λ x. p x.0) (e ∷ es))
            (below_filter k (e ∷ es) (h, below_through k e.0 es h r.0)))
        less h false = refl

        equal : R k e.0 ≡ Equal → (t u : Bool) → t ≡ u
            → cond {A = List (K × X)} t ((e.0, v) ∷ (filter (λ x. p x.0) es)) (filter (λ x. p x.0) es)
            ≡ cond u (insert_entry R (cond t (e ∷ (filter (λ x. p x.0) es)) (filter (λ x. p x.0) es)) k v)
            (cond t (e ∷ (filter (λ x. p x.0) es)) (filter (λ x. p x.0) es))
        equal h true true q = sym (ap (λ a. match_ordering a ((k, v) ∷ e ∷ (filter (λ x. p x.0) es))
            ((e.0, v) ∷ (filter (λ x. p x.0) es)) (e ∷ insert_entry R (filter (λ x. p x.0) es) k v)) h)
        equal h false false q = refl
        equal h true false q = absurd (cc)
        equal h false true q = absurd (cc)

        greater : R k e.0 ≡ Greater → (t u : Bool)
            → filter (λ x. p x.0) (insert_entry R es k v)
            ≡ cond u (insert_entry R (filter (λ x. p x.0) es) k v) (filter (λ x. p x.0) es)
            → cond t (e ∷ filter (λ x. p x.0) (insert_entry R es k v)) (filter (λ x. p x.0) (insert_entry R es k v))
            ≡ cond u (insert_entry R (cond t (e ∷ (filter (λ x. p x.0) es)) (filter (λ x. p x.0) es)) k v)
            (cond t (e ∷ (filter (λ x. p x.0) es)) (filter (λ x. p x.0) es))
        greater h true true q = ap (λ l. e ∷ l) q
            ∙ sym (ap (λ a. match_ordering a ((k, v) ∷ e ∷ (filter (λ x. p x.0) es))
            ((e.0, v) ∷ (filter (λ x. p x.0) es)) (e ∷ insert_entry R (filter (λ x. p x.0) es) k v)) h)
        greater h true false q = ap (λ l. e ∷ l) q
        greater h false true q = q
        greater h false false q = q

        cases : filter (λ x. p x.0) (insert_entry R es k v)
            ≡ cond (p k) (insert_entry R (filter (λ x. p x.0) es) k v) (filter (λ x. p x.0) es)
            → (a : Ordering) → R k e.0 ≡ a
            → filter (λ x. p x.0) (match_ordering a ((k, v) ∷ e ∷ es) ((e.0, v) ∷ es) (e ∷ insert_entry R es k v))
            ≡ cond (p k) (insert_entry R (filter (λ x. p x.0) (e ∷ es)) k v) (filter (λ x. p x.0) (e ∷ es))
        cases more Less h = less h (p k)
        cases more Equal h = equal h (p e.0) (p k) (sym (same k e.0 h))
        cases more Greater h = greater h (p e.0) (p k) more

    with_filtered : (m es : List (K × X)) → Rises m
        → filter (λ e. p e.0) (with_entries R m es) ≡ with_entries R (filter (λ e. p e.0) m) (filter (λ e. p e.0) es)
    with_filtered m [] r = refl
    with_filtered m (e ∷ es) r =
        with_filtered (insert_entry R m e.0 e.1) es (put_rises e.0 e.1 m r)
        ∙ ap (λ x. with_entries R x (filter (λ y. p y.0) es)) (put_filtered e.0 e.1 m r) ∙ sym (by (p e.0))
      where
        by : (t : Bool) → with_entries R (filter (λ y. p y.0) m)
            (cond t (e ∷ filter (λ y. p y.0) es) (filter (λ y. p y.0) es))
            ≡ with_entries R (cond t (insert_entry R (filter (λ y. p y.0) m) e.0 e.1) (filter (λ y. p y.0) m))
            (filter (λ y. p y.0) es)
        by true = refl
        by false = refl

    -- the map of the entries that pass is what passes of the map
    pub map_filtered : (es : List (K × X)) → filter (λ e. p e.0) (map_of R es) ≡ map_of R (filter (λ e. p e.0) es)
    map_filtered es = with_filtered [] es tt

    -- so what is given for those that pass alone is given of the map of those that pass
    pub given_of_filtered : {A : Type 0} (g : K × X → List A) → ((e : K × X) → p e.0 ≡ false → g e ≡ [])
        → (es : List (K × X))
        → flat_map g (map_of R es) ≡ flat_map g (map_of R (filter (λ e. p e.0) es))
    given_of_filtered {A} g none es = dropped (map_of R es) ∙ ap (flat_map g) (map_filtered es)
      where
        dropped : (xs : List (K × X)) → flat_map g xs ≡ flat_map g (filter (λ e. p e.0) xs)
        dropped [] = refl
        dropped (x ∷ xs) = by (dropped xs) (p x.0) refl
          where
            by : flat_map g xs ≡ flat_map g (filter (λ e. p e.0) xs) → (t : Bool) → p x.0 ≡ t
                → g x ++ flat_map g xs ≡ flat_map g (cond t (x ∷ filter (λ e. p e.0) xs) (filter (λ e. p e.0) xs))
            by more true h = ap (λ l. g x ++ l) more
            by more false h = ap (λ l. l ++ flat_map g xs) (none x h) ∙ more
