-- Maps that are made of entries in turn: their keys, and their values as they are seen.
use Rattle.std.proofs.Common.{◌≡◌, Bool, true, false, ◌||◌, List, [], ◌∷◌, map, All, refl, sym, ap, ◌∙◌}
use Rattle.std.specs.declared.cmp.Ordering.{Ordering}
use Rattle.std.specs.declared.cmp.Ordering.TheVariants.{Less, Equal, Greater}
use Rattle.std.specs.BTreeMap.{insert_entry}
use Rattle.std.specs.Cmp.{IsTotalOrder}
use Rattle.std.specs.List.{list_any, AllByRecursion}
use Rattle.std.specs.List.Sorted.{IsStrictlySortedBy}
use Rattle.std.specs.Map.{keys_of, values_of}
use Rattle.std.specs.Ordering.{match_ordering, ordering_reverse}
use Rattle.std.proofs.lemmas.List.Elements.{All-nil, All-head, All-tail}
use Rattle.std.proofs.lemmas.Map.Views.{All-keys-insert_entry, All-values-insert_entry}
use Rattle.std.proofs.lemmas.Bool.{or_left, or_right}
use Rattle.cedar_data.specs.Entries.{on_value}
use Rattle.cedar_data.specs.Maps.{with_entries, map_of}
use Rattle.cedar_data.proofs.Orders.{all_above}

either_more : (a b c : Bool) → (b ≡ true → c ≡ true) → (a || b) ≡ true → (a || c) ≡ true
either_more true b c f h = refl
either_more false b c f h = f h

turned : {K : Type 0} (cmp : K → K → Ordering) → IsTotalOrder cmp → (a b : K) → cmp a b ≡ Greater → cmp b a ≡ Less
turned cmp o a b h = o.antisymm b a ∙ ap ordering_reverse h

module _ {K X : Type 0} (cmp : K → K → Ordering) where
  -- what holds of the keys, or of the values, of the entries holds of those of the map
  with_keys : (P : K → Type 0) (m es : List (K × X)) → All P (keys_of m) → All P (keys_of es)
      → All P (keys_of (with_entries cmp m es))
  with_keys P m [] a b = a
  with_keys P m (e ∷ es) a b =
      with_keys P (insert_entry cmp m e.0 e.1) es
      (All-keys-insert_entry cmp e.0 e.1 P m a (All-head P e.0 (keys_of es) b)) (All-tail P e.0 (keys_of es) b)

  with_values : (P : X → Type 0) (m es : List (K × X)) → All P (values_of m) → All P (values_of es)
      → All P (values_of (with_entries cmp m es))
  with_values P m [] a b = a
  with_values P m (e ∷ es) a b =
      with_values P (insert_entry cmp m e.0 e.1) es
      (All-values-insert_entry cmp e.0 e.1 P m a (All-head P e.1 (values_of es) b)) (All-tail P e.1 (values_of es) b)

  module _ (test : K → Bool) where
    -- a key that is there stays
    insert_kept : (es : List (K × X)) (k : K) (v : X) → list_any test (keys_of es) ≡ true
        → list_any test (keys_of (insert_entry cmp es k v)) ≡ true
    insert_kept [] k v h = cc
    insert_kept (e ∷ es) k v h = go (insert_kept es k v) (cmp k e.0)
      where
        go : (list_any test (keys_of es) ≡ true → list_any test (keys_of (insert_entry cmp es k v)) ≡ true)
            → (o : Ordering) → list_any test
            (keys_of (match_ordering o ((k, v) ∷ e ∷ es) ((e.0, v) ∷ es) (e ∷ insert_entry cmp es k v))) ≡ true
        go more Less = or_right (test k) (list_any test (keys_of (e ∷ es))) h
        go more Equal = h
        go more Greater = either_more (test e.0) (list_any test (keys_of es))
            (list_any test (keys_of (insert_entry cmp es k v))) more h

    with_kept : (m es : List (K × X)) → list_any test (keys_of m) ≡ true
        → list_any test (keys_of (with_entries cmp m es)) ≡ true
    with_kept m [] h = h
    with_kept m (e ∷ es) h = with_kept (insert_entry cmp m e.0 e.1) es (insert_kept m e.0 e.1 h)

    module _ (respects : (a b : K) → cmp a b ≡ Equal → test a ≡ test b) where
      -- a key that is put in is there, or one that is equal to it
      insert_there : (es : List (K × X)) (k : K) (v : X) → test k ≡ true
          → list_any test (keys_of (insert_entry cmp es k v)) ≡ true
      insert_there [] k v h = or_left (test k) false h
      insert_there (e ∷ es) k v h = go (insert_there es k v h) (cmp k e.0) refl
        where
          go : list_any test (keys_of (insert_entry cmp es k v)) ≡ true → (o : Ordering) → cmp k e.0 ≡ o
              → list_any test (keys_of (match_ordering o ((k, v) ∷ e ∷ es) ((e.0, v) ∷ es)
              (e ∷ insert_entry cmp es k v))) ≡ true
          go more Less is = or_left (test k) (list_any test (keys_of (e ∷ es))) h
          go more Equal is = or_left (test e.0) (list_any test (keys_of es)) (sym (respects k e.0 is) ∙ h)
          go more Greater is = or_right (test e.0) (list_any test (keys_of (insert_entry cmp es k v))) more

      -- each key of the entries is a key of the map, or equal to one
      pub with_there : (m es : List (K × X)) → list_any test (keys_of es) ≡ true
          → list_any test (keys_of (with_entries cmp m es)) ≡ true
      with_there m [] h = cc
      with_there m (e ∷ es) h = go (with_there (insert_entry cmp m e.0 e.1) es) (test e.0) refl h
        where
          go : (list_any test (keys_of es) ≡ true
              → list_any test (keys_of (with_entries cmp (insert_entry cmp m e.0 e.1) es)) ≡ true)
              → (b : Bool) → test e.0 ≡ b → (b || list_any test (keys_of es)) ≡ true
              → list_any test (keys_of (with_entries cmp (insert_entry cmp m e.0 e.1) es)) ≡ true
          go more true is h = with_kept (insert_entry cmp m e.0 e.1) es (insert_there m e.0 e.1 is)
          go more false is h = more h

  module _ (o : IsTotalOrder cmp) where
    insert_behind : (x : K) (es : List (K × X)) (k : K) (v : X) → cmp x k ≡ Less
        → AllByRecursion (λ y. cmp x y ≡ Less) (keys_of es)
        → AllByRecursion (λ y. cmp x y ≡ Less) (keys_of (insert_entry cmp es k v))
    insert_behind x [] k v lt a = (lt, tt)
    insert_behind x (e ∷ es) k v lt a = go (insert_behind x es k v lt a.1) (cmp k e.0)
      where
        go : AllByRecursion (λ y. cmp x y ≡ Less) (keys_of (insert_entry cmp es k v)) → (r : Ordering)
            → AllByRecursion (λ y. cmp x y ≡ Less)
            (keys_of (match_ordering r ((k, v) ∷ e ∷ es) ((e.0, v) ∷ es) (e ∷ insert_entry cmp es k v)))
        go more Less = (lt, a)
        go more Equal = a
        go more Greater = (a.0, more)

    insert_sorted : (es : List (K × X)) (k : K) (v : X) → IsStrictlySortedBy cmp (keys_of es)
        → IsStrictlySortedBy cmp (keys_of (insert_entry cmp es k v))
    unfolding IsStrictlySortedBy
    insert_sorted [] k v up = (tt, tt)
    insert_sorted (e ∷ es) k v up = go (insert_sorted es k v up.1) (cmp k e.0) refl
      where
        go : IsStrictlySortedBy cmp (keys_of (insert_entry cmp es k v)) → (r : Ordering) → cmp k e.0 ≡ r
            → IsStrictlySortedBy cmp (keys_of
            (match_ordering r ((k, v) ∷ e ∷ es) ((e.0, v) ∷ es) (e ∷ insert_entry cmp es k v)))
        go more Less is = ((is, all_above o k e.0 (keys_of es) is up.0), up)
        go more Equal is = up
        go more Greater is = (insert_behind e.0 es k v (turned cmp o k e.0 is) up.0, more)

    with_sorted : (m es : List (K × X)) → IsStrictlySortedBy cmp (keys_of m)
        → IsStrictlySortedBy cmp (keys_of (with_entries cmp m es))
    with_sorted m [] up = up
    with_sorted m (e ∷ es) up = with_sorted (insert_entry cmp m e.0 e.1) es (insert_sorted m e.0 e.1 up)

    -- the keys of a map rise
    pub map_sorted : (es : List (K × X)) → IsStrictlySortedBy cmp (keys_of (map_of cmp es))
    unfolding IsStrictlySortedBy
    map_sorted es = with_sorted [] es tt

module _ {K X Y : Type 0} (cmp : K → K → Ordering) (h : X → Y) where
  insert_seen : (es : List (K × X)) (k : K) (v : X)
      → map (on_value h) (insert_entry cmp es k v) ≡ insert_entry cmp (map (on_value h) es) k (h v)
  insert_seen [] k v = refl
  insert_seen (e ∷ es) k v = go (insert_seen es k v) (cmp k e.0)
    where
      go : map (on_value h) (insert_entry cmp es k v) ≡ insert_entry cmp (map (on_value h) es) k (h v) → (o : Ordering)
          → map (on_value h) (match_ordering o ((k, v) ∷ e ∷ es) ((e.0, v) ∷ es) (e ∷ insert_entry cmp es k v))
          ≡ match_ordering o ((k, h v) ∷ on_value h e ∷ map (on_value h) es) ((e.0, h v) ∷ map (on_value h) es)
          (on_value h e ∷ insert_entry cmp (map (on_value h) es) k (h v))
      go more Less = refl
      go more Equal = refl
      go more Greater = ap (λ l. on_value h e ∷ l) more

  with_seen : (m es : List (K × X))
      → map (on_value h) (with_entries cmp m es) ≡ with_entries cmp (map (on_value h) m) (map (on_value h) es)
  with_seen m [] = refl
  with_seen m (e ∷ es) =
      with_seen (insert_entry cmp m e.0 e.1) es
      ∙ ap (λ l. with_entries cmp l (map (on_value h) es)) (insert_seen m e.0 e.1)

  -- the map of what is seen of the entries is what is seen of their map
  pub map_seen : (es : List (K × X)) → map (on_value h) (map_of cmp es) ≡ map_of cmp (map (on_value h) es)
  map_seen es = with_seen [] es

module _ {K X : Type 0} (cmp : K → K → Ordering) where
  pub map_keys : (P : K → Type 0) (es : List (K × X)) → All P (keys_of es) → All P (keys_of (map_of cmp es))
  map_keys P es a = with_keys cmp P [] es (All-nil P) a

  pub map_values : (P : X → Type 0) (es : List (K × X)) → All P (values_of es) → All P (values_of (map_of cmp es))
  map_values P es a = with_values cmp P [] es (All-nil P) a
