-- Maps that have as many entries as were put into them: no key stood twice.
use Rattle.std.proofs.Common.{◌≡◌, ◌≤◌, ◌+◌, suc, Bool, true, false, cond, List, [], ◌∷◌, ◌++◌, length, map}
use Rattle.std.proofs.Common.{Some, None, refl, sym, ap, ◌∙◌, subst, true≢false, find, arith}
use Rattle.std.proofs.Common.{append_assoc, append-nil}
use Rattle.std.specs.declared.cmp.Ordering.{Ordering}
use Rattle.std.specs.declared.cmp.Ordering.TheVariants.{Less, Equal, Greater}
use Rattle.std.specs.BTreeMap.{insert_entry, is_at}
use Rattle.std.specs.Cmp.{IsTotalOrder}
use Rattle.std.specs.List.{AllByRecursion}
use Rattle.std.specs.List.Sorted.{IsStrictlySortedBy}
use Rattle.std.specs.Map.{keys_of, lookup}
use Rattle.std.specs.Option.{option_or}
use Rattle.std.specs.Ordering.{is_eq, ordering_reverse, match_ordering}
use Rattle.std.proofs.lemmas.List.{map-append}
use Rattle.std.proofs.lemmas.List.Folds.{find-append}
use Rattle.cedar_data.specs.Maps.{with_entries, map_of}
use Rattle.schema_convert_faults.proofs.Among.{HasNot, AreFresh, none_cond}
use Rattle.schema_convert_openings.proofs.FirstRepeat.{AreNew}
use Rattle.schema_convert_faults.proofs.Valued.{put}

turned_less : (a : Ordering) → ordering_reverse a ≡ Greater → a ≡ Less
turned_less Less h = refl
turned_less Equal h = cc
turned_less Greater h = cc

module _ {K X : Type 0} (R : K → K → Ordering) (o : IsTotalOrder R) where
  abbrev Sorted : List (K × X) → Type 0
  Sorted es = IsStrictlySortedBy R (keys_of es)

  abbrev Below : K → List (K × X) → Type 0
  Below k es = AllByRecursion (λ y. R k y ≡ Less) (keys_of es)

  below_put : (q k : K) (v : X) (es : List (K × X)) → R q k ≡ Less → Below q es → Below q (insert_entry R es k v)
  below_put q k v [] less below = (less, tt)
  below_put q k v (e ∷ es) less below = by (below_put q k v es less below.1) (R k e.0)
    where
      by : Below q (insert_entry R es k v) → (r : Ordering)
          → Below q (match_ordering r ((k, v) ∷ e ∷ es) ((e.0, v) ∷ es) (e ∷ insert_entry R es k v))
      by rest Less = (less, below)
      by rest Equal = below
      by rest Greater = (below.0, rest)

  below_all : (q k : K) (es : List (K × X)) → R q k ≡ Less → Below k es → Below q es
  below_all q k [] less below = tt
  below_all q k (e ∷ es) less below = (o.trans q k e.0 less below.0, below_all q k es less below.1)

  sorted_put : (k : K) (v : X) (es : List (K × X)) → Sorted es → Sorted (insert_entry R es k v)
  unfolding IsStrictlySortedBy
  sorted_put k v [] sorted = (tt, tt)
  sorted_put k v (e ∷ es) sorted = by (sorted_put k v es sorted.1) (R k e.0) refl
    where
      by : Sorted (insert_entry R es k v) → (r : Ordering) → R k e.0 ≡ r
          → Sorted (match_ordering r ((k, v) ∷ e ∷ es) ((e.0, v) ∷ es) (e ∷ insert_entry R es k v))
      by rest Less h = ((h, below_all k e.0 es h sorted.0), sorted)
      by rest Equal h = sorted
      by rest Greater h =
          (below_put e.0 k v es (turned_less (R e.0 k) (sym (o.antisymm k e.0) ∙ h)) sorted.0, rest)

  none_below : (k : K) (es : List (K × X)) → Below k es → lookup (is_at (R k)) es ≡ None
  none_below k [] below = refl
  none_below k (e ∷ es) below =
      ap (λ r. cond (is_eq r) (Some e.1) (lookup (is_at (R k)) es)) below.0 ∙ none_below k es below.1

  -- one entry more, or none
  at_most : (k : K) (v : X) (es : List (K × X)) → length (insert_entry R es k v) ≤ suc (length es)
  at_most k v [] = omega arith
  at_most k v (e ∷ es) = by (R k e.0) (at_most k v es)
    where
      by : (r : Ordering) → length (insert_entry R es k v) ≤ suc (length es)
          → length (match_ordering r ((k, v) ∷ e ∷ es) ((e.0, v) ∷ es) (e ∷ insert_entry R es k v))
          ≤ suc (length (e ∷ es))
      by Less h = omega arith
      by Equal h = omega arith
      by Greater h = omega (arith, h)

  -- a key that goes in beside all others is new
  new_key : (k : K) (v : X) (es : List (K × X)) → Sorted es → length (insert_entry R es k v) ≡ suc (length es)
      → HasNot R k es
  unfolding IsStrictlySortedBy
  new_key k v [] sorted more = refl
  new_key k v (e ∷ es) sorted more = by (new_key k v es sorted.1) (R k e.0) refl more
    where
      by : (length (insert_entry R es k v) ≡ suc (length es) → HasNot R k es) → (r : Ordering) → R k e.0 ≡ r
          → length (match_ordering r ((k, v) ∷ e ∷ es) ((e.0, v) ∷ es) (e ∷ insert_entry R es k v))
          ≡ suc (length (e ∷ es))
          → cond (is_eq (R k e.0)) (Some e.1) (lookup (is_at (R k)) es) ≡ None
      by rest Less h m =
          ap (λ r. cond (is_eq r) (Some e.1) (lookup (is_at (R k)) es)) h
          ∙ none_below k es (below_all k e.0 es h sorted.0)
      by rest Equal h m = absurd (omega (arith, m))
      by rest Greater h m =
          let one : length (insert_entry R es k v) ≡ suc (length es) = omega (arith, m) in
          ap (λ r. cond (is_eq r) (Some e.1) (lookup (is_at (R k)) es)) h ∙ rest one

  all_at_most : (m es : List (K × X)) → length (with_entries R m es) ≤ length m + length es
  all_at_most m [] = omega arith
  all_at_most m (e ∷ es) =
      let one = at_most e.0 e.1 m in
      let all = all_at_most (insert_entry R m e.0 e.1) es in
      omega (arith, one, all)

  pub at_most_all : (es : List (K × X)) → length (map_of R es) ≤ length es
  at_most_all es =
      let all : length (with_entries R [] es) ≤ length {A = K × X} [] + length es = all_at_most [] es in
      omega (arith, all)

  all_new : (m es : List (K × X)) → Sorted m → length (with_entries R m es) ≡ length m + length es → AreFresh R m es
  all_new m [] sorted same = tt
  all_new m (e ∷ es) sorted same =
      let one = at_most e.0 e.1 m in
      let all = all_at_most (insert_entry R m e.0 e.1) es in
      let here : length (insert_entry R m e.0 e.1) ≡ suc (length m) = omega (arith, one, all, same) in
      let rest : length (with_entries R (insert_entry R m e.0 e.1) es) ≡ length (insert_entry R m e.0 e.1) + length es =
      omega (arith, here, same) in
      (new_key e.0 e.1 m sorted here, all_new (insert_entry R m e.0 e.1) es (sorted_put e.0 e.1 m sorted) rest)

  -- entries of which the map has as many are all new to it
  pub fresh : (es : List (K × X)) → length (map_of R es) ≡ length es → AreFresh R [] es
  unfolding IsStrictlySortedBy
  fresh es same =
      let all : length (with_entries R [] es) ≡ length {A = K × X} [] + length es = omega (arith, same) in
      all_new [] es tt all

  -- and have keys of their own, whatever of them tells them apart
  module _ {T : Type 0} (test : T → T → Bool) (part : K → T)
      (tells : (a b : K) → test (part a) (part b) ≡ is_eq (R a b)) where
    abbrev Covers : List (K × X) → List T → Type 0
    Covers m done = (q : K) → HasNot R q m → find (test (part q)) done ≡ None

    covers_more : (m : List (K × X)) (done : List T) (k : K) (v : X) → Covers m done
        → Covers (insert_entry R m k v) (done ++ part k ∷ [])
    covers_more m done k v covers q h =
        let both = none_cond (is_eq (R q k)) v (lookup (is_at (R q)) m) (sym (put R o q k v m) ∙ h) in
        find-append (test (part q)) done (part k ∷ [])
        ∙ (ap (λ f. option_or f (find (test (part q)) (part k ∷ []))) (covers q both.1)
        ∙ ap (λ b. cond b (Some (part k)) None) (tells q k ∙ both.0))

    covers_all : (m es : List (K × X)) (done : List T) → Covers m done
        → Covers (with_entries R m es) (done ++ map (λ e. part e.0) es)
    covers_all m [] done covers = subst (Covers m) (sym (append-nil done)) covers
    covers_all m (e ∷ es) done covers =
        subst (Covers (with_entries R (insert_entry R m e.0 e.1) es))
        (append_assoc done (part e.0 ∷ []) (map (λ x. part x.0) es))
        (covers_all (insert_entry R m e.0 e.1) es (done ++ part e.0 ∷ []) (covers_more m done e.0 e.1 covers))

    -- a key that the map has not is told apart from all that were put into it
    pub absent_parts : (es : List (K × X)) (q : K) → HasNot R q (map_of R es)
        → find (test (part q)) (map (λ e. part e.0) es) ≡ None
    absent_parts es q h = covers_all [] es [] (λ k g. refl) q h

    parts_new : (m es : List (K × X)) (done : List T) → Covers m done → AreFresh R m es
        → AreNew test done (map (λ e. part e.0) es)
    parts_new m [] done covers new = tt
    parts_new m (e ∷ es) done covers new = (
      covers e.0 new.0,
      parts_new (insert_entry R m e.0 e.1) es (done ++ part e.0 ∷ []) (covers_more m done e.0 e.1 covers) new.1,
    )

    pub keys_new : (es : List (K × X)) → length (map_of R es) ≡ length es → AreNew test [] (map (λ e. part e.0) es)
    keys_new es same = parts_new [] es [] (λ q h. refl) (fresh es same)

-- items are new where parts of them are that the same items have in common
module _ {N T : Type 0} (same : N → N → Bool) (test : T → T → Bool) (part : N → T)
    (alike : (a b : N) → same a b ≡ true → test (part a) (part b) ≡ true) where
  none_same : (x : N) (done : List N) → find (test (part x)) (map part done) ≡ None → find (same x) done ≡ None
  none_same x [] h = refl
  none_same x (d ∷ done) h =
      let both = none_cond (test (part x) (part d)) (part d) (find (test (part x)) (map part done)) h in
      by (same x d) refl both.0 (none_same x done both.1)
    where
      by : (b : Bool) → same x d ≡ b → test (part x) (part d) ≡ false → find (same x) done ≡ None
          → cond b (Some d) (find (same x) done) ≡ None
      by true e other rest = absurd (true≢false (sym (alike x d e) ∙ other))
      by false e other rest = rest

  pub items_new : (done xs : List N) → AreNew test (map part done) (map part xs) → AreNew same done xs
  items_new done [] h = tt
  items_new done (x ∷ xs) h = (
    none_same x done h.0,
    items_new (done ++ x ∷ []) xs
        (subst (λ l. AreNew test l (map part xs)) (sym (map-append part done (x ∷ []))) h.1),
  )
