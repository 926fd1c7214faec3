-- Entries whose keys rise are the map of themselves.
use Rattle.std.proofs.Common.{◌≡◌, ◌+◌, ◌<◌, ℕ, cond, List, [], ◌∷◌, ◌++◌, length, get_or}
use Rattle.std.proofs.Common.{suc, zero, Some, None, refl, sym, ap, ◌∙◌, subst, append_assoc, append-nil}
use Rattle.std.specs.declared.cmp.Ordering.{Ordering}
use Rattle.std.specs.declared.cmp.Ordering.TheVariants.{Less, Equal, Greater}
use Rattle.std.specs.BTreeMap.{insert_entry, is_at}
use Rattle.std.specs.Cmp.{IsTotalOrder}
use Rattle.std.specs.List.{AllByRecursion}
use Rattle.std.specs.List.Sorted.{IsStrictlySortedBy}
use Rattle.std.specs.Map.{keys_of, lookup}
use Rattle.std.specs.Option.{option_or}
use Rattle.std.specs.Ordering.{is_eq, ordering_reverse, match_ordering}
use Rattle.std.proofs.lemmas.Map.Keys.{sorted_from_all_adjacent}
use Rattle.cedar_data.specs.Maps.{with_entries, map_of, last_at}
use Rattle.cedar_data.proofs.Options.{or_none}

module _ {K X : Type 0} (R : K → K → Ordering) (o : IsTotalOrder R) where
  -- entries each of whose keys is less than the next
  pub rising : (es : List (K × X))
      → ((k : ℕ) (d : K × X) → k + 1 < length es → R (get_or es k d).0 (get_or es (k + 1) d).0 ≡ Less)
      → IsStrictlySortedBy R (keys_of es)
  unfolding IsStrictlySortedBy
  rising [] h = tt
  rising (e ∷ es) h = sorted_from_all_adjacent o (keys_of (e ∷ es)) e.0 (λ k lt. at k lt)
    where
      key_at : (xs : List (K × X)) (k : ℕ) → get_or (keys_of xs) k e.0 ≡ (get_or xs k e).0
      key_at [] k = refl
      key_at (x ∷ xs) zero = refl
      key_at (x ∷ xs) (suc k) = key_at xs k

      keys_long : (xs : List (K × X)) → length (keys_of xs) ≡ length xs
      keys_long [] = refl
      keys_long (x ∷ xs) = ap suc (keys_long xs)

      at : (k : ℕ) → k + 1 < length (keys_of (e ∷ es))
          → R (get_or (keys_of (e ∷ es)) k e.0) (get_or (keys_of (e ∷ es)) (k + 1) e.0) ≡ Less
      at k lt =
          subst (λ x. R x (get_or (keys_of (e ∷ es)) (k + 1) e.0) ≡ Less) (sym (key_at (e ∷ es) k))
          (subst (λ y. R (get_or (e ∷ es) k e).0 y ≡ Less) (sym (key_at (e ∷ es) (k + 1)))
          (h k e (subst (λ n. k + 1 < n) (keys_long (e ∷ es)) lt)))

  -- the keys before are all below
  abbrev Above : List (K × X) → K → Type 0
  Above [] k = Unit {0}
  Above (e ∷ es) k = (R e.0 k ≡ Less) × Above es k

  -- an entry above all others stands last
  put_last : (es : List (K × X)) (k : K) (v : X) → Above es k → insert_entry R es k v ≡ es ++ (k, v) ∷ []
  put_last [] k v a = refl
  put_last (e ∷ es) k v a =
      ap (λ r. match_ordering r ((k, v) ∷ e ∷ es) ((e.0, v) ∷ es) (e ∷ insert_entry R es k v))
      (o.antisymm k e.0 ∙ ap ordering_reverse a.0)
      ∙ ap (λ l. e ∷ l) (put_last es k v a.1)

  -- the keys before are below each key behind
  abbrev AllAbove : List (K × X) → List (K × X) → Type 0
  AllAbove before [] = Unit {0}
  AllAbove before (e ∷ es) = Above before e.0 × AllAbove before es

  above_more : (before : List (K × X)) (e : K × X) (k : K) → Above before k → R e.0 k ≡ Less
      → Above (before ++ e ∷ []) k
  above_more [] e k a less = (less, tt)
  above_more (x ∷ before) e k a less = (a.0, above_more before e k a.1 less)

  all_more : (before : List (K × X)) (e : K × X) (es : List (K × X)) → AllAbove before es
      → AllByRecursion (λ y. R e.0 y ≡ Less) (keys_of es) → AllAbove (before ++ e ∷ []) es
  all_more before e [] a below = tt
  all_more before e (x ∷ es) a below = (above_more before e x.0 a.0 below.0, all_more before e es a.1 below.1)

  none_above : (es : List (K × X)) → AllAbove [] es
  none_above [] = tt
  none_above (e ∷ es) = (tt, none_above es)

  put_behind : (before es : List (K × X)) → AllAbove before es → IsStrictlySortedBy R (keys_of es)
      → with_entries R before es ≡ before ++ es
  unfolding IsStrictlySortedBy
  put_behind before [] a sorted = sym (append-nil before)
  put_behind before (e ∷ es) a sorted =
      ap (λ m. with_entries R m es) (put_last before e.0 e.1 a.0)
      ∙ put_behind (before ++ e ∷ []) es (all_more before e es a.1 sorted.0) sorted.1
      ∙ append_assoc before (e ∷ []) es

  pub map_of_rising : (es : List (K × X)) → IsStrictlySortedBy R (keys_of es) → map_of R es ≡ es
  map_of_rising es sorted = put_behind [] es (none_above es) sorted

  -- a key that is the same as one below others is none of them
  none_behind : (q k : K) (es : List (K × X)) → R q k ≡ Equal → AllByRecursion (λ y. R k y ≡ Less) (keys_of es)
      → last_at (is_at (R q)) es ≡ None
  none_behind q k [] same below = refl
  none_behind q k (e ∷ es) same below =
      let less : R q e.0 ≡ Less = o.congr q k e.0 same ∙ below.0 in
      ap (λ l. option_or l (cond (is_eq (R q e.0)) (Some e.1) None)) (none_behind q k es same below.1)
      ∙ ap (λ r. cond (is_eq r) (Some e.1) None) less

  -- the first value at a key is the last one
  pub once : (q : K) (es : List (K × X)) → IsStrictlySortedBy R (keys_of es)
      → lookup (is_at (R q)) es ≡ last_at (is_at (R q)) es
  unfolding IsStrictlySortedBy
  once q [] sorted = refl
  once q (e ∷ es) sorted = by (once q es sorted.1) (R q e.0) refl
    where
      by : lookup (is_at (R q)) es ≡ last_at (is_at (R q)) es → (r : Ordering) → R q e.0 ≡ r
          → cond (is_eq r) (Some e.1) (lookup (is_at (R q)) es)
          ≡ option_or (last_at (is_at (R q)) es) (cond (is_eq r) (Some e.1) None)
      by more Less s = more ∙ sym (or_none (last_at (is_at (R q)) es))
      by more Equal s = ap (λ l. option_or l (Some e.1)) (sym (none_behind q e.0 es s sorted.0))
      by more Greater s = more ∙ sym (or_none (last_at (is_at (R q)) es))
