-- Maps whose keys go by names: what they have beside a name, and that they are told by it.
use Rattle.std.proofs.Common.{◌≡◌, Bool, true, false, cond, List, [], ◌∷◌, map, Option, Some, None, refl, sym, ap, ◌∙◌}
use Rattle.std.proofs.Common.{subst, true≢false, is_some}
use Rattle.std.specs.declared.cmp.Ordering.{Ordering}
use Rattle.std.specs.declared.cmp.Ordering.TheVariants.{Less, Equal, Greater}
use Rattle.std.specs.Cmp.{IsTotalOrder, tied_itself}
use Rattle.std.specs.Ordering.{ordering_reverse, is_eq, match_ordering}
use Rattle.std.specs.Option.{option_or, option_map}
use Rattle.std.specs.BTreeMap.{insert_entry, is_at}
use Rattle.std.specs.List.{AllByRecursion}
use Rattle.std.specs.List.Sorted.{IsStrictlySortedBy}
use Rattle.std.specs.Map.{lookup}
use Rattle.std.proofs.lemmas.Map.Keys.{sorted_head, sorted_tail}
use Rattle.std.proofs.lemmas.Map.Lookups.{CmpEqualImpliesEq}
use Rattle.std.proofs.lemmas.Option.{same_Some}
use Rattle.cedar_data.specs.Maps.{with_entries, map_of, last_at}
use Rattle.cedar_data.proofs.Orders.{equal_from, all_above}
use Rattle.cedar_data.proofs.Options.{or_none}

greater_not : {X : Type 0} → Greater ≡ Equal → X
greater_not h = absurd (true≢false (sym (ap is_eq h)))

-- of two tests that do not both pass, either may come first
cond_swap : {X : Type 0} (s t : Bool) (a b c : X) → (s ≡ true → t ≡ true → ⊥)
    → cond s a (cond t b c) ≡ cond t b (cond s a c)
cond_swap true true a b c h = absurd (h refl refl)
cond_swap true false a b c h = refl
cond_swap false t a b c h = refl

cond_twice : {X : Type 0} (s : Bool) (a b c : X) → cond s a c ≡ cond s a (cond s b c)
cond_twice true a b c = refl
cond_twice false a b c = refl

or_cond : {X : Type 0} (a : Option X) (t : Bool) (v : X) (old : Option X)
    → option_or a (cond t (Some v) old) ≡ option_or (option_or a (cond t (Some v) None)) old
or_cond None true v old = refl
or_cond None false v old = refl
or_cond (Some x) t v old = refl

module _ {K N : Type 0} (X : Type 0) (order : N → N → Ordering) (total : IsTotalOrder order)
    (exact : CmpEqualImpliesEq order) (name : K → N) where
  abbrev by_name : K → K → Ordering
  by_name a b = order (name a) (name b)

  abbrev pub is_named : N → K → Bool
  is_named n k = is_at (order n) (name k)

  module _ (n : N) where
    passes_same : (k l : K) → by_name k l ≡ Equal → is_named n k ≡ is_named n l
    passes_same k l h = ap (is_at (order n)) (exact (name k) (name l) h)

    not_both : (k l : K) → by_name k l ≡ Greater → is_named n k ≡ true → is_named n l ≡ true → ⊥
    not_both k l g s t =
        let same : name k ≡ name l = sym (exact n (name k) (equal_from (order n (name k)) s))
        ∙ exact n (name l) (equal_from (order n (name l)) t) in
        greater_not (sym g ∙ (ap (λ m. order m (name l)) same ∙ tied_itself total (name l)))

    inserted_as : (e : K × X) (es : List (K × X)) (k : K) (v : X) (c : Ordering) → by_name k e.0 ≡ c
        → lookup (is_named n) (insert_entry by_name es k v) ≡ cond (is_named n k) (Some v) (lookup (is_named n) es)
        → lookup (is_named n) (match_ordering c ((k, v) ∷ e ∷ es) ((e.0, v) ∷ es) (e ∷ insert_entry by_name es k v))
        ≡ cond (is_named n k) (Some v) (cond (is_named n e.0) (Some e.1) (lookup (is_named n) es))
    inserted_as e es k v Less h later = refl
    inserted_as e es k v Equal h later =
        let same : is_named n e.0 ≡ is_named n k = sym (passes_same k e.0 h) in
        ap (λ t. cond t (Some v) (lookup (is_named n) es)) same
        ∙ (cond_twice (is_named n k) (Some v) (Some e.1) (lookup (is_named n) es)
        ∙ ap (λ t. cond (is_named n k) (Some v) (cond t (Some e.1) (lookup (is_named n) es))) (sym same))
    inserted_as e es k v Greater h later =
        ap (cond (is_named n e.0) (Some e.1)) later
        ∙ cond_swap (is_named n e.0) (is_named n k) (Some e.1) (Some v) (lookup (is_named n) es)
        (λ s t. not_both k e.0 h t s)

    lookup_inserted : (m : List (K × X)) (k : K) (v : X)
        → lookup (is_named n) (insert_entry by_name m k v) ≡ cond (is_named n k) (Some v) (lookup (is_named n) m)
    lookup_inserted [] k v = refl
    lookup_inserted (e ∷ es) k v = inserted_as e es k v (by_name k e.0) refl (lookup_inserted es k v)

    lookup_with : (m es : List (K × X))
        → lookup (is_named n) (with_entries by_name m es) ≡ option_or (last_at (is_named n) es) (lookup (is_named n) m)
    lookup_with m [] = refl
    lookup_with m (e ∷ es) =
        lookup_with (insert_entry by_name m e.0 e.1) es
        ∙ (ap (option_or (last_at (is_named n) es)) (lookup_inserted m e.0 e.1)
        ∙ or_cond (last_at (is_named n) es) (is_named n e.0) e.1 (lookup (is_named n) m))

    -- beside a name a map has what was put there last
    pub lookup_map : (es : List (K × X)) → lookup (is_named n) (map_of by_name es) ≡ last_at (is_named n) es
    lookup_map es = lookup_with [] es ∙ or_none (last_at (is_named n) es)

  -- the names, in the entries' order
  abbrev pub names_of : List (K × X) → List N
  names_of es = map (λ e. name e.0) es

  all_inserted : (P : N → Type 0) (es : List (K × X)) (k : K) (v : X) → AllByRecursion P (names_of es) → P (name k)
      → AllByRecursion P (names_of (insert_entry by_name es k v))
  all_inserted P [] k v h p = (p, tt)
  all_inserted P (e ∷ es) k v h p = by (by_name k e.0) (all_inserted P es k v h.1 p)
    where
      by : (c : Ordering) → AllByRecursion P (names_of (insert_entry by_name es k v))
          → AllByRecursion P
          (names_of (match_ordering c ((k, v) ∷ e ∷ es) ((e.0, v) ∷ es) (e ∷ insert_entry by_name es k v)))
      by Less l = (p, h)
      by Equal l = h
      by Greater l = (h.0, l)

  inserted_rises : (es : List (K × X)) (k : K) (v : X) → IsStrictlySortedBy order (names_of es)
      → IsStrictlySortedBy order (names_of (insert_entry by_name es k v))
  unfolding IsStrictlySortedBy
  inserted_rises [] k v s = (tt, tt)
  inserted_rises (e ∷ es) k v s = by (by_name k e.0) refl (inserted_rises es k v s.1)
    where
      by : (c : Ordering) → by_name k e.0 ≡ c → IsStrictlySortedBy order (names_of (insert_entry by_name es k v))
          → IsStrictlySortedBy order
          (names_of (match_ordering c ((k, v) ∷ e ∷ es) ((e.0, v) ∷ es) (e ∷ insert_entry by_name es k v)))
      by Less h l = ((h, all_above total (name k) (name e.0) (names_of es) h s.0), s)
      by Equal h l = s
      by Greater h l = (
        all_inserted (λ y. order (name e.0) y ≡ Less) es k v s.0
            (total.antisymm (name e.0) (name k) ∙ ap ordering_reverse h),
        l,
      )

  with_rises : (m es : List (K × X)) → IsStrictlySortedBy order (names_of m)
      → IsStrictlySortedBy order (names_of (with_entries by_name m es))
  with_rises m [] s = s
  with_rises m (e ∷ es) s = with_rises (insert_entry by_name m e.0 e.1) es (inserted_rises m e.0 e.1 s)

  -- the names of a map rise
  pub map_rises : (es : List (K × X)) → IsStrictlySortedBy order (names_of (map_of by_name es))
  unfolding IsStrictlySortedBy
  map_rises es = with_rises [] es tt

  -- what stands beside a name, behind an entry with a name that is less or the same
  abbrev pub found : N → List (K × X) → Option X
  found n es = lookup (is_named n) es

  pub none_above : (n : N) (es : List (K × X)) → AllByRecursion (λ y. order n y ≡ Less) (names_of es)
      → found n es ≡ None
  none_above n [] h = refl
  none_above n (e ∷ es) h = ap (λ c. cond (is_eq c) (Some e.1) (found n es)) h.0 ∙ none_above n es h.1

  -- where the names rise, what stands beside a name is what stands there last
  pub lookup_rising : (n : N) (es : List (K × X)) → IsStrictlySortedBy order (names_of es)
      → lookup (is_named n) es ≡ last_at (is_named n) es
  lookup_rising n [] s = refl
  lookup_rising n (e ∷ es) s =
      by (is_named n e.0) refl (lookup_rising n es (sorted_tail order (name e.0) (names_of es) s))
    where
      beyond : is_named n e.0 ≡ true → found n es ≡ None
      beyond h =
          none_above n es
          (subst (λ m. AllByRecursion (λ y. order m y ≡ Less) (names_of es))
          (sym (exact n (name e.0) (equal_from (order n (name e.0)) h))) (sorted_head order (name e.0) (names_of es) s))

      by : (b : Bool) → is_named n e.0 ≡ b → found n es ≡ last_at (is_named n) es
          → cond b (Some e.1) (found n es) ≡ option_or (last_at (is_named n) es) (cond b (Some e.1) None)
      by true h r = ap (λ o. option_or o (Some e.1)) (sym (beyond h) ∙ r)
      by false h r = r ∙ sym (or_none (last_at (is_named n) es))

  at_head : (e : K × X) (es : List (K × X)) → found (name e.0) (e ∷ es) ≡ Some e.1
  at_head e es = ap (λ c. cond (is_eq c) (Some e.1) (found (name e.0) es)) (tied_itself total (name e.0))

  not_some : {Y Z : Type 0} (y : Y) → Some y ≡ None → Z
  not_some y h = absurd (true≢false (ap is_some h))

  module _ (Y C : Type 0) (key : K → C) (value : X → Y) (same : (k l : K) → name k ≡ name l → key k ≡ key l) where
    abbrev pub read : List (K × X) → List (C × Y)
    read es = map (λ (e : K × X). let p : C × Y = (key e.0, value e.1) in p) es

    -- the two have the same beside each name, as it is read
    abbrev AreAlike : List (K × X) → List (K × X) → Type 0
    AreAlike es fs = (n : N) → option_map value (found n es) ≡ option_map value (found n fs)

    module _ (e f : K × X) (es fs : List (K × X)) (s : IsStrictlySortedBy order (names_of (e ∷ es)))
        (t : IsStrictlySortedBy order (names_of (f ∷ fs))) (h : AreAlike (e ∷ es) (f ∷ fs)) where
      heads_by : (c : Ordering) → order (name e.0) (name f.0) ≡ c → order (name e.0) (name f.0) ≡ Equal
      heads_by Less p =
          let beyond = none_above (name e.0) (f ∷ fs)
          (p, all_above total (name e.0) (name f.0) (names_of fs) p (sorted_head order (name f.0) (names_of fs) t)) in
          not_some (value e.1)
          (ap (option_map value) (sym (at_head e es)) ∙ (h (name e.0) ∙ ap (option_map value) beyond))
      heads_by Equal p = p
      heads_by Greater p =
          let q : order (name f.0) (name e.0) ≡ Less = total.antisymm (name f.0) (name e.0) ∙ ap ordering_reverse p in
          let beyond = none_above (name f.0) (e ∷ es)
          (q, all_above total (name f.0) (name e.0) (names_of es) q (sorted_head order (name e.0) (names_of es) s)) in
          not_some (value f.1)
          (ap (option_map value) (sym (at_head f fs)) ∙ (sym (h (name f.0)) ∙ ap (option_map value) beyond))

      heads : name e.0 ≡ name f.0
      heads = exact (name e.0) (name f.0) (heads_by (order (name e.0) (name f.0)) refl)

      values : value e.1 ≡ value f.1
      values = same_Some (value e.1) (value f.1)
          (ap (option_map value) (sym (at_head e es))
          ∙ (h (name e.0) ∙ ap (option_map value) (ap (λ n. found n (f ∷ fs)) heads ∙ at_head f fs)))

      tails_by : (n : N) (b c : Bool) → is_named n e.0 ≡ b → is_named n f.0 ≡ c → b ≡ c
          → option_map value (found n es) ≡ option_map value (found n fs)
      tails_by n true c p q r =
          let from : name e.0 ≡ n = sym (exact n (name e.0) (equal_from (order n (name e.0)) p)) in
          let from2 : name f.0 ≡ n = sym (exact n (name f.0) (equal_from (order n (name f.0)) (q ∙ sym r))) in
          let left : found n es ≡ None = none_above n es
          (subst (λ m. AllByRecursion (λ y. order m y ≡ Less) (names_of es)) from
          (sorted_head order (name e.0) (names_of es) s)) in
          let right : found n fs ≡ None = none_above n fs
          (subst (λ m. AllByRecursion (λ y. order m y ≡ Less) (names_of fs)) from2
          (sorted_head order (name f.0) (names_of fs) t)) in
          ap (option_map value) (left ∙ sym right)
      tails_by n false c p q r =
          let left : found n (e ∷ es) ≡ found n es = ap (λ b. cond b (Some e.1) (found n es)) p in
          let right : found n (f ∷ fs) ≡ found n fs = ap (λ b. cond b (Some f.1) (found n fs)) (q ∙ sym r) in
          ap (option_map value) (sym left) ∙ (h n ∙ ap (option_map value) right)

      tails : AreAlike es fs
      tails n = tails_by n (is_named n e.0) (is_named n f.0) refl refl (ap (is_at (order n)) heads)

    -- maps that have the same beside each name are the same, as they are read
    pub told_by_names : (es fs : List (K × X)) → IsStrictlySortedBy order (names_of es)
        → IsStrictlySortedBy order (names_of fs) → AreAlike es fs → read es ≡ read fs
    told_by_names [] [] s t h = refl
    told_by_names [] (f ∷ fs) s t h = not_some (value f.1)
        (ap (option_map value) (sym (at_head f fs)) ∙ sym (h (name f.0)))
    told_by_names (e ∷ es) [] s t h = not_some (value e.1) (ap (option_map value) (sym (at_head e es)) ∙ h (name e.0))
    told_by_names (e ∷ es) (f ∷ fs) s t h =
        let k = same e.0 f.0 (heads e f es fs s t h) in
        let v = values e f es fs s t h in
        let others = told_by_names es fs (sorted_tail order (name e.0) (names_of es) s)
        (sorted_tail order (name f.0) (names_of fs) t) (tails e f es fs s t h) in
        λ i. (let p : C × Y = (k i, v i) in p) ∷ others i
