-- Maps that are made of entries: their keys rise, and what all entries have, theirs have.
use Rattle.std.proofs.Common.{◌≡◌, List, [], ◌∷◌, Option, Some, None, Ordering, refl, ap, ◌∙◌, All}
use Rattle.std.specs.Cmp.{IsTotalOrder}
use Rattle.std.specs.BTreeMap.{insert_entry}
use Rattle.std.specs.List.{AllByRecursion}
use Rattle.std.specs.List.Sorted.{IsStrictlySortedBy}
use Rattle.std.specs.Map.{keys_of, values_of}
use Rattle.std.specs.Option.{option_cmp}
use Rattle.std.specs.Ordering.{match_ordering, ordering_reverse}
use Rattle.std.specs.declared.cmp.Ordering.TheVariants.{Less, Equal, Greater}
use Rattle.std.proofs.lemmas.List.Elements.{All-nil, All-cons, All-head, All-tail}
use Rattle.std.proofs.lemmas.Map.Views.{All-values-insert_entry}
use Rattle.cedar_data.specs.Maps.{map_of, with_entries}
use Rattle.cedar_data.proofs.Orders.{all_above}
use Rattle.cedar_identifiers.specs.declared.name.Name.{Name}
use Rattle.cedar_names.specs.Orders.{names_in_order}
use Rattle.schema_json.specs.Orders.{namespace_cmp}
use Rattle.schema_build_checks.proofs.Names.{names_by_components}

-- the keys of a map that is made of entries rise
module _ {K X : Type 0} (R : K → K → Ordering) (total : IsTotalOrder R) where
  kept_below : (P : K → Type 0) (es : List (K × X)) (k : K) (v : X) → AllByRecursion P (keys_of es) → P k
      → AllByRecursion P (keys_of (insert_entry R es k v))
  kept_below P [] k v h p = (p, tt)
  kept_below P (e ∷ es) k v h p = by (R k e.0) (kept_below P es k v h.1 p)
    where
      by : (c : Ordering) → AllByRecursion P (keys_of (insert_entry R es k v))
          → AllByRecursion P (keys_of (match_ordering c ((k, v) ∷ e ∷ es) ((e.0, v) ∷ es) (e ∷ insert_entry R es k v)))
      by Less l = (p, h)
      by Equal l = h
      by Greater l = (h.0, l)

  put_rises : (es : List (K × X)) (k : K) (v : X) → IsStrictlySortedBy R (keys_of es)
      → IsStrictlySortedBy R (keys_of (insert_entry R es k v))
  unfolding IsStrictlySortedBy
  put_rises [] k v s = (tt, tt)
  put_rises (e ∷ es) k v s = by (R k e.0) refl (put_rises es k v s.1)
    where
      by : (c : Ordering) → R k e.0 ≡ c → IsStrictlySortedBy R (keys_of (insert_entry R es k v))
          → IsStrictlySortedBy R (keys_of
          (match_ordering c ((k, v) ∷ e ∷ es) ((e.0, v) ∷ es) (e ∷ insert_entry R es k v)))
      by Less h l = ((h, all_above total k e.0 (keys_of es) h s.0), s)
      by Equal h l = s
      by Greater h l = (kept_below (λ y. R e.0 y ≡ Less) es k v s.0 (total.antisymm e.0 k ∙ ap ordering_reverse h), l)

  all_rise : (m es : List (K × X)) → IsStrictlySortedBy R (keys_of m)
      → IsStrictlySortedBy R (keys_of (with_entries R m es))
  all_rise m [] s = s
  all_rise m (e ∷ es) s = all_rise (insert_entry R m e.0 e.1) es (put_rises m e.0 e.1 s)

  pub keys_rise : (es : List (K × X)) → IsStrictlySortedBy R (keys_of (map_of R es))
  unfolding IsStrictlySortedBy
  keys_rise es = all_rise [] es tt

  -- what all the values have, those of the map have
  pub all_values : (P : X → Type 0) (m es : List (K × X)) → All P (values_of m) → All P (values_of es)
      → All P (values_of (with_entries R m es))
  all_values P m [] h k = h
  all_values P m (e ∷ es) h k =
      all_values P (insert_entry R m e.0 e.1) es
      (All-values-insert_entry R e.0 e.1 P m h (All-head P e.1 (values_of es) k)) (All-tail P e.1 (values_of es) k)

pub by_entries : {K X : Type 0} (P : X → Type 0) (es : List (K × X)) → All P (values_of es) → All (λ e. P e.1) es
by_entries P [] h = All-nil (λ e. P e.1)
by_entries P (e ∷ es) h =
    All-cons (λ e. P e.1) e es (All-head P e.1 (values_of es) h) (by_entries P es (All-tail P e.1 (values_of es) h))

-- namespaces go by the words of their names, or by the texts of these
same_order : (a b : Option Name) → option_cmp (λ (x y : Name). names_in_order x.name y.name) a b ≡ namespace_cmp a b
same_order None None = refl
same_order None (Some b) = refl
same_order (Some a) None = refl
same_order (Some a) (Some b) = names_by_components a.name b.name

pub one_order : option_cmp (λ (x y : Name). names_in_order x.name y.name) ≡ namespace_cmp
one_order = λ i a b. same_order a b i
