-- A search by halving among entries that are seen as pairs of a key and a value.
use Rattle.std.proofs.Common.{◌≡◌, ℕ, ◌+◌, ◌<◌, List, length, get_or, map, Some, Ordering, sym, ap, ◌∙◌, arith}
use Rattle.std.specs.declared.cmp.Ordering.TheVariants.{Less, Greater}
use Rattle.std.specs.BTreeMap.{is_at}
use Rattle.std.specs.Cmp.{IsTotalOrder}
use Rattle.std.specs.List.Sorted.{IsStrictlySortedBy}
use Rattle.std.specs.Map.{lookup, keys_of}
use Rattle.std.proofs.lemmas.List.{get_or-map, length-map}
use Rattle.cedar_data.specs.Halving.{IsGap, IsHit}
use Rattle.cedar_data.proofs.Halving.{below_more, above_more, lookup_hit}

module _ {E K X : Type 0} (pair : E → K × X) {R : K → K → Ordering} (o : IsTotalOrder R) (q : K) where
  -- the pair in the middle
  pair_at : (es : List E) (i : ℕ) (e : E) (d : K × X) → i < length es → e ≡ get_or es i e
      → get_or (map pair es) i d ≡ pair e
  pair_at es i e d h at = get_or-map pair es i e d h ∙ ap pair (sym at)

  within : (es : List E) (i : ℕ) → i < length (map pair es) → i < length es
  within es i h = omega (arith, h, length-map es pair)

  -- the entry in the middle is below q, and so is each before it
  pub below_paired : (es : List E) (low high middle : ℕ) (e : E) → IsStrictlySortedBy R (keys_of (map pair es))
      → IsGap R q (map pair es) low high → middle < high → e ≡ get_or es middle e
      → (k : K) → k ≡ (pair e).0 → R k q ≡ Less → IsGap R q (map pair es) (middle + 1) high
  below_paired es low high middle e up gap h at k key less =
      let inside = within es middle (omega (arith, h, gap.in_range)) in
      below_more o q (map pair es) low high middle (pair e) up gap h (sym (pair_at es middle e (pair e) inside at))
      (ap (λ x. R x q) (sym key) ∙ less)

  -- the entry in the middle is above q, and so is each behind it
  pub above_paired : (es : List E) (low high middle : ℕ) (e : E) → IsStrictlySortedBy R (keys_of (map pair es))
      → IsGap R q (map pair es) low high → middle < high → e ≡ get_or es middle e
      → (k : K) → k ≡ (pair e).0 → R k q ≡ Greater → IsGap R q (map pair es) low middle
  above_paired es low high middle e up gap h at k key greater =
      let inside = within es middle (omega (arith, h, gap.in_range)) in
      above_more o q (map pair es) low high middle (pair e) up gap h (sym (pair_at es middle e (pair e) inside at))
      (ap (λ x. R x q) (sym key) ∙ greater)

  -- the entry whose key is equal to q is the one that is looked up
  pub found_paired : (es : List E) (i : ℕ) (e : E) → IsStrictlySortedBy R (keys_of (map pair es))
      → IsHit R q (map pair es) i → e ≡ get_or es i e → (x : X) → x ≡ (pair e).1
      → Some x ≡ lookup (is_at (R q)) (map pair es)
  found_paired es i e up hit at x value =
      ap Some value ∙ sym (lookup_hit o q (map pair es) i (pair e) up hit.in_range (hit.equal (pair e))
      ∙ ap (λ y. Some y.1) (pair_at es i e (pair e) (within es i hit.in_range) at))
