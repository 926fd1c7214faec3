-- Orders, and lists that rise by them.
use Rattle.std.proofs.Common.{◌≡◌, ℕ, true, ◌&&◌, List, [], ◌∷◌, map, refl, sym, ap, ◌∙◌}
use Rattle.std.specs.declared.cmp.Ordering.{Ordering}
use Rattle.std.specs.declared.cmp.Ordering.TheVariants.{Less, Equal, Greater}
use Rattle.std.specs.Ordering.{is_eq, ordering_reverse, ordering_then}
use Rattle.std.specs.Cmp.{IsTotalOrder}
use Rattle.std.specs.Cmp.Lexicographic.{slice_cmp, lists_total}
use Rattle.std.specs.List.{AllByRecursion}
use Rattle.std.specs.List.Sorted.{IsStrictlySortedBy}
use Rattle.std.specs.Str.{encode_utf8_all}
use Rattle.std.proofs.lemmas.Cmp.{on_total, nat_list_cmp_total}
use Rattle.std.proofs.lemmas.Map.Lookups.{exact_bytes}
use Rattle.std.proofs.lemmas.Str.{encodes_same}
use Rattle.cedar_data.specs.Text.{text_cmp}

-- whether two are equal, the other way round and one after another
pub is_eq_back : (r : Ordering) → is_eq (ordering_reverse r) ≡ is_eq r
is_eq_back Less = refl
is_eq_back Equal = refl
is_eq_back Greater = refl

pub is_eq_turned : {K : Type 0} {R : K → K → Ordering} → IsTotalOrder R → (j k : K) → is_eq (R j k) ≡ is_eq (R k j)
is_eq_turned {K} {R} o j k = ap is_eq (o.antisymm j k) ∙ is_eq_back (R k j)

pub is_eq_then : (r s : Ordering) → is_eq (ordering_then r s) ≡ (is_eq r && is_eq s)
is_eq_then Less s = refl
is_eq_then Equal s = refl
is_eq_then Greater s = refl

pub equal_from : (r : Ordering) → is_eq r ≡ true → r ≡ Equal
equal_from Less h = absurd (cc)
equal_from Equal h = refl
equal_from Greater h = absurd (cc)

pub then_equal : (r s : Ordering) → ordering_then r s ≡ Equal → (r ≡ Equal) × (s ≡ Equal)
then_equal Less s e = absurd (cc)
then_equal Equal s e = (refl, e)
then_equal Greater s e = absurd (cc)

-- the order of texts, and of names as lists of texts
pub text_total : IsTotalOrder text_cmp
text_total = on_total encode_utf8_all nat_list_cmp_total

pub text_exact : (v w : List ℕ) → text_cmp v w ≡ Equal → v ≡ w
text_exact v w e = encodes_same v w (exact_bytes (encode_utf8_all v) (encode_utf8_all w) e)

pub texts_total : IsTotalOrder (slice_cmp text_cmp)
texts_total = lists_total text_total

pub texts_exact : (vs ws : List (List ℕ)) → slice_cmp text_cmp vs ws ≡ Equal → vs ≡ ws
texts_exact [] [] e = refl
texts_exact [] (w ∷ ws) e = absurd (cc)
texts_exact (v ∷ vs) [] e = absurd (cc)
texts_exact (v ∷ vs) (w ∷ ws) e =
    let both = then_equal (text_cmp v w) (slice_cmp text_cmp vs ws) e in
    λ i. text_exact v w both.0 i ∷ texts_exact vs ws both.1 i

-- lists that rise
pub nothing_rises : {K : Type 0} (R : K → K → Ordering) → IsStrictlySortedBy R []
unfolding IsStrictlySortedBy
nothing_rises R = tt

pub all_above : {K : Type 0} {R : K → K → Ordering} → IsTotalOrder R → (j k : K) (ks : List K) → R j k ≡ Less
    → AllByRecursion (λ y. R k y ≡ Less) ks → AllByRecursion (λ y. R j y ≡ Less) ks
all_above o j k [] less h = tt
all_above o j k (y ∷ ys) less h = (o.trans j k y less h.0, all_above o j k ys less h.1)

module _ {K J : Type 0} (see : K → J) (R : K → K → Ordering) (S : J → J → Ordering)
    (same : (j k : K) → R j k ≡ S (see j) (see k)) where
  above_seen : (k : K) (ks : List K) → AllByRecursion (λ y. R k y ≡ Less) ks
      → AllByRecursion (λ y. S (see k) y ≡ Less) (map see ks)
  above_seen k [] h = tt
  above_seen k (y ∷ ys) h = (sym (same k y) ∙ h.0, above_seen k ys h.1)

  -- what rises by an order rises, as it is seen, by another that agrees with it
  pub rises_seen : (ks : List K) → IsStrictlySortedBy R ks → IsStrictlySortedBy S (map see ks)
  unfolding IsStrictlySortedBy
  rises_seen [] h = tt
  rises_seen (k ∷ ks) h = (above_seen k ks h.0, rises_seen ks h.1)
