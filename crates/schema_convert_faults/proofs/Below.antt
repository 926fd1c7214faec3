-- A word that begins below the least of a table's names is none of them.
use Rattle.std.proofs.Common.{◌≡◌, ◌<◌, ◌≤◌, ◌&&◌, ◌||◌, ℕ, false, List, [], ◌∷◌, Some, refl, sym, ap, ◌∙◌, arith}
use Rattle.std.specs.Prelude.{not, slice_get}
use Rattle.std.specs.declared.cmp.Ordering.{Ordering}
use Rattle.std.specs.declared.cmp.Ordering.TheVariants.{Less, Equal, Greater}
use Rattle.std.specs.Cmp.{first_so}
use Rattle.std.specs.Cmp.Lexicographic.{slice_cmp}
use Rattle.std.specs.List.{AllByRecursion, list_any}
use Rattle.std.specs.List.Sorted.{IsStrictlySortedBy}
use Rattle.std.specs.Ordering.{MatchOrdering, nat_cmp, ordering_then}
use Rattle.std.specs.Str.{bytes_eq, encode_utf8_all}
use Rattle.std.proofs.lemmas.Bool.{ne_eqb}
use Rattle.std.proofs.lemmas.Cmp.{ranked}
use Rattle.cedar_data.specs.Text.{text_cmp}
use Rattle.cedar_data.specs.Words.{is_word}
use Rattle.cedar_data.proofs.Ascii.{word_bytes}
use Rattle.cedar_identifiers.specs.Words.{is_reserved}
use Rattle.cedar_identifiers.specs.declared.unreserved_id.UnreservedId.{UnreservedId}

own_bytes : (n : UnreservedId) → encode_utf8_all n.id.text ≡ n.id.text
own_bytes n = word_bytes n.id.text (first_so (is_word n.id.text) (not (is_reserved n.id.text)) n.id.word)

-- the first of two texts that rise begins no higher
begins : (c y : ℕ) (r : Ordering) → ordering_then (nat_cmp c y) r ≡ Less → c ≤ y
begins c y r less = by (nat_cmp c y) (ranked c y (nat_cmp c y) refl) less
  where
    by : (o : Ordering) → MatchOrdering o (c < y) (c ≡ y) (y < c) → ordering_then o r ≡ Less → c ≤ y
    by Less lt h = omega (arith, lt)
    by Equal same h = omega (arith, same)
    by Greater gt h = absurd (cc)

module _ (b : ℕ) (bs : List ℕ) (c : ℕ) (lt : b < c) where
  other : (y : ℕ) (t : List ℕ) → c ≤ y → bytes_eq (b ∷ bs) (y ∷ t) ≡ false
  other y t le = ap (λ e. e && bytes_eq bs t) (ne_eqb b y (λ e. omega (arith, lt, le, e)))

  above : (cs t : List ℕ) → slice_cmp nat_cmp (c ∷ cs) t ≡ Less → bytes_eq (b ∷ bs) t ≡ false
  above cs [] less = refl
  above cs (y ∷ t) less = other y t (begins c y (slice_cmp nat_cmp cs t) less)

  none_above : (cs : List ℕ) (least : UnreservedId) → least.id.text ≡ c ∷ cs → (names : List UnreservedId)
      → AllByRecursion (λ n. text_cmp least.id.text n.id.text ≡ Less) names
      → list_any (λ n. bytes_eq (b ∷ bs) n.id.text) names ≡ false
  none_above cs least is [] all = refl
  none_above cs least is (n ∷ names) all =
      let less : slice_cmp nat_cmp (c ∷ cs) n.id.text ≡ Less =
      (λ i. slice_cmp nat_cmp (sym (own_bytes least ∙ is) i) (sym (own_bytes n) i)) ∙ all.0 in
      ap (λ e. e || list_any (λ (n : UnreservedId). bytes_eq (b ∷ bs) n.id.text) names) (above cs n.id.text less)
      ∙ none_above cs least is names all.1

first_is : (t : List ℕ) (c : ℕ) → slice_get t 0 ≡ Some c → (cs : List ℕ) × (t ≡ c ∷ cs)
first_is [] c h = absurd (cc)
first_is (x ∷ cs) c h = (cs, ap (λ y. y ∷ cs) (cc))

pub none_of_table : (names : List UnreservedId) (least : UnreservedId) (word : List ℕ) (b c : ℕ)
    → IsStrictlySortedBy (λ x y. text_cmp x.id.text y.id.text) names → slice_get names 0 ≡ Some least
    → slice_get word 0 ≡ Some b → slice_get least.id.text 0 ≡ Some c → b < c
    → list_any (λ n. bytes_eq word n.id.text) names ≡ false
unfolding IsStrictlySortedBy
none_of_table [] least word b c up at begun least_begun lt = absurd (cc)
none_of_table (n ∷ names) least word b c up at begun least_begun lt =
    let same : n ≡ least = cc in
    let text = first_is n.id.text c (ap (λ (m : UnreservedId). slice_get m.id.text 0) same ∙ least_begun) in
    let bytes = first_is word b begun in
    ap (λ w. list_any (λ (m : UnreservedId). bytes_eq w m.id.text) (n ∷ names)) bytes.1
    ∙ ap (λ e. e || list_any (λ (m : UnreservedId). bytes_eq (b ∷ bytes.0) m.id.text) names)
    (ap (bytes_eq (b ∷ bytes.0)) text.1 ∙ other b bytes.0 c lt c text.0 (omega arith))
    ∙ none_above b bytes.0 c lt text.0 n text.1 names up.0
