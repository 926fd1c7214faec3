-- Words of a rising list, by their texts.
use Rattle.std.proofs.Common.{◌≡◌, ℕ, ◌+◌, ◌<◌, ◌≤◌, Bool, true, false, List, [], ◌∷◌, length, get_or, refl, sym, ap}
use Rattle.std.proofs.Common.{◌∙◌, subst, arith, inl, inr}
use Rattle.std.specs.declared.cmp.Ordering.{Ordering}
use Rattle.std.specs.declared.cmp.Ordering.TheVariants.{Less, Equal, Greater}
use Rattle.std.specs.Ordering.{nat_cmp, is_eq, ordering_reverse}
use Rattle.std.specs.Cmp.Lexicographic.{slice_cmp}
use Rattle.std.specs.Cmp.{IsTotalOrder}
use Rattle.std.specs.List.{list_any}
use Rattle.std.specs.List.Sorted.{IsStrictlySortedBy}
use Rattle.std.specs.Str.{bytes_eq}
use Rattle.std.proofs.lemmas.Slice.Eq.{bytes_eq-Decides}
use Rattle.std.proofs.lemmas.Map.Text.{is_eq-slice_cmp}
use Rattle.std.proofs.lemmas.Map.Keys.{Less-from_sorted}
use Rattle.std.proofs.lemmas.Bool.{cases_eq, cases_lt, false≢true}
use Rattle.std.proofs.lemmas.List.{get_or_default}
use Rattle.std.proofs.lemmas.List.Folds.{list_any_at, list_any_none}
use Rattle.cedar_data.specs.Text.{text_cmp}
use Rattle.cedar_identifiers.specs.declared.unreserved_id.UnreservedId.{UnreservedId}
use Rattle.cedar_identifiers.proofs.Ids.{id_bytes}

-- the order of words is that of their bytes
pub by_bytes : (x y : UnreservedId) → text_cmp x.id.text y.id.text ≡ slice_cmp nat_cmp x.id.text y.id.text
by_bytes x y = λ i. slice_cmp nat_cmp (id_bytes x.id.text x.id.word i) (id_bytes y.id.text y.id.word i)

-- a word has another's text exactly where the order sees no difference
pub at_text : (R : UnreservedId → UnreservedId → Ordering)
    → ((x y : UnreservedId) → R x y ≡ slice_cmp nat_cmp x.id.text y.id.text) → (x y : UnreservedId)
    → is_eq (R x y) ≡ bytes_eq x.id.text y.id.text
at_text R e x y = ap is_eq (e x y) ∙ is_eq-slice_cmp x.id.text y.id.text

-- texts that are the same have the same properties
pub same_text : {A : Type 0} (f : List ℕ → A) (a b : List ℕ) → bytes_eq a b ≡ true → f a ≡ f b
same_text f a b h = ap f ((bytes_eq-Decides a b).0 h)

module _ (R : UnreservedId → UnreservedId → Ordering)
    (e : (x y : UnreservedId) → R x y ≡ slice_cmp nat_cmp x.id.text y.id.text) where
  module _ (o : IsTotalOrder (slice_cmp nat_cmp)) (names : List UnreservedId) (up : IsStrictlySortedBy R names)
      (q : List ℕ) where
    rises : (i j : ℕ) (d : UnreservedId) → i < j → j < length names
        → slice_cmp nat_cmp (get_or names i d).id.text (get_or names j d).id.text ≡ Less
    rises i j d lt h = sym (e (get_or names i d) (get_or names j d)) ∙ Less-from_sorted R names i j d up lt h

    turned : (x y : List ℕ) (a : Ordering) → slice_cmp nat_cmp x y ≡ a → slice_cmp nat_cmp y x ≡ ordering_reverse a
    turned x y a h = o.antisymm y x ∙ ap ordering_reverse h

    -- a word below the text has those before it below too
    pub below_more : (low middle : ℕ) (m : UnreservedId)
        → ((k : ℕ) (d : UnreservedId) → k < low → slice_cmp nat_cmp (get_or names k d).id.text q ≡ Less)
        → middle < length names → m ≡ get_or names middle m
        → slice_cmp nat_cmp m.id.text q ≡ Less → (k : ℕ) (d : UnreservedId) → k < middle + 1
        → slice_cmp nat_cmp (get_or names k d).id.text q ≡ Less
    below_more low middle m below h at less k d lt =
        let here : slice_cmp nat_cmp (get_or names middle d).id.text q
        ≡ Less = ap (λ x. slice_cmp nat_cmp x.id.text q) (get_or_default names middle d m h ∙ sym at) ∙ less in
        elim (cases_eq k middle) [
          | inl same ↦ subst (λ i. slice_cmp nat_cmp (get_or names i d).id.text q ≡ Less) (sym same) here
          | inr other ↦ o.trans (get_or names k d).id.text (get_or names middle d).id.text q
              (rises k middle d (omega arith) h) here
        ]

    -- a word above the text has those behind it above too
    pub above_more : (middle : ℕ) (m : UnreservedId) → middle < length names → m ≡ get_or names middle m
        → slice_cmp nat_cmp m.id.text q ≡ Greater
        → (k : ℕ) (d : UnreservedId) → middle ≤ k → k < length names
        → slice_cmp nat_cmp (get_or names k d).id.text q ≡ Greater
    above_more middle m h at greater k d ge lt =
        let here : slice_cmp nat_cmp (get_or names middle d).id.text q
        ≡ Greater = ap (λ x. slice_cmp nat_cmp x.id.text q) (get_or_default names middle d m h ∙ sym at) ∙ greater in
        elim (cases_eq k middle) [
          | inl same ↦ subst (λ i. slice_cmp nat_cmp (get_or names i d).id.text q ≡ Greater) (sym same) here
          | inr other ↦ turned q (get_or names k d).id.text Less
              (o.trans q (get_or names middle d).id.text (get_or names k d).id.text
              (turned (get_or names middle d).id.text q Greater here) (rises middle k d (omega arith) lt))
        ]

-- the text of a word that is equal is there
pub hit : (names : List UnreservedId) (q : List ℕ) (at : ℕ) (m : UnreservedId) → at < length names
    → m ≡ get_or names at m → slice_cmp nat_cmp m.id.text q ≡ Equal
    → list_any (λ n. bytes_eq q n.id.text) names ≡ true
hit names q at m h is e =
    let same : bytes_eq m.id.text q ≡ true = sym (is_eq-slice_cmp m.id.text q) ∙ ap is_eq e in
    let texts : m.id.text ≡ q = (bytes_eq-Decides m.id.text q).0 same in
    list_any_at (λ n. bytes_eq q n.id.text) names at m h
    (ap (λ n. bytes_eq q n.id.text) (sym is) ∙ (bytes_eq-Decides q m.id.text).1 (sym texts))

unlike : (q t : List ℕ) → bytes_eq t q ≡ false → bytes_eq q t ≡ false
unlike q t h = told (bytes_eq q t) refl
  where
    told : (b : Bool) → bytes_eq q t ≡ b → b ≡ false
    told true e = absurd (false≢true (sym h ∙ (bytes_eq-Decides t q).1 (sym ((bytes_eq-Decides q t).0 e))))
    told false e = refl

-- and one that is below all from a place on and above all before it is not
pub miss : (names : List UnreservedId) (q : List ℕ) (at : ℕ)
    → ((k : ℕ) (d : UnreservedId) → k < at → slice_cmp nat_cmp (get_or names k d).id.text q ≡ Less)
    → ((k : ℕ) (d : UnreservedId) → at ≤ k → k < length names
    → slice_cmp nat_cmp (get_or names k d).id.text q ≡ Greater)
    → list_any (λ n. bytes_eq q n.id.text) names ≡ false
miss names q at below above = list_any_none (λ n. bytes_eq q n.id.text) names (λ k d h. elim (cases_lt k at) [
  | inr ge ↦ unlike q (get_or names k d).id.text
      (sym (is_eq-slice_cmp (get_or names k d).id.text q) ∙ ap is_eq (above k d ge h))
  | inl lt ↦ unlike q (get_or names k d).id.text
      (sym (is_eq-slice_cmp (get_or names k d).id.text q) ∙ ap is_eq (below k d lt))
])

-- four words whose texts rise
pub four_rise : (R : UnreservedId → UnreservedId → Ordering)
    → ((x y : UnreservedId) → R x y ≡ slice_cmp nat_cmp x.id.text y.id.text)
    → (a b c d : UnreservedId) (s t u v : List ℕ) → a.id.text ≡ s → b.id.text ≡ t → c.id.text ≡ u → d.id.text ≡ v
    → slice_cmp nat_cmp s t ≡ Less → slice_cmp nat_cmp s u ≡ Less → slice_cmp nat_cmp s v ≡ Less
    → slice_cmp nat_cmp t u ≡ Less → slice_cmp nat_cmp t v ≡ Less → slice_cmp nat_cmp u v ≡ Less
    → IsStrictlySortedBy R (a ∷ b ∷ c ∷ d ∷ [])
unfolding IsStrictlySortedBy
four_rise R e a b c d s t u v p q r w st su sv tu tv uv =
    let less : (x y : UnreservedId) (m n : List ℕ) → x.id.text ≡ m → y.id.text ≡ n → slice_cmp nat_cmp m n ≡ Less
    → R x y ≡ Less = λ x y m n k l h. e x y ∙ (λ i. slice_cmp nat_cmp (k i) (l i)) ∙ h in (
      (less a b s t p q st, (less a c s u p r su, (less a d s v p w sv, tt))),
      ((less b c t u q r tu, (less b d t v q w tv, tt)), ((less c d u v r w uv, tt), (tt, tt))),
    )
