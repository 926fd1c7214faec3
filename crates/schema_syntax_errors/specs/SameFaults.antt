-- When two faults are the same, places included.
use Rattle.std.specs.Prelude.{◌≡◌, ℕ, Bool, true, false, ◌&&◌, ◌==◌, List, [], ◌∷◌, Option, Some, None}
use Rattle.std.specs.Bool.{Decides}
use Rattle.std.specs.Str.{bytes_eq, encode_utf8_all}
use Rattle.std.specs.Cmp.{IsPartialEquivalence, IsEquivalence, partial_equiv_from_equiv, both_ways, first_so, second_so}
use Rattle.std.specs.Cmp.Lexicographic.{pointwise}
use Rattle.std.proofs.Common.{refl, sym, ap, ◌∙◌, subst, arith}
use Rattle.std.proofs.lemmas.Bool.{and_from, eqb-true}
use Rattle.std.proofs.lemmas.Slice.Eq.{bytes_eq-Decides}
use Rattle.std.proofs.lemmas.Str.{cons_from_encodes}
use Rattle.cedar_data.specs.Span.{Span}
use Rattle.cedar_identifiers.proofs.Same.{any_id_same}
use Rattle.schema_syntax_errors.specs.declared.unescape_error.UnescapeError.{UnescapeError}
use Rattle.schema_syntax_errors.specs.declared.user_error.UserError.{UserError}
use Rattle.schema_syntax_errors.specs.declared.user_error.UserError.TheVariants.{EmptyList, StringEscape}
use Rattle.schema_syntax_errors.specs.declared.user_error.UserError.TheVariants.{ReservedIdentifierUsed}
use Rattle.schema_syntax_errors.specs.declared.user_error.UserError.TheVariants.{DuplicateAnnotations}

abbrev pub places_agree : Option Span → Option Span → Bool
places_agree None None = true
places_agree None (Some q) = false
places_agree (Some p) None = false
places_agree (Some p) (Some q) = p.start == q.start && p.end == q.end

abbrev pub texts_agree : List ℕ → List ℕ → Bool
texts_agree v w = bytes_eq (encode_utf8_all v) (encode_utf8_all w)

abbrev pub escapes_agree : List UnescapeError → List UnescapeError → Bool
escapes_agree = pointwise (λ p q. p.at == q.at)

-- faults of one kind agree where all that they hold does
abbrev pub user_errors_agree : UserError → UserError → Bool
user_errors_agree (EmptyList a) (EmptyList b) = places_agree a.loc b.loc
user_errors_agree (StringEscape a) (StringEscape b) = escapes_agree a.node b.node && places_agree a.loc b.loc
user_errors_agree (ReservedIdentifierUsed a) (ReservedIdentifierUsed b) =
    texts_agree a.node b.node && places_agree a.loc b.loc
user_errors_agree (DuplicateAnnotations a a_first a_second) (DuplicateAnnotations b b_first b_second) =
    texts_agree a.text b.text && (places_agree a_first.loc b_first.loc && places_agree a_second.loc b_second.loc)
user_errors_agree _ _ = false

-- a test that holds of equal values alone, and of each value and itself, is an equivalence and tells equality
module _ {K : Type 0} {E : K → K → Bool} (sound : (x y : K) → E x y ≡ true → x ≡ y)
    (itself : (x : K) → E x x ≡ true) where
  pub tells : (x y : K) → Decides (E x y) (x ≡ y)
  tells x y = (sound x y, λ e. subst (λ z. E x z ≡ true) e (itself x))

  pub tells_equiv : IsEquivalence E
  tells_equiv = record {
    refl = itself;
    symm = λ x y. both_ways (E x y) (E y x) (λ h. subst (λ z. E z x ≡ true) (sound x y h) (itself x))
        (λ h. subst (λ z. E z y ≡ true) (sound y x h) (itself y));
    congr = λ x y z h. ap (λ w. E w z) (sound x y h);
  }

-- places
pub places_sound : (p q : Option Span) → places_agree p q ≡ true → p ≡ q
places_sound None None h = refl
places_sound None (Some q) h = cc
places_sound (Some p) None h = cc
places_sound (Some p) (Some q) h =
    let start : p.start ≡ q.start = eqb-true p.start q.start (first_so (p.start == q.start) (p.end == q.end) h) in
    let end : p.end ≡ q.end = eqb-true p.end q.end (second_so (p.start == q.start) (p.end == q.end) h) in
    λ i. Some (record { start = start i; end = end i })

pub eqb_itself : (n : ℕ) → (n == n) ≡ true
eqb_itself n = grind arith

pub places_themselves : (p : Option Span) → places_agree p p ≡ true
places_themselves None = refl
places_themselves (Some p) = and_from (p.start == p.start) (p.end == p.end) (eqb_itself p.start) (eqb_itself p.end)

-- texts: bytes tell characters
pub encodes_injective : (cs ds : List ℕ) → encode_utf8_all cs ≡ encode_utf8_all ds → cs ≡ ds
encodes_injective [] [] e = refl
encodes_injective (c ∷ cs) [] e = let t = cons_from_encodes [] (encode_utf8_all cs) c (sym e) in absurd (cc t.1)
encodes_injective cs (d ∷ ds) e =
    let t = cons_from_encodes cs (encode_utf8_all ds) d e in t.1 ∙ ap (λ l. d ∷ l) (encodes_injective t.0 ds t.2)

pub texts_sound : (v w : List ℕ) → texts_agree v w ≡ true → v ≡ w
texts_sound v w h = encodes_injective v w ((bytes_eq-Decides (encode_utf8_all v) (encode_utf8_all w)).0 h)

pub texts_themselves : (v : List ℕ) → texts_agree v v ≡ true
texts_themselves v = (bytes_eq-Decides (encode_utf8_all v) (encode_utf8_all v)).1 refl

-- lists, item by item
pub items_sound : {K : Type 0} {E : K → K → Bool} → ((x y : K) → E x y ≡ true → x ≡ y) → (xs ys : List K)
    → pointwise E xs ys ≡ true → xs ≡ ys
items_sound s [] [] h = refl
items_sound s [] (y ∷ ys) h = cc
items_sound s (x ∷ xs) [] h = cc
items_sound {K} {E} s (x ∷ xs) (y ∷ ys) h =
    λ i. s x y (first_so (E x y) (pointwise E xs ys) h) i ∷ items_sound s xs ys
    (second_so (E x y) (pointwise E xs ys) h) i

pub items_themselves : {K : Type 0} (E : K → K → Bool) → ((x : K) → E x x ≡ true) → (xs : List K)
    → pointwise E xs xs ≡ true
items_themselves E s [] = refl
items_themselves E s (x ∷ xs) = and_from (E x x) (pointwise E xs xs) (s x) (items_themselves E s xs)

escapes_sound : (xs ys : List UnescapeError) → escapes_agree xs ys ≡ true → xs ≡ ys
escapes_sound = items_sound {E = λ p q. p.at == q.at} (λ p q h i. record { at = eqb-true p.at q.at h i })

escapes_themselves : (xs : List UnescapeError) → escapes_agree xs xs ≡ true
escapes_themselves = items_themselves (λ p q. p.at == q.at) (λ p. eqb_itself p.at)

-- faults
pub user_errors_sound : (a b : UserError) → user_errors_agree a b ≡ true → a ≡ b
user_errors_sound (EmptyList a) (EmptyList b) h =
    λ i. EmptyList (record { node = tt; loc = places_sound a.loc b.loc h i })
user_errors_sound (StringEscape a) (StringEscape b) h =
    let faults = escapes_sound a.node b.node (first_so (escapes_agree a.node b.node) (places_agree a.loc b.loc) h) in
    let place = places_sound a.loc b.loc (second_so (escapes_agree a.node b.node) (places_agree a.loc b.loc) h) in
    λ i. StringEscape (record { node = faults i; loc = place i })
user_errors_sound (ReservedIdentifierUsed a) (ReservedIdentifierUsed b) h =
    let word = texts_sound a.node b.node (first_so (texts_agree a.node b.node) (places_agree a.loc b.loc) h) in
    let place = places_sound a.loc b.loc (second_so (texts_agree a.node b.node) (places_agree a.loc b.loc) h) in
    λ i. ReservedIdentifierUsed (record { node = word i; loc = place i })
user_errors_sound (DuplicateAnnotations a a_first a_second) (DuplicateAnnotations b b_first b_second) h =
    let key = any_id_same a b (texts_sound a.text b.text
    (first_so (texts_agree a.text b.text)
    (places_agree a_first.loc b_first.loc && places_agree a_second.loc b_second.loc) h)) in
    let both = second_so (texts_agree a.text b.text)
    (places_agree a_first.loc b_first.loc && places_agree a_second.loc b_second.loc) h in
    let first = places_sound a_first.loc b_first.loc
    (first_so (places_agree a_first.loc b_first.loc) (places_agree a_second.loc b_second.loc) both) in
    let second = places_sound a_second.loc b_second.loc
    (second_so (places_agree a_first.loc b_first.loc) (places_agree a_second.loc b_second.loc) both) in
    λ i. DuplicateAnnotations (key i) (record { node = tt; loc = first i }) (record { node = tt; loc = second i })
user_errors_sound _ _ h = cc

pub user_errors_themselves : (a : UserError) → user_errors_agree a a ≡ true
user_errors_themselves (EmptyList a) = places_themselves a.loc
user_errors_themselves (StringEscape a) =
    and_from (escapes_agree a.node a.node) (places_agree a.loc a.loc) (escapes_themselves a.node)
    (places_themselves a.loc)
user_errors_themselves (ReservedIdentifierUsed a) =
    and_from (texts_agree a.node a.node) (places_agree a.loc a.loc) (texts_themselves a.node) (places_themselves a.loc)
user_errors_themselves (DuplicateAnnotations a first second) =
    and_from (texts_agree a.text a.text) (places_agree first.loc first.loc && places_agree second.loc second.loc)
    (texts_themselves a.text) (and_from (places_agree first.loc first.loc) (places_agree second.loc second.loc)
    (places_themselves first.loc) (places_themselves second.loc))

-- equality of user faults is an equivalence
pub user_errors_equiv : IsEquivalence user_errors_agree
user_errors_equiv = tells_equiv user_errors_sound user_errors_themselves

-- equality of user faults is symmetric and transitive
pub user_errors_per : IsPartialEquivalence user_errors_agree
user_errors_per = partial_equiv_from_equiv user_errors_equiv
