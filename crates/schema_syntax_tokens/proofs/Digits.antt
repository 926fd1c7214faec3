-- The places of `\u{..}`: hex digits, and `_` among them.
use Rattle.std.proofs.Common.{◌≡◌, ◌≢◌, ℕ, zero, suc, ◌+◌, ◌*◌, ◌^◌, ◌<◌, ◌≤◌, true, false, cond, not, ◌==◌, List}
use Rattle.std.proofs.Common.{[], ◌∷◌, ◌++◌, length, take, drop, get_or, refl, sym, ap, ◌∙◌, subst, inl, inr, arith}
use Rattle.std.proofs.Common.{lit≤}
use Rattle.std.specs.List.{AllPass, prefix_len}
use Rattle.std.specs.Char.{is_digit, digit_value, IsScalar}
use Rattle.std.proofs.lemmas.List.{take-append-drop, length-append, append-nil, take_at, get_or_at}
use Rattle.std.proofs.lemmas.List.Elements.{filter_more, filter-append, All-head, All-tail}
use Rattle.std.proofs.lemmas.Bool.{cases_eq, or_cases, ne_eqb, ltb-true}
use Rattle.std.proofs.lemmas.Grind.{pow_more}
use Rattle.schema_syntax_tokens.specs.Escapes.{hex_value, is_place, digits_of, ArePlaces}
use Rattle.schema_syntax_tokens.specs.Steps.{NoPlaces, NoBraced}

-- one more digit at the end
hex_value-push : (n : ℕ) (ds : List ℕ) (d : ℕ) → hex_value n (ds ++ d ∷ []) ≡ hex_value n ds * 16 + digit_value d
hex_value-push n [] d = refl
hex_value-push n (c ∷ ds) d = hex_value-push (n * 16 + digit_value c) ds d

digit_kept : (d : ℕ) → is_digit d 16 ≡ true → not (d == 95) ≡ true
digit_kept d h =
    elim (cases_eq d 95) [
      | inl e ↦ let f : is_digit 95 16 ≡ true = ap (λ x. is_digit x 16) (sym e) ∙ h in cc
      | inr n ↦ ap not (ne_eqb d 95 n)
    ]

other_dropped : (d : ℕ) → is_place d ≡ true → (is_digit d 16 ≡ true → ⊥) → not (d == 95) ≡ false
other_dropped d p n = elim (or_cases (is_digit d 16) (d == 95) p) [ inl h ↦ absurd (n h) | inr e ↦ ap not e ]

digits_more : (places : List ℕ) (at : ℕ) → at < length places → is_digit (get_or places at 0) 16 ≡ true
    → digits_of (take (at + 1) places) ≡ digits_of (take at places) ++ get_or places at 0 ∷ []
digits_more places at l h =
    filter_more (λ b. not (b == 95)) places at 0 l
    ∙ ap (λ t. digits_of (take at places) ++ cond t (get_or places at 0 ∷ []) []) (digit_kept (get_or places at 0) h)

digits_same : (places : List ℕ) (at : ℕ) → at < length places → is_place (get_or places at 0) ≡ true
    → (is_digit (get_or places at 0) 16 ≡ true → ⊥) → digits_of (take (at + 1) places) ≡ digits_of (take at places)
digits_same places at l p n =
    filter_more (λ b. not (b == 95)) places at 0 l
    ∙ (ap (λ t. digits_of (take at places) ++ cond t (get_or places at 0 ∷ []) [])
    (other_dropped (get_or places at 0) p n) ∙ append-nil (digits_of (take at places)))

-- what is known of the places before at
pub record HasDigits (places : List ℕ) (at digits v : ℕ) : Type 0 where
  pub count : digits ≡ length (digits_of (take at places))
  pub few : digits ≤ 6
  pub value : v ≡ hex_value 0 (digits_of (take at places))
  pub bound : v < 16 ^ digits
  pub first : 0 < at → is_digit (get_or places 0 0) 16 ≡ true

bound_more : (v d x : ℕ) → v < 16 ^ d → x < 16 → v * 16 + x < 16 ^ (d + 1)
bound_more v d x h l = omega (arith, pow_more 16 d)

below_six : (d : ℕ) → d < 6 → 16 ^ d ≤ 1048576
below_six zero l = lit≤ tt
below_six (suc zero) l = lit≤ tt
below_six (suc (suc zero)) l = lit≤ tt
below_six (suc (suc (suc zero))) l = lit≤ tt
below_six (suc (suc (suc (suc zero)))) l = lit≤ tt
below_six (suc (suc (suc (suc (suc zero))))) l = lit≤ tt
below_six (suc (suc (suc (suc (suc (suc d)))))) l = absurd (omega arith)

pub value_fits : (v d x : ℕ) → v < 16 ^ d → d < 6 → x < 16 → v * 16 + x < 2 ^ 32
value_fits v d x h l m = let b = below_six d l in omega (arith, b)

pub HasDigits-digit : (places : List ℕ) (at digits value x : ℕ) → HasDigits places at digits value
    → at < length places → digits < 6 → is_digit (get_or places at 0) 16 ≡ true → x ≡ digit_value (get_or places at 0)
    → HasDigits places (at + 1) (digits + 1) (value * 16 + x)
HasDigits-digit places at digits value x h l f d e =
    let more = digits_more places at l d in
    let small : x < 16 = omega (arith, e, ltb-true (digit_value (get_or places at 0)) 16 d) in
    record {
      count = omega (
        arith,
        h.count,
        ap length more,
        length-append (digits_of (take at places))
            (get_or places at 0 ∷ []),
      );
      few = omega arith;
      value = ap (λ v. v * 16 + x) h.value
          ∙ (ap (λ y. hex_value 0 (digits_of (take at places)) * 16 + y) e
          ∙ (sym (hex_value-push 0 (digits_of (take at places)) (get_or places at 0)) ∙ ap (hex_value 0) (sym more)));
      bound = bound_more value digits x h.bound small;
      first = λ _. first_digit at h.first d;
    }
  where
    first_digit : (n : ℕ) → (0 < n → is_digit (get_or places 0 0) 16 ≡ true) → is_digit (get_or places n 0) 16 ≡ true
        → is_digit (get_or places 0 0) 16 ≡ true
    first_digit zero f d = d
    first_digit (suc n) f d = f (omega arith)

pub HasDigits-other : (places : List ℕ) (at digits value : ℕ) → HasDigits places at digits value
    → AllPass is_place places → at < length places → 0 < at → (is_digit (get_or places at 0) 16 ≡ true → ⊥)
    → HasDigits places (at + 1) digits value
HasDigits-other places at digits value h a l f n =
    let same = digits_same places at l (a at 0 l) n in
    record {
      count = h.count ∙ ap length (sym same);
      few = h.few;
      value = h.value ∙ ap (hex_value 0) (sym same);
      bound = h.bound;
      first = λ _. h.first f;
    }

-- a seventh digit
pub too_many : (places : List ℕ) (at value : ℕ) → HasDigits places at 6 value → at < length places
    → is_digit (get_or places at 0) 16 ≡ true → NoPlaces places
too_many places at value h l d a =
    let more : length (digits_of (take (at + 1) places))
    ≡ length (digits_of (take at places)) + 1 = ap length (digits_more places at l d)
    ∙ length-append (digits_of (take at places)) (get_or places at 0 ∷ []) in
    let whole : length (digits_of places)
    ≡ length (digits_of (take (at + 1) places)) + length (digits_of (drop (at + 1) places)) =
    ap (λ t. length (digits_of t)) (sym (take-append-drop (at + 1) places))
    ∙ (ap length (filter-append (λ b. not (b == 95)) (take (at + 1) places) (drop (at + 1) places))
    ∙ length-append (digits_of (take (at + 1) places)) (digits_of (drop (at + 1) places))) in
    omega (arith, h.count, a.few)

-- places end at the brace behind them
pub prefix_len-places : (places after : List ℕ) → AllPass is_place places
    → prefix_len is_place (places ++ 125 ∷ after) ≡ length places
prefix_len-places [] after h = refl
prefix_len-places (b ∷ bs) after h =
    let e : is_place b ≡ true = All-head (λ x. is_place x ≡ true) b bs h in
    ap (λ t. cond t (1 + prefix_len is_place (bs ++ 125 ∷ after)) 0) e
    ∙ omega (arith, prefix_len-places bs after (All-tail (λ x. is_place x ≡ true) b bs h))

-- all that a brace behind places tells of the bytes
pub places_cut : (rest places after : List ℕ) (n : ℕ) → n ≡ prefix_len is_place rest → rest ≡ places ++ 125 ∷ after
    → ArePlaces places → (n < length rest) × (get_or rest n 0 ≡ 125) × (take n rest ≡ places)
places_cut rest places after n e h a =
    let len : length places ≡ n = sym (e ∙ (ap (prefix_len is_place) h ∙ prefix_len-places places after a.each)) in (
      omega (arith, ap length h, length-append places (125 ∷ after)),
      ap (λ t. get_or t n 0) h ∙ get_or_at places 125 after 0 n len,
      ap (λ t. take n t) h ∙ take_at places (125 ∷ after) n len,
    )

pub no_braced_end : (rest : List ℕ) (n : ℕ) → n ≡ prefix_len is_place rest → n ≡ length rest → NoBraced rest
no_braced_end rest n e l places after h a s = omega (arith, (places_cut rest places after n e h a).0)

pub no_braced_byte : (rest : List ℕ) (n : ℕ) → n ≡ prefix_len is_place rest → get_or rest n 0 ≢ 125 → NoBraced rest
no_braced_byte rest n e l places after h a s = l (places_cut rest places after n e h a).1

pub no_braced_places : (rest : List ℕ) (n : ℕ) → n ≡ prefix_len is_place rest → NoPlaces (take n rest) → NoBraced rest
no_braced_places rest n e l places after h a s =
    l (subst (λ t. ArePlaces t) (sym (places_cut rest places after n e h a).2) a)

pub no_braced_scalar : (rest : List ℕ) (n v : ℕ) → n ≡ prefix_len is_place rest
    → v ≡ hex_value 0 (digits_of (take n rest)) → (IsScalar v → ⊥) → NoBraced rest
no_braced_scalar rest n v e f l places after h a s =
    l (subst (λ t. IsScalar t) (sym
    (f ∙ ap (λ t. hex_value 0 (digits_of t)) (places_cut rest places after n e h a).2)) s)
