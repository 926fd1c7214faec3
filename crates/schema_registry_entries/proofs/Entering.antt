-- How a text is entered.
use Rattle.std.proofs.Common.{◌≡◌, ◌+◌, ℕ, Bool, true, false, not, ◌||◌, cond, List, [], ◌∷◌, ◌++◌, map, length, Some}
use Rattle.std.proofs.Common.{refl, sym, ap, ◌∙◌, subst, inl, inr, slice_get, arith}
use Rattle.std.specs.Str.{encode_utf8_all, bytes_eq}
use Rattle.std.specs.List.{list_any, position_or_len, Contains}
use Rattle.std.specs.Option.{option_map}
use Rattle.std.specs.Cmp.Lexicographic.{nat_list_eq_equiv}
use Rattle.std.proofs.lemmas.List.{map-append, length-map}
use Rattle.std.proofs.lemmas.Option.{slice_get-map}
use Rattle.std.proofs.lemmas.Slice.Eq.{bytes_eq-Decides}
use Rattle.std.proofs.lemmas.Bool.{cases_Bool}
use Rattle.std.proofs.lemmas.Map.Views.{list_any-from_Contains}
use Rattle.indexmap.specs.IndexSet.{insert_key}
use Rattle.schema_registry_entries.specs.Entries.{IsEntered, stood, added}

abbrev is_text : List ℕ → List ℕ → Bool
is_text v k = bytes_eq (encode_utf8_all v) (encode_utf8_all k)

-- whether a text is among others can be asked of their bytes
any_of_bytes : (v : List ℕ) (ks : List (List ℕ))
    → list_any (bytes_eq (encode_utf8_all v)) (map encode_utf8_all ks) ≡ list_any (is_text v) ks
any_of_bytes v [] = refl
any_of_bytes v (k ∷ ks) = ap (λ b. is_text v k || b) (any_of_bytes v ks)

-- where no text passes, the first place that does is behind all
past_all : (p : List ℕ → Bool) (ks : List (List ℕ)) → list_any p ks ≡ false → position_or_len p ks ≡ length ks
past_all p [] none = refl
past_all p (k ∷ ks) none = elim (cases_Bool (p k)) [
  | inl e ↦ let k : true ≡ false = rw e at none in cc
  | inr e ↦ let rest : position_or_len p ks ≡ length ks = past_all p ks (rw e at none) in
      let step : 1 + position_or_len p ks ≡ length (k ∷ ks) = omega (arith, rest) in
      rw e step
]

absent : (v : List ℕ) (ks : List (List ℕ)) → list_any (is_text v) ks ≡ false
    → Contains (map encode_utf8_all ks) (encode_utf8_all v) → ⊥
absent v ks none there =
    let found = list_any-from_Contains nat_list_eq_equiv (encode_utf8_all v) (map encode_utf8_all ks) there in
    let both : true ≡ false = sym found ∙ (any_of_bytes v ks ∙ none) in cc

at_place : (v : List ℕ) (ks : List (List ℕ)) (place : ℕ) (k : List ℕ) → slice_get ks place ≡ Some k
    → is_text v k ≡ true → slice_get (map encode_utf8_all ks) place ≡ Some (encode_utf8_all v)
at_place v ks place k is same =
    slice_get-map encode_utf8_all ks place ∙ (ap (option_map encode_utf8_all) is
    ∙ ap Some (sym ((bytes_eq-Decides (encode_utf8_all v) (encode_utf8_all k)).0 same)))

-- what inserting a text into a set of texts comes to
pub is_entered : (ks new : List (List ℕ)) (v : List ℕ) (place : ℕ) → new ≡ insert_key is_text ks v
    → place ≡ position_or_len (is_text v) ks
    → (k : List ℕ) × (slice_get new place ≡ Some k) × (is_text v k ≡ true)
    → IsEntered (encode_utf8_all v) (map encode_utf8_all ks) place (map encode_utf8_all new)
is_entered ks new v place made at (k, is, same) = elim (cases_Bool (list_any (is_text v) ks)) [
  | inl e ↦
      let all : new ≡ ks = rw e at made in
      subst (λ l. IsEntered (encode_utf8_all v) (map encode_utf8_all ks) place (map encode_utf8_all l)) (sym all)
      (stood (at_place v ks place k (subst (λ l. slice_get l place ≡ Some k) all is) same))
  | inr e ↦
      let all : new ≡ ks ++ v ∷ [] = rw e at made in
      subst (λ l. IsEntered (encode_utf8_all v) (map encode_utf8_all ks) place l)
      (sym (ap (map encode_utf8_all) all ∙ map-append encode_utf8_all ks (v ∷ [])))
      (added (absent v ks e)
      (at ∙ (past_all (is_text v) ks e ∙ sym (length-map ks encode_utf8_all))))
]
