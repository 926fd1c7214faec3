-- Tests of texts and of names, by their orders.
use Rattle.std.proofs.Common.{◌≡◌, ◌↔◌, ℕ, Bool, true, false, List, refl, sym, ap, ◌∙◌}
use Rattle.std.specs.Ordering.{is_eq}
use Rattle.std.specs.Cmp.Lexicographic.{slice_cmp, lists_ties}
use Rattle.std.specs.Str.{bytes_eq, encode_utf8_all}
use Rattle.std.proofs.lemmas.Cmp.{tied_itself}
use Rattle.std.proofs.lemmas.Map.Text.{is_eq-slice_cmp}
use Rattle.std.proofs.lemmas.Slice.Eq.{bytes_eq-Decides}
use Rattle.std.proofs.lemmas.Str.{encodes_same}
use Rattle.cedar_data.specs.Text.{text_cmp}
use Rattle.cedar_data.proofs.Orders.{equal_from, texts_total, texts_exact}
use Rattle.cedar_names.specs.Definitions.{same_name}

-- tests that imply one another are the same
pub same_test : (a b : Bool) → (a ≡ true → b ≡ true) → (b ≡ true → a ≡ true) → a ≡ b
same_test true b f g = sym (f refl)
same_test false true f g = g refl
same_test false false f g = refl

pub bytes_test : (v w : List ℕ) → bytes_eq (encode_utf8_all v) (encode_utf8_all w) ≡ bytes_eq v w
bytes_test v w =
    let bytes = bytes_eq-Decides (encode_utf8_all v) (encode_utf8_all w) in
    let texts = bytes_eq-Decides v w in
    same_test (bytes_eq (encode_utf8_all v) (encode_utf8_all w)) (bytes_eq v w)
    (λ h. texts.1 (encodes_same v w (bytes.0 h))) (λ h. bytes.1 (ap encode_utf8_all (texts.0 h)))

pub texts_tie : (v w : List ℕ) → is_eq (text_cmp v w) ≡ bytes_eq v w
texts_tie v w = is_eq-slice_cmp (encode_utf8_all v) (encode_utf8_all w) ∙ bytes_test v w

pub names_tie : (m n : List (List ℕ)) → is_eq (slice_cmp text_cmp m n) ≡ same_name m n
names_tie m n = sym (lists_ties text_cmp (λ v w. sym (texts_tie v w)) m n)

pub names_decide : (m n : List (List ℕ)) → (same_name m n ≡ true) ↔ (m ≡ n)
names_decide m n = (
  λ h. texts_exact m n (equal_from (slice_cmp text_cmp m n) (names_tie m n ∙ h)),
  λ e. sym (names_tie m n) ∙ (ap (λ x. is_eq (slice_cmp text_cmp m x)) (sym e)
      ∙ ap is_eq (tied_itself texts_total m)),
)

-- a test that tells names apart as their components are
pub name_test : (r : Bool) (m n : List (List ℕ)) → (r ≡ true) ↔ (m ≡ n) → r ≡ same_name m n
name_test r m n f = same_test r (same_name m n) (λ h. (names_decide m n).1 (f.0 h)) (λ h. f.1 ((names_decide m n).0 h))

pub text_test : (r : Bool) (v w : List ℕ) → (r ≡ true) ↔ (v ≡ w) → r ≡ bytes_eq v w
text_test r v w f = same_test r (bytes_eq v w) (λ h. (bytes_eq-Decides v w).1 (f.0 h))
    (λ h. f.1 ((bytes_eq-Decides v w).0 h))
