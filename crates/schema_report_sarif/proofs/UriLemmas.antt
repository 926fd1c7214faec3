-- Which characters of a path are escaped.
use Rattle.std.proofs.Common.{◌≡◌, ℕ, zero, suc, ◌<◌, Bool, true, false, true≢false, not, ◌&&◌, refl, sym}
use Rattle.std.proofs.Common.{◌∙◌}
use Rattle.std.proofs.Common.{List, [], ◌∷◌, ◌++◌, ap, Decides, arith}
use Rattle.std.specs.Char.{is_ascii}
use Rattle.std.proofs.lemmas.Bool.Decides.{Decides-below_and, nat_tests}
use Rattle.percent_encoding.specs.AsciiSet.{contains, should_percent_encode}
use Rattle.percent_encoding.specs.Percent.{encode_byte, percent_encode}
use Rattle.percent_encoding.specs.declared.ascii_set.AsciiSet.{AsciiSet}
use Rattle.schema_report_sarif.specs.declared.uris.TheConstants.{PATH_ESCAPES}
use Rattle.schema_report_sarif.specs.Uris.{is_path_char, path_byte, path_uri}

abbrev agree : Bool → Bool → Bool
agree true b = b
agree false b = not b

agree-Decides : (a b : Bool) → Decides (agree a b) (a ≡ b)
agree-Decides true true = (λ _. refl, λ _. refl)
agree-Decides true false = (λ e. absurd (true≢false (sym e)), λ e. absurd (true≢false e))
agree-Decides false true = (λ e. absurd (true≢false (sym e)), λ e. absurd (true≢false (sym e)))
agree-Decides false false = (λ _. refl, λ _. refl)

abbrev all_agree : ℕ → Bool
all_agree zero = true
all_agree (suc n) = agree (contains PATH_ESCAPES n) (not (is_path_char n)) && all_agree n

pub escapes_checked : (b : ℕ) → b < 128 → contains PATH_ESCAPES b ≡ not (is_path_char b)
escapes_checked = (Decides-below_and (λ b. agree (contains PATH_ESCAPES b) (not (is_path_char b)))
    (λ b. contains PATH_ESCAPES b ≡ not (is_path_char b)) all_agree
    (λ b. agree-Decides (contains PATH_ESCAPES b) (not (is_path_char b))) refl (λ _. refl) 128).0 refl

above_ascii : (b : ℕ) → is_ascii b ≡ false → is_path_char b ≡ false
above_ascii b h = grind (arith, nat_tests)

below_128 : (b : ℕ) → is_ascii b ≡ true → b < 128
below_128 b h = grind (arith, nat_tests)

encoded : (set : AsciiSet) (b : ℕ) → ((b : ℕ) → b < 128 → contains set b ≡ not (is_path_char b))
    → encode_byte set b ≡ path_byte b
unfolding should_percent_encode
encoded set b h = by (is_ascii b) refl (is_path_char b) refl
  where
    by : (ascii : Bool) → is_ascii b ≡ ascii → (path : Bool) → is_path_char b ≡ path → encode_byte set b ≡ path_byte b
    by true a true p = rw (a, h b (below_128 b a), p) refl
    by true a false p = rw (a, h b (below_128 b a), p) refl
    by false a true p = absurd (true≢false (sym p ∙ above_ascii b a))
    by false a false p = rw (a, p) refl

join : {a b c d : List ℕ} → a ≡ b → c ≡ d → a ++ c ≡ b ++ d
join {a} {b} {c} {d} e f = ap (λ l. l ++ c) e ∙ ap (λ l. b ++ l) f

pub uri_encoded : (set : AsciiSet) (path : List ℕ) → ((b : ℕ) → b < 128 → contains set b ≡ not (is_path_char b))
    → percent_encode set path ≡ path_uri path
unfolding percent_encode
uri_encoded set [] h = refl
uri_encoded set (b ∷ bs) h = join (encoded set b h) (uri_encoded set bs h)
