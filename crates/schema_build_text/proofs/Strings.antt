-- Values as strings: as they are where nothing in them is escaped.
use Rattle.std.proofs.Common.{◌≡◌, ℕ, ◌<◌, ◌≤◌, true, false, not, ◌==◌, ◌||◌, List, [], ◌∷◌, ◌++◌, codes, nat_lt}
use Rattle.std.proofs.Common.{refl, ap, sym, ◌∙◌, arith, String}
use Rattle.std.specs.Cmp.{first_so, second_so}
use Rattle.std.specs.List.{list_all}
use Rattle.std.specs.Str.{IsUtf8, IsAscii, chars, encode_utf8_all, all_scalars}
use Rattle.std.proofs.lemmas.Bool.{not-true, or_parts, ltb-true, ltb-false, ne_eqb, cond-false}
use Rattle.std.proofs.lemmas.Str.{encode_ascii, chars-encodes, chars-IsAscii, encodes-chars, scalars-chars}
use Rattle.std.proofs.lemmas.Str.Ascii.{IsAscii-nil, IsAscii-cons}
use Rattle.schema_syntax_tokens.specs.Quotes.{is_escaped, quoted_char, quoted_body, quoted}
use Rattle.schema_syntax_tokens.proofs.Quoted.{quoted_utf8}
use Rattle.schema_build_text.specs.Adds.{Adds}
use Rattle.schema_build_text.specs.Growing.{so}
use Rattle.schema_build_text.specs.Strings.{is_plain}

below : (b : ℕ) → is_plain b ≡ true → b < 128
below b h = ltb-true b 128 (first_so (nat_lt b 128) (not (is_escaped b)) h)

plain_char : (b : ℕ) → is_plain b ≡ true → quoted_char b ≡ b ∷ []
plain_char b h =
    let free : is_escaped b ≡ false = not-true (is_escaped b)
    (second_so (nat_lt b 128) (not (is_escaped b)) h) in
    let p = or_parts (nat_lt b 32 || b == 127) ((b == 34 || b == 39) || b == 92) free in
    let q = or_parts (b == 34 || b == 39) (b == 92) p.1 in
    let r = or_parts (b == 34) (b == 39) q.0 in
    let low : 32 ≤ b = ltb-false b 32 (or_parts (nat_lt b 32) (b == 127) p.0).0 in
    cond-false (b == 0) _ _ (ne_eqb b 0 (λ e. omega arith))
    ∙ (cond-false (b == 9) _ _ (ne_eqb b 9 (λ e. omega arith))
    ∙ (cond-false (b == 10) _ _ (ne_eqb b 10 (λ e. omega arith))
    ∙ (cond-false (b == 13) _ _ (ne_eqb b 13 (λ e. omega arith))
    ∙ (cond-false (b == 34) _ _ r.0 ∙ (cond-false (b == 39) _ _ r.1 ∙ (cond-false (b == 92) _ _ q.1
    ∙ (cond-false (nat_lt b 32 || b == 127) _ _ p.0 ∙ encode_ascii b (below b h))))))))

plain_body : (bs : List ℕ) → list_all is_plain bs ≡ true → quoted_body bs ≡ bs
plain_body [] h = refl
plain_body (b ∷ bs) h =
    let e : quoted_char b ≡ b ∷ [] = plain_char b (first_so (is_plain b) (list_all is_plain bs) h) in
    let r : quoted_body bs ≡ bs = plain_body bs (second_so (is_plain b) (list_all is_plain bs) h) in
    λ i. e i ++ r i

plain_ascii : (bs : List ℕ) → list_all is_plain bs ≡ true → IsAscii bs
plain_ascii [] h = IsAscii-nil
plain_ascii (b ∷ bs) h =
    IsAscii-cons b bs (below b (first_so (is_plain b) (list_all is_plain bs) h))
    (plain_ascii bs (second_so (is_plain b) (list_all is_plain bs) h))

-- a value of which nothing is escaped
pub string_plain : (value s : List ℕ) → s ≡ encode_utf8_all value → all_scalars value ≡ true
    → list_all is_plain s ≡ true → codes "\"" ++ (s ++ codes "\"") ≡ quoted value
string_plain value s b sc h =
    let same : s ≡ value = sym (chars-IsAscii s (plain_ascii s h)) ∙ (ap chars b ∙ chars-encodes value sc) in
    ap (λ t. 34 ∷ (t ++ 34 ∷ [])) (sym (plain_body s h)) ∙ ap quoted same

-- a value that is written as a string first
pub escaped_added : {Z : Type 0} {old new : String Z} (value front written shown : List ℕ) → IsUtf8 value → front ≡ []
    → written ≡ front ++ chars (quoted (chars value)) → shown ≡ encode_utf8_all written
    → Adds old new shown → Adds old new (quoted (chars value))
escaped_added value front written shown u f w v e =
    so e (v ∙ ap encode_utf8_all (w ∙ ap (λ t. t ++ chars (quoted (chars value))) f)
    ∙ encodes-chars (quoted (chars value)) (quoted_utf8 (chars value) (scalars-chars value u)))
