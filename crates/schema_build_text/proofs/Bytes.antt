-- Characters that are pushed, as bytes.
use Rattle.std.proofs.Common.{◌≡◌, true, false, List, ◌++◌, codes, refl, ap, sym, ◌∙◌}
use Rattle.std.specs.Str.{encode_utf8_all}
use Rattle.std.proofs.Common.{ℕ, ◌+◌, Bool, if◌then◌else◌, arith, add-one, String, string_bytes, Result, Ok, Err}
use Rattle.std.proofs.Common.{is_ok}
use Rattle.std.specs.Result.{OnOk}
use Rattle.schema_syntax_tokens.specs.Quotes.{quoted}
use Rattle.cedar_identifiers.specs.Words.{is_id}
use Rattle.cedar_identifiers.proofs.Ids.{id_bytes}
use Rattle.cedar_names.specs.CanonicalText.{spaces, attribute_name}
use Rattle.schema_build_text.specs.Adds.{Adds}
use Rattle.schema_build_text.specs.Growing.{so}

-- a text that is pushed adds its bytes
pub pushed : {Z T E : Type 0} (r : Result T E) (old new : String Z) (more : List ℕ)
    → string_bytes new ≡ (if is_ok r then string_bytes old ++ more else string_bytes old) → OnOk r (Adds old new more)
pushed (Ok x) old new more e = record { grown = e }
pushed (Err e) old new more h = tt

-- a bare name of an attribute that is pushed
pub bare_added : {Z : Type 0} {old new : String Z} {s : List ℕ} (name : List ℕ) → Adds old new s
    → s ≡ encode_utf8_all name → is_id name ≡ true
    → Adds old new (attribute_name name)
bare_added name e b h =
    so e (b ∙ id_bytes name h ∙ sym (ap (λ (t : Bool). if t then name else quoted name) h))

-- another, as a string
pub quoted_added : {Z : Type 0} {old new : String Z} (name : List ℕ) → Adds old new (quoted name) → is_id name ≡ false
    → Adds old new (attribute_name name)
quoted_added name e h = so e (sym (ap (λ (t : Bool). if t then name else quoted name) h))

space_step : (n m : ℕ) → n ≡ m + 1 → spaces n ≡ codes " " ++ spaces m
space_step n m e = rw (e, add-one) refl

-- four spaces, and those after them
pub spaces_step : (n m : ℕ) → n ≡ m + 4 → spaces n ≡ codes "    " ++ spaces m
spaces_step n m e =
    space_step n (m + 3) (omega (arith, e)) ∙ ap (λ t. codes " " ++ t)
    (space_step (m + 3) (m + 2) (omega arith) ∙ ap (λ t. codes " " ++ t)
    (space_step (m + 2) (m + 1) (omega arith) ∙ ap (λ t. codes " " ++ t) (space_step (m + 1) m refl)))
