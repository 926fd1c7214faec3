-- The keys of an object rise.
use Rattle.std.proofs.Common.{◌≡◌, List, [], ◌∷◌, Less, String, Global, string_bytes, string_cmp, ap₂, ◌∙◌}
use Rattle.std.specs.Prelude.{⊤}
use Rattle.std.specs.Str.{chars, encode_utf8_all}
use Rattle.std.specs.Ordering.{nat_cmp}
use Rattle.std.specs.Cmp.Lexicographic.{slice_cmp}
use Rattle.std.specs.List.{AllByRecursion}
use Rattle.std.specs.List.Sorted.{IsStrictlySortedBy}
use Rattle.std.specs.Map.{keys_of}
use Rattle.serde_json.specs.View.{members_view}
use Rattle.serde_json.proofs.Views.{Entry}
use Rattle.cedar_data.specs.Text.{text_cmp}
use Rattle.schema_json_shapes.specs.Shapes.{key_texts}

-- the keys are text
abbrev pub Spelled : List Entry → Type 0
Spelled [] = ⊤
Spelled (e ∷ es) = (encode_utf8_all (chars (string_bytes e.0)) ≡ string_bytes e.0) × Spelled es

rises_after : (k : String Global) (es : List Entry) → encode_utf8_all (chars (string_bytes k)) ≡ string_bytes k
    → Spelled es → AllByRecursion (λ y. string_cmp k y ≡ Less) (keys_of es)
    → AllByRecursion (λ y. text_cmp (chars (string_bytes k)) y ≡ Less) (key_texts (members_view es))
rises_after k [] e s h = tt
rises_after k (f ∷ es) e s h = (ap₂ (slice_cmp nat_cmp) e s.0 ∙ h.0, rises_after k es e s.1 h.1)

pub keys_rise : (es : List Entry) → Spelled es → IsStrictlySortedBy string_cmp (keys_of es)
    → IsStrictlySortedBy text_cmp (key_texts (members_view es))
unfolding IsStrictlySortedBy
keys_rise [] s h = tt
keys_rise (e ∷ es) s h = (rises_after e.0 es s.0 s.1 h.0, keys_rise es s.1 h.1)
