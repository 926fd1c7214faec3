-- The first names of a list.
use Rattle.std.proofs.Common.{◌≡◌, ◌∙◌, ap, sym, ℕ, ◌+◌, ◌<◌, List, [], ◌∷◌, ◌++◌, String, length, get_or, take, map}
use Rattle.std.proofs.Common.{string_bytes}
use Rattle.std.proofs.lemmas.List.{take_more, map-append}

-- one name more
pub one_more : {Z : Type 0} (names : List (String Z)) (i : ℕ) (name : String Z) → i < length names
    → name ≡ get_or names i name
    → map string_bytes (take (i + 1) names) ≡ map string_bytes (take i names) ++ string_bytes name ∷ []
one_more names i name within is = ap (map string_bytes) (take_more names i name within)
    ∙ (map-append string_bytes (take i names) (get_or names i name ∷ [])
    ∙ ap (λ last. map string_bytes (take i names) ++ string_bytes last ∷ []) (sym is))
