-- A printable fragment and its form in a text: what is defined in both, and what of a printable fragment is defined.
use Rattle.std.proofs.Common.{◌≡◌, ℕ, Bool, true, false, ◌&&◌, ◌||◌, List, [], ◌∷◌, codes, refl, ◌∙◌}
use Rattle.std.specs.List.{list_any}
use Rattle.std.specs.Str.{bytes_eq}
use Rattle.std.proofs.lemmas.List.Folds.{list_any-append}
use Rattle.std.proofs.lemmas.Bool.{or_left, or_right}
use Rattle.cedar_names.specs.Definitions.{among, same_name}
use Rattle.schema_resolve_definitions.specs.Defined.{names_of_builtin, names_of_builtins}
use Rattle.schema_resolve_definitions.specs.Tests.{Tests}

abbrev full : List ℕ → List (List ℕ)
full w = codes "__cedar" ∷ w ∷ []

-- the name in `__cedar` of a builtin word is defined
named_there : (t : Tests) (w v : List ℕ) → bytes_eq w v ≡ true → among (names_of_builtin t v) (full w) ≡ true
named_there t w v h = or_left (bytes_eq w v && true) _ (go (bytes_eq w v) h)
  where
    go : (b : Bool) → b ≡ true → (b && true) ≡ true
    go true e = refl
    go false e = e

pub cedar_there : (t : Tests) (w : List ℕ) (ws : List (List ℕ)) → list_any (bytes_eq w) ws ≡ true
    → among (names_of_builtins t ws) (full w) ≡ true
cedar_there t w [] h = absurd (cc)
cedar_there t w (v ∷ vs) h =
    list_any-append (same_name (full w)) (names_of_builtin t v) (names_of_builtins t vs)
    ∙ go (bytes_eq w v) refl h (cedar_there t w vs)
  where
    go : (b : Bool) → bytes_eq w v ≡ b → (b || list_any (bytes_eq w) vs) ≡ true
        → (list_any (bytes_eq w) vs ≡ true → among (names_of_builtins t vs) (full w) ≡ true)
        → (among (names_of_builtin t v) (full w) || among (names_of_builtins t vs) (full w)) ≡ true
    go true e k more = or_left _ _ (named_there t w v e)
    go false e k more = or_right _ _ (more k)
