-- The changes before one, that one, and those behind it.
use Rattle.std.proofs.Common.{◌≡◌, ◌∙◌, ap, sym, ℕ, ◌+◌, ◌<◌, List, [], ◌∷◌, ◌++◌, Option, length, get_or, take}
use Rattle.std.proofs.Common.{drop, map}
use Rattle.std.proofs.lemmas.List.{take_more, map-append, take-append-drop, drop_more}
use Rattle.cedar_files.specs.Files.{Contents, Keeps}
use Rattle.cedar_schema_cli_inputs.proofs.Keeping.{keeps_on}
use Rattle.cedar_schema_cli_format.specs.Formatting.{replacement_of}
use Rattle.cedar_schema_cli_format.specs.Plans.{Replacement}
use Rattle.cedar_schema_cli_format.specs.Replacing.{AreReplaced, none, then}
use Rattle.cedar_schema_cli_format.specs.declared.changes.Change.{Change}

-- one change more
pub one_more : (changes : List Change) (i : ℕ) (change : Change) → i < length changes → change ≡ get_or changes i change
    → map replacement_of (take (i + 1) changes) ≡ map replacement_of (take i changes) ++ replacement_of change ∷ []
one_more changes i change within is = ap (map replacement_of) (take_more changes i change within)
    ∙ (map-append replacement_of (take i changes) (get_or changes i change ∷ [])
    ∙ ap (λ last. map replacement_of (take i changes) ++ replacement_of last ∷ []) (sym is))

-- all changes
pub parts : (changes : List Change) (i : ℕ) (change : Change) → i < length changes → change ≡ get_or changes i change
    → map replacement_of changes ≡ map replacement_of (take i changes)
    ++ replacement_of change ∷ map replacement_of (drop (i + 1) changes)
parts changes i change within is =
    let at : drop i changes ≡ change ∷ drop (i + 1) changes =
    drop_more changes i change within ∙ ap (λ c. c ∷ drop (i + 1) changes) (sym is) in
    ap (map replacement_of) (sym (take-append-drop i changes) ∙ ap (λ rest. take i changes ++ rest) at)
    ∙ map-append replacement_of (take i changes) (change ∷ drop (i + 1) changes)

-- what is replaced after files stayed as they are is replaced from the first
pub replaced_before : (a b c : Option Contents) (files : List Replacement) → Keeps a b → AreReplaced b files c
    → AreReplaced a files c
replaced_before a b c files same (none later) = none (keeps_on a b c same later)
replaced_before a b c files same (then before file one) = then (replaced_before a b _ _ same before) file one
