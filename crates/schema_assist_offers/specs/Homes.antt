-- Where names are declared, as the code sees it from a place.
use Rattle.std.specs.Prelude.{◌≡◌, ℕ, true, false, nat_eq, List, [], ◌∷◌, ◌++◌}
use Rattle.std.specs.List.{starts_with}
use Rattle.std.specs.Option.{option_copied}
use Rattle.cedar_identifiers.specs.Names.{components_of, name_text}
use Rattle.cedar_names.specs.Definitions.{same_name}
use Rattle.schema_resolve_definitions.specs.Tests.{tests_of}
use Rattle.schema_assist_offers.specs.declared.asked.Asked.{Asked}
use Rattle.schema_assist_offers.specs.declared.homes.Home.{Home}
use Rattle.schema_assist_offers.specs.declared.homes.Home.TheVariants.{Own, Outer, Other, Unlike}
use Rattle.schema_assist_offers.specs.Spellings.{is_outer, words_in, Question}

-- a name that ends in any word and is declared in the namespace of these words begins so
abbrev pub StartsSo : List ℕ → List (List ℕ) → List ℕ → Type 0
StartsSo front before word = starts_with nat_eq (name_text (before ++ word ∷ [])) front ≡ true

abbrev pub StartsOtherwise : List ℕ → List (List ℕ) → List ℕ → Type 0
StartsOtherwise front before word = starts_with nat_eq (name_text (before ++ word ∷ [])) front ≡ false

-- the namespace of these words, as seen from the namespace ns, where names that begin so are asked for
abbrev pub IsHome : List (List ℕ) → List ℕ → List (List ℕ) → Home → Type 0
IsHome ns front before Own = same_name before ns ≡ true
IsHome ns front before (Outer around) = (same_name before ns ≡ false) × (before ≡ [])
    × (components_of around.now ≡ ns)
IsHome ns front before (Other text) = (same_name before ns ≡ false) × (is_outer before ≡ false)
    × ((word : List ℕ) → (name_text (before ++ word ∷ []) ≡ text ++ word) × StartsSo front before word)
IsHome ns front before Unlike = (same_name before ns ≡ false) × (is_outer before ≡ false)
    × ((word : List ℕ) → StartsOtherwise front before word)

-- what the code asks
abbrev pub question : Asked → Question
question asked = record {
  tests = tests_of asked.defs.now;
  ns = words_in (option_copied asked.ns);
  front = asked.front.now;
}
