-- Which names are defined: those that are declared, the type `Action` of each namespace with an action, and the builtin
-- names, which are common types.
use Rattle.std.specs.Prelude.{ℕ, Bool, ◌||◌, List, [], ◌∷◌, ◌++◌, map, codes, if◌then◌else◌}
use Rattle.cedar_identifiers.specs.declared.name_text.NameText as named
use Rattle.cedar_names.specs.Definitions.{Definitions}
use Rattle.cedar_names.specs.Tables.{table_names}
use Rattle.cedar_names.specs.declared.extension_table.ExtensionTable.{ExtensionTable}
use Rattle.std.specs.List.{flat_map}
use Rattle.schema_json.specs.declared.fragment.Fragment.{Fragment}
use Rattle.schema_resolve_definitions.specs.Declarations.{declared}
use Rattle.schema_resolve_definitions.specs.Tests.{Tests, tests_of}

-- the primitive types, and the extension types of the table
abbrev pub builtins : ExtensionTable → List (List ℕ)
builtins table = codes "Bool" ∷ codes "Long" ∷ codes "String" ∷ table_names table

-- the empty namespace declares the word itself
abbrev pub is_hidden : Tests → List ℕ → Bool
is_hidden t word = t.is_common (word ∷ []) || t.is_entity (word ∷ [])

-- `__cedar` and the word, and the word alone unless that is hidden
abbrev pub names_of_builtin : Tests → List ℕ → List (List (List ℕ))
names_of_builtin t word = (codes "__cedar" ∷ word ∷ []) ∷ (if is_hidden t word then [] else (word ∷ []) ∷ [])

-- the names of each of these words
abbrev pub names_of_builtins : Tests → List (List ℕ) → List (List (List ℕ))
names_of_builtins t words = flat_map (names_of_builtin t) words

-- with the builtin names and the types of the actions
abbrev pub completed : Definitions → List (List ℕ) → Definitions
completed d words =
    record {
      commons = d.commons ++ names_of_builtins (tests_of d) words;
      entities = d.entities ++ map (λ a. a.0) d.actions;
      actions = d.actions;
    }

-- what a fragment and a table define, as tests
abbrev pub defined : {N : Type 0} {G : named.Ghosts N} → Fragment N G → ExtensionTable → Definitions
defined f table = completed (declared f) (builtins table)
