-- Annotations on the way into a tree.
use Rattle.std.specs.Prelude.{◌≡◌, ℕ, List, ◌++◌, Option, map}
use Rattle.std.specs.List.{AllPairs}
use Rattle.std.specs.List.Sorted.{IsPermutation}
use Rattle.cedar_identifiers.specs.declared.any_id.AnyId.{AnyId}
use Rattle.schema_syntax_reader.specs.declared.annotations.Kept.{Kept}
use Rattle.schema_syntax_reader.specs.Deduplicated.{Placed, placed_key, key_place, value_of, HaveOtherKeys}

-- a key, and what the tree has at it
abbrev pub entry_of : Placed → AnyId × Kept
entry_of a = (placed_key a, record { value = value_of a; place = key_place a })

-- without the place
abbrev pub note_of_entry : AnyId × Kept → AnyId × Option (List ℕ)
note_of_entry e = (e.0, e.1.value)

-- the entries are those of the annotations before the ones that are left, and no key of them stands twice
pub record HasRead (all left : List Placed) (entries : List (AnyId × Kept)) : Type 0 where
  pub front : List Placed
  pub split : all ≡ front ++ left
  pub same : IsPermutation (map entry_of front) entries
  pub apart : AllPairs HaveOtherKeys front
