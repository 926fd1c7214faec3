-- What a generated text declares.
use Rattle.std.specs.Prelude.{ℕ, ◌==◌, true, List, [], ◌∷◌, codes, flat_map, Some, None, if◌then◌else◌}
use Rattle.std.specs.List.{range_with_len}
use Rattle.schema_generate.specs.Generated.{entity_word, action_word, parent_of, target_of, resource_of}
use Rattle.schema_syntax_tree.specs.declared.pr.PR.TheVariants.{Principal, Resource}
use Rattle.laws_written.specs.Written.{WrittenAttributes, path, no_more, attribute, types, entity, action}
use Rattle.laws_written.specs.Written.{WrittenDeclared, WrittenItem, outside}

-- the name of an entity type
abbrev pub entity_path : ℕ → List (List ℕ)
entity_path i = entity_word i ∷ []

abbrev pub parents_of : ℕ → List (List (List ℕ))
parents_of i = if i == 0 then [] else entity_path (parent_of i) ∷ []

-- `{ a: Long, b: E3 }`
abbrev pub attributes_of : ℕ → ℕ → WrittenAttributes
attributes_of n i =
    attribute [] (codes "a") true (path (codes "Long" ∷ []))
    (attribute [] (codes "b") true (path (entity_path (target_of n i))) no_more)

abbrev pub entity_of_number : ℕ → ℕ → WrittenDeclared
entity_of_number n i =
    record { notes = []; decl = entity (entity_word i ∷ []) (parents_of i) (attributes_of n i) None }

abbrev pub action_of_number : ℕ → ℕ → WrittenDeclared
action_of_number n i =
    record {
      notes = [];
      decl = action (action_word i ∷ []) []
          (Some (types Principal (entity_path i ∷ []) ∷ types Resource (entity_path (resource_of n i) ∷ []) ∷ []));
    }

-- the two declarations of a number
abbrev pub items_of_number : ℕ → ℕ → List WrittenItem
items_of_number n i = outside (entity_of_number n i) ∷ outside (action_of_number n i) ∷ []

-- what the text of n entity types and n actions declares: for each number below n, in turn, one of both
abbrev pub generated_items : ℕ → List WrittenItem
generated_items n = flat_map (items_of_number n) (range_with_len 0 n)
