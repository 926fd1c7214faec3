-- The components of a name, and its text.
use Rattle.std.specs.Prelude.{ℕ, Bool, List, ◌∷◌, codes, map}
use Rattle.std.specs.List.{list_any}
use Rattle.cedar_data.specs.Rows.{joined_by}
use Rattle.cedar_identifiers.specs.Words.{is_cedar}
use Rattle.cedar_identifiers.specs.declared.id.Id.{Id}
use Rattle.cedar_identifiers.specs.declared.internal_name.InternalName.{InternalName}

-- the texts of the words
abbrev pub texts_of : List Id → List (List ℕ)
texts_of ids = map (λ i. i.text) ids

-- the texts of the components, the outermost first
abbrev pub components_of : InternalName → List (List ℕ)
components_of name = texts_of (name.first ∷ name.others)

-- the components with `::` between two
abbrev pub name_text : List (List ℕ) → List ℕ
name_text components = joined_by (codes "::") components

-- some component is `__cedar`
abbrev pub has_cedar : List (List ℕ) → Bool
has_cedar components = list_any is_cedar components
