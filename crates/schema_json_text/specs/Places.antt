-- Namespaces by the texts of their names.
use Rattle.std.specs.Prelude.{ℕ, List}
use Rattle.std.specs.Str.{encode_utf8_all}
use Rattle.serde_json.specs.Data.{Data}
use Rattle.cedar_identifiers.specs.declared.name_text.NameText as named
use Rattle.schema_json.specs.declared.fragment.NamespaceDefinition.{NamespaceDefinition}
use Rattle.schema_json_values.specs.FragmentValues.{namespace_value}

module _ {N : Type 0} (components : N → List (List ℕ)) {G : named.Ghosts N} where
  -- a namespace under the text of its name
  abbrev pub placed_entry : List ℕ → NamespaceDefinition N G → List ℕ × Data
  placed_entry text namespace = (encode_utf8_all text, namespace_value components namespace)
