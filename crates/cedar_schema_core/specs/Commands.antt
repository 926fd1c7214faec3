-- What the words after the program's name ask for.
use Rattle.std.specs.Prelude.{◌≡◌, ◌≤◌, ℕ, List, [], ◌∷◌, ◌++◌, length, codes, decimal, Option, Some, None}
use Rattle.std.specs.List.Sorted.{IsStrictlySortedBy}
use Rattle.cedar_data.specs.Text.{text_cmp}
use Rattle.cedar_names.specs.CanonicalText.{canonical_text}
use Rattle.cedar_names.specs.Meaning.{SchemaMeaning}
use Rattle.cedar_names.specs.Tables.{table_names, standard_names, IsTableOf}
use Rattle.cedar_names.specs.declared.extension_table.ExtensionTable.{ExtensionTable}
use Rattle.schema_generate.specs.Generated.{max_size, generated}
use Rattle.cedar_schema_core.specs.declared.command.Command.{Command}
use Rattle.cedar_schema_core.specs.declared.command.Command.TheVariants.{Recover, Check, ToJson, FromJson, Generate}
use Rattle.cedar_schema_core.specs.declared.json_texts.JsonForm.TheVariants.{Current, Deprecated}

-- the table of all extensions that Cedar has
abbrev pub IsStandard : ExtensionTable → Type 0
IsStandard table = table_names table ≡ standard_names

-- the table of these names, which stand in the order of their texts
pub record IsTableInOrder (names : List (List ℕ)) (table : ExtensionTable) : Type 0 where
  pub of : IsTableOf names table
  pub rise : IsStrictlySortedBy (λ a b. text_cmp a.id.text b.id.text) table.names

-- the words ask for a table: the first of these two words alone for all extensions, or the second before the names of
-- others
pub data AsksForTable (plain with : List ℕ) (words : List (List ℕ)) (table : ExtensionTable) : Type 0 where
  standard : words ≡ plain ∷ [] → IsStandard table → AsksForTable plain with words table
  named : (names : List (List ℕ)) → words ≡ with ∷ names → IsTableInOrder names table
      → AsksForTable plain with words table

-- the words ask for the command: `recover-with` and the names of a lawful table, `generate` and a size in decimal, or
-- the one word of another command, which tells the form of JSON that is read
pub data Asks (words : List (List ℕ)) : Command → Type 0 where
  recover : (table : ExtensionTable) → words ≡ codes "recover" ∷ [] → IsStandard table → Asks words (Recover table)
  recover_with : (names : List (List ℕ)) (table : ExtensionTable) → words ≡ codes "recover-with" ∷ names
      → IsTableInOrder names table → Asks words (Recover table)
  check : (table : ExtensionTable) → words ≡ codes "check" ∷ [] → IsStandard table → Asks words (Check table)
  to_json : (table : ExtensionTable) → words ≡ codes "to-json" ∷ [] → IsStandard table → Asks words (ToJson table)
  from_json : (table : ExtensionTable) → words ≡ codes "from-json" ∷ [] → IsStandard table
      → Asks words (FromJson Current table)
  from_deprecated : (table : ExtensionTable) → words ≡ codes "from-deprecated" ∷ [] → IsStandard table
      → Asks words (FromJson Deprecated table)
  generate : (size : ℕ) (table : ExtensionTable) → words ≡ codes "generate" ∷ decimal size ∷ [] → 1 ≤ size
      → size ≤ max_size → IsStandard table → Asks words (Generate size table)

-- the text that a command makes for itself, where it reads no input
abbrev pub own_text : Command → Option (List ℕ)
own_text (Recover table) = None
own_text (Check table) = None
own_text (ToJson table) = None
own_text (FromJson form table) = None
own_text (Generate size table) = Some (generated size)

-- the size of the text that a command makes is one that texts are made with
abbrev pub IsSized : Command → Type 0
IsSized (Recover table) = Unit {0}
IsSized (Check table) = Unit {0}
IsSized (ToJson table) = Unit {0}
IsSized (FromJson form table) = Unit {0}
IsSized (Generate size table) = (1 ≤ size) × (size ≤ max_size)

-- the command works on its input
abbrev pub ReadsInput : Command → Type 0
ReadsInput c = own_text c ≡ None

-- how many entity types and actions a meaning holds
abbrev pub count_line : SchemaMeaning → List ℕ
count_line m =
    decimal (length m.entities) ++ (codes " entity types, " ++ (decimal (length m.actions) ++ codes " actions\n"))

-- how long a text is, how many entity types and actions its meaning holds, and how long the canonical text of that is
abbrev pub made_line : List ℕ → SchemaMeaning → List ℕ
made_line text m =
    decimal (length text) ++ (codes " bytes in, " ++ (decimal (length m.entities) ++ (codes " entity types, "
    ++ (decimal (length m.actions) ++ (codes " actions, " ++ (decimal (length (canonical_text m))
    ++ codes " bytes out\n"))))))
