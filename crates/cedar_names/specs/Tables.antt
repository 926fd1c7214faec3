-- Extension tables.
use Rattle.std.specs.Prelude.{◌≡◌, ℕ, ◌<◌, ◌≢◌, Bool, List, [], ◌∷◌, length, map, codes, Some, None}
use Rattle.std.specs.List.{list_any}
use Rattle.std.specs.Str.{bytes_eq}
use Rattle.cedar_names.specs.TableNames.{repeats, fault_at}
use Rattle.cedar_names.specs.declared.table_error.TableError.{TableError}
use Rattle.cedar_names.specs.declared.table_error.TableError.TheVariants.{Memory}
use Rattle.cedar_names.specs.declared.extension_table.ExtensionTable.{ExtensionTable}

-- the texts of the table's names, which rise
abbrev pub table_names : ExtensionTable → List (List ℕ)
table_names table = map (λ n. n.id.text) table.names

-- the text is one of the table's names
abbrev pub table_has : ExtensionTable → List ℕ → Bool
table_has table text = list_any (λ n. bytes_eq text n.id.text) table.names

-- the extensions that Cedar has
abbrev pub standard_names : List (List ℕ)
standard_names = codes "datetime" ∷ codes "decimal" ∷ codes "duration" ∷ codes "ipaddr" ∷ []

-- the table has these names and no others, and each is lawful behind those before it
pub record IsTableOf (names : List (List ℕ)) (table : ExtensionTable) : Type 0 where
  pub lawful : (k : ℕ) → k < length names → fault_at names k ≡ None
  pub same : (text : List ℕ) → table_has table text ≡ repeats names text

-- the fault of the first name that is unlawful
pub record IsFirstFault (names : List (List ℕ)) (fault : TableError) : Type 0 where
  pub at : ℕ
  pub in_range : at < length names
  pub lawful_before : (k : ℕ) → k < at → fault_at names k ≡ None
  pub here : fault_at names at ≡ Some fault

-- the fault is that of the first name that is unlawful, or memory was out
abbrev pub IsTableFault : List (List ℕ) → TableError → Type 0
IsTableFault names fault = fault ≢ Memory → IsFirstFault names fault
