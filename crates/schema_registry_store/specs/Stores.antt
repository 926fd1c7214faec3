-- What submitting a text to a stored registry comes to. Texts are their bytes.
use Rattle.std.specs.Prelude.{◌≢◌, ◌++◌, ℕ, List, [], ◌∷◌}
use Rattle.sqlite.specs.Held.{Held}
use Rattle.sqlite.specs.State.{State}
use Rattle.sqlite.specs.Tree.{Trees}
use Rattle.cedar_names.specs.CanonicalText.{canonical_text}
use Rattle.cedar_names.specs.Meaning.{SchemaMeaning}
use Rattle.cedar_names.specs.declared.extension_table.ExtensionTable.{ExtensionTable}
use Rattle.cedar_schema_core.specs.Meanings.{TextMeaning, IsValid}
use Rattle.cedar_schema_core.specs.Recovery.{IsRefusal}
use Rattle.cedar_schema_core_faults.specs.declared.recover_error.RecoverError.TheVariants as recover
use Rattle.schema_registry_table.specs.Table.{AreRowsOf, EntersText}
use Rattle.schema_registry_store.specs.declared.error.StoreError.{StoreError}
use Rattle.schema_registry_store.specs.declared.error.StoreError.TheVariants.{Refused, Memory, Database}

-- the connection to the file, and the table of extension types
pub record StoreState (S : Type 0) : Type 0 where
  pub held : Held S
  pub table : ExtensionTable

-- The text has a meaning, and that meaning's canonical text is entered in the texts that the database keeps: as a
-- registry does that has these texts as its entries.
pub record SubmitsText (old new : State) (table : ExtensionTable) (text : List ℕ) (id : ℕ) : Type 0 where
  pub meaning : SchemaMeaning
  pub means : TextMeaning text table meaning
  pub enters : EntersText old new (canonical_text meaning) id

-- what a crash may leave of a text that is entered: a row for it behind those of the others
pub record AddsRow (texts : List (List ℕ)) (table : ExtensionTable) (text : List ℕ) (trees : Trees) : Type 0 where
  pub meaning : SchemaMeaning
  pub means : TextMeaning text table meaning
  pub rows : AreRowsOf (texts ++ canonical_text meaning ∷ []) (trees 0)

-- why a text is not entered: it is not valid, and this is why it is refused; or memory is out, or the database failed
abbrev pub IsStoreRefusal : List ℕ → ExtensionTable → StoreError → Type 0
IsStoreRefusal text table (Refused e) = (e ≢ recover.Memory) × IsRefusal text table e × (IsValid text table → ⊥)
IsStoreRefusal text table Memory = Unit {0}
IsStoreRefusal text table (Database e) = Unit {0}
