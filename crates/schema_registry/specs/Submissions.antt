-- What submitting a text to a registry comes to. Texts are their bytes.
use Rattle.std.specs.Prelude.{◌≡◌, ◌≢◌, ℕ, List, codes, IsUtf8}
use Rattle.cedar_names.specs.CanonicalText.{canonical_text}
use Rattle.cedar_names.specs.Meaning.{SchemaMeaning}
use Rattle.cedar_names.specs.declared.extension_table.ExtensionTable.{ExtensionTable}
use Rattle.cedar_schema_core.specs.Meanings.{TextMeaning, IsValid}
use Rattle.cedar_schema_core.specs.Recovery.{IsRefusal}
use Rattle.cedar_schema_core_faults.specs.declared.recover_error.RecoverError.TheVariants as recover
use Rattle.schema_registry_entries.specs.Entries.{IsEntered}
use Rattle.schema_registry.specs.Replies.{entry_line}
use Rattle.schema_registry.specs.declared.submit_error.SubmitError.{SubmitError}
use Rattle.schema_registry.specs.declared.submit_error.SubmitError.TheVariants.{Refused, Memory}

-- the entries, each the canonical text of a meaning, and the table of extension types
pub record RegistryState : Type 0 where
  pub texts : List (List ℕ)
  pub table : ExtensionTable

-- why a text is not entered: it is not valid, and this is why it is refused; or memory is out
abbrev pub IsSubmitRefusal : List ℕ → ExtensionTable → SubmitError → Type 0
IsSubmitRefusal text table (Refused e) = (e ≢ recover.Memory) × IsRefusal text table e × (IsValid text table → ⊥)
IsSubmitRefusal text table Memory = Unit {0}

-- what a registry notes of a message, and the line that answers it
pub data IsNoted (old : RegistryState) (message : List ℕ) : RegistryState → List ℕ → Type 0 where
  not_text : (IsUtf8 message → ⊥) → IsNoted old message old (codes "not text")
  refused : IsUtf8 message → (IsValid message old.table → ⊥) → IsNoted old message old (codes "refused")
  entered : IsUtf8 message → (m : SchemaMeaning) → TextMeaning message old.table m → (id : ℕ) → (new : RegistryState)
      → new.table ≡ old.table → IsEntered (canonical_text m) old.texts id new.texts
      → IsNoted old message new (entry_line id)
