-- Whether two schema texts mean the same. Texts are their bytes.
use Rattle.std.specs.Prelude.{◌≡◌, ◌≢◌, ◌↔◌, ℕ, Bool, true, List}
use Rattle.cedar_identifiers.specs.declared.raw_name.RawName.{RawName}
use Rattle.cedar_names.specs.Meaning.{SchemaMeaning}
use Rattle.cedar_names.specs.declared.extension_table.ExtensionTable.{ExtensionTable}
use Rattle.schema_json.specs.declared.fragment.Fragment.{Fragment}
use Rattle.schema_json.specs.AsWritten.{as_written}
use Rattle.schema_convert_errors.specs.declared.warnings.SchemaWarning.{SchemaWarning}
use Rattle.schema_build_parts.specs.BuildFaults.{BuildFault}
use Rattle.schema_build.specs.Schemas.{SchemaLists}
use Rattle.schema_build.specs.Texts.{IsFragmentOf, IsParseRefusal, IsSchemaOfText}
use Rattle.laws_inclusion.specs.TextMeans.{TextMeans}
use Rattle.cedar_schema_core_faults.specs.declared.recover_error.RecoverError.{RecoverError}
use Rattle.cedar_schema_core_faults.specs.declared.recover_error.RecoverError.TheVariants as recover
use Rattle.schema_same.specs.declared.errors.SameError.{SameError}
use Rattle.schema_same.specs.declared.errors.SameError.TheVariants.{First, Second, Memory}

-- the text is translated to a fragment without a fault, and the schema stands for its meaning
abbrev pub BuildsText : List ℕ → ExtensionTable → SchemaLists → Type 0
BuildsText text table s = (warnings : List SchemaWarning) × IsSchemaOfText text table s warnings

-- both texts mean something, and the answer is whether it is one meaning
pub record IsSameAnswer (first second : List ℕ) (table : ExtensionTable) (same : Bool) : Type 0 where
  pub one : SchemaMeaning
  pub other : SchemaMeaning
  pub one_means : TextMeans first table one
  pub other_means : TextMeans second table other
  pub answer : same ≡ true ↔ one ≡ other

-- the text means something under the table
abbrev pub HasMeaning : List ℕ → ExtensionTable → Type 0
HasMeaning text table = (m : SchemaMeaning) × TextMeans text table m

-- why a text is no schema, the first that holds: a fault of the syntax, of a declaration or of translation, or a fault
-- of the schema. Memory may be out at any time
abbrev pub IsTextFault : List ℕ → ExtensionTable → RecoverError → Type 0
IsTextFault text table (recover.Parse e) = IsParseRefusal text e
IsTextFault text table (recover.Schema e) = (f : Fragment RawName as_written) × IsFragmentOf text table f
    × BuildFault f table e
IsTextFault text table (recover.Captured c) = ⊥
IsTextFault text table recover.Memory = Unit {0}

-- why there is no answer: the first text is no schema; or it is one and the second text is none; or memory is out
abbrev pub IsSameRefusal : List ℕ → List ℕ → ExtensionTable → SameError → Type 0
IsSameRefusal first second table (First e) = (e ≢ recover.Memory) × IsTextFault first table e
IsSameRefusal first second table (Second e) = (e ≢ recover.Memory) × HasMeaning first table × IsTextFault second table e
IsSameRefusal first second table Memory = Unit {0}
