-- What a command writes of a text, and what it refuses. A text is its bytes.
use Rattle.std.specs.Prelude.{◌≡◌, ℕ, List, [], ◌++◌, codes}
use Rattle.serde_json.specs.Written.{compact_text}
use Rattle.cedar_identifiers.specs.declared.raw_name.RawName.{RawName}
use Rattle.cedar_names.specs.CanonicalText.{canonical_text}
use Rattle.cedar_names.specs.Meaning.{SchemaMeaning}
use Rattle.schema_json.specs.declared.fragment.Fragment.{Fragment}
use Rattle.schema_json.specs.AsWritten.{as_written}
use Rattle.schema_convert_errors.specs.declared.warnings.SchemaWarning.{SchemaWarning}
use Rattle.schema_build.specs.Texts.{IsFragmentOf}
use Rattle.cedar_schema_core.specs.declared.command.Command.{Command}
use Rattle.cedar_schema_core.specs.declared.command.Command.TheVariants.{Recover, Check, ToJson, FromJson, Generate}
use Rattle.cedar_schema_core_faults.specs.declared.recover_error.RecoverError.{RecoverError}
use Rattle.cedar_schema_core.specs.Commands.{count_line, made_line}
use Rattle.cedar_schema_core.specs.Json.{written_value, JsonMeaning, IsRefusalOfJson}
use Rattle.cedar_schema_core.specs.Meanings.{TextMeaning, Warns}
use Rattle.cedar_schema_core.specs.Recovery.{IsRefusal}
use Rattle.cedar_schema_core.specs.Steps.{IsUnparsed}

-- The text is valid and this is written of it, with these warnings: of its meaning the canonical text, the counts, or
-- the counts with both lengths; or the JSON of its fragment. Nothing is warned of where JSON is written or read.
abbrev pub Writes : Command → List ℕ → List ℕ → List SchemaWarning → Type 0
Writes (Recover table) text out warnings = (m : SchemaMeaning) × TextMeaning text table m × Warns text table warnings
    × (out ≡ canonical_text m)
Writes (Check table) text out warnings = (m : SchemaMeaning) × TextMeaning text table m × Warns text table warnings
    × (out ≡ count_line m)
Writes (ToJson table) text out warnings = (f : Fragment RawName as_written) × IsFragmentOf text table f
    × (warnings ≡ []) × (out ≡ compact_text (written_value f) ++ codes "\n")
Writes (FromJson form table) text out warnings = (m : SchemaMeaning) × JsonMeaning form text table m × (warnings ≡ [])
    × (out ≡ canonical_text m)
Writes (Generate size table) text out warnings = (m : SchemaMeaning) × TextMeaning text table m
    × Warns text table warnings × (out ≡ made_line text m)

-- why a command writes nothing of a text
abbrev pub RefusesText : Command → List ℕ → RecoverError → Type 0
RefusesText (Recover table) text e = IsRefusal text table e
RefusesText (Check table) text e = IsRefusal text table e
RefusesText (ToJson table) text e = IsUnparsed text e
RefusesText (FromJson form table) text e = IsRefusalOfJson form text table e
RefusesText (Generate size table) text e = IsRefusal text table e

-- the command writes this of the text, with these warnings
pub record IsWrittenBy (c : Command) (text out : List ℕ) (warnings : List SchemaWarning) : Type 0 where
  pub writes : Writes c text out warnings

-- the command refuses the text for this reason
pub record IsRefusedBy (c : Command) (text : List ℕ) (e : RecoverError) : Type 0 where
  pub refuses : RefusesText c text e
