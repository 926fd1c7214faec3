-- The fragment that a JSON value or text says in the deprecated form, and why it says none. A text is its list of
-- bytes.
use Rattle.std.specs.Prelude.{◌≡◌, ◌⊎◌, ℕ, List, false, None}
use Rattle.serde_json.specs.Data.{Data}
use Rattle.serde_json.specs.Written.{has_float}
use Rattle.cedar_identifiers.specs.declared.name_text.NameText as ghosts
use Rattle.cedar_identifiers.specs.declared.raw_name.RawName.{RawName}
use Rattle.schema_json.specs.declared.fragment.Fragment.{Fragment}
use Rattle.schema_json_errors.specs.declared.json_error.JsonDeserializationError.{JsonDeserializationError}
use Rattle.schema_json_errors.specs.declared.json_fault.JsonFault.{JsonFault}
use Rattle.schema_json_errors.specs.declared.json_fault.JsonFault.TheVariants.{Memory}
use Rattle.schema_json_io.specs.Advice.{advice_on, beside}
use Rattle.schema_json_io.specs.Causes.{IsValueCauseBy, IsTextCauseBy}
use Rattle.schema_json_io.specs.Faults.{of_shape}
use Rattle.schema_json_io.specs.Texts.{Holds}
use Rattle.schema_json_shapes.specs.declared.shape_fault.ShapeFault.{ShapeFault}
use Rattle.schema_compat_types.specs.declared.fragment.SchemaFragment.{SchemaFragment}
use Rattle.schema_compat_shapes.specs.OldParts.{IsOldRead, IsFirstOldFault}
use Rattle.schema_compat_convert.specs.Converted.{IsConverted, IsFirstConversionFault}

module _ {G : ghosts.Ghosts RawName} where
  -- the data that the value is read as becomes the fragment
  abbrev pub OldShape : Data → Fragment RawName G → Type 0
  OldShape d f = (s : SchemaFragment) × IsOldRead d s × IsConverted s f

  -- the value has no float, and the data that it is read as becomes the fragment
  abbrev pub OldValue : Data → Fragment RawName G → Type 0
  OldValue d f = (has_float d ≡ false) × OldShape d f

  -- the text is JSON without a repeated key and without a float, and its value says the fragment
  abbrev pub OldText : List ℕ → Fragment RawName G → Type 0
  OldText text f = (d : Data) × Holds text d × OldShape d f

-- the first fault of reading the value
abbrev pub IsReadFault : Data → JsonFault → Type 0
IsReadFault d e = (fault : ShapeFault) × IsFirstOldFault d fault × (e ≡ of_shape fault)

-- the first fault of the data, beside which nothing is advised
abbrev pub IsConversionError : SchemaFragment → JsonDeserializationError → Type 0
IsConversionError s e =
    (e.advice ≡ None)
    × ((e.fault ≡ Memory) ⊎ ((fault : ShapeFault) × IsFirstConversionFault s fault × (e.fault ≡ of_shape fault)))

-- the value is read, and this is the first fault of the data
abbrev pub IsDataFault : Data → JsonFault → Type 0
IsDataFault d e =
    (s : SchemaFragment) × (fault : ShapeFault) × IsOldRead d s × IsFirstConversionFault s fault × (e ≡ of_shape fault)

-- any fault of reading comes before any of the data
abbrev pub IsOldFault : Data → JsonFault → Type 0
IsOldFault d e = IsReadFault d e ⊎ IsDataFault d e

-- why a value says nothing; nothing is advised
abbrev pub IsOldValueError : Data → JsonDeserializationError → Type 0
IsOldValueError d e = IsValueCauseBy IsOldFault d e.fault × (e.advice ≡ None)

-- why a text says nothing, with advice, of which there is none beside a fault of the data
abbrev pub IsOldTextError : List ℕ → JsonDeserializationError → Type 0
IsOldTextError text e =
    (IsTextCauseBy IsReadFault text e.fault × (e.advice ≡ beside e.fault (advice_on text)))
    ⊎ ((d : Data) × Holds text d × IsDataFault d e.fault × (e.advice ≡ None))
