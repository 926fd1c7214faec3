-- When a JSON text or value is refused, and for which cause. A text is its list of bytes.
use Rattle.std.specs.Prelude.{◌≡◌, ℕ, List, true, false, Some, None, ⊤}
use Rattle.std.specs.Str.{chars}
use Rattle.serde_json.specs.Data.{Data}
use Rattle.serde_json.specs.Read.{read}
use Rattle.serde_json.specs.Written.{has_float}
use Rattle.schema_json_errors.specs.declared.json_error.JsonDeserializationError.{JsonDeserializationError}
use Rattle.schema_json_errors.specs.declared.json_fault.JsonFault.{JsonFault}
use Rattle.schema_json_errors.specs.declared.json_fault.JsonFault.TheVariants as cause
use Rattle.schema_json_keys.specs.Keys.{RepeatedKey}
use Rattle.schema_json_shapes.specs.declared.shape_fault.ShapeFault.{ShapeFault}
use Rattle.schema_json_shapes.specs.Shapes.{IsShapeFault}
use Rattle.schema_json_io.specs.Advice.{advice_on, beside}
use Rattle.schema_json_io.specs.Faults.{of_shape}
use Rattle.schema_json_io.specs.Texts.{HasNoRepeat, Holds}

-- the first fault of the value
abbrev pub IsFirstJsonFault : Data → JsonFault → Type 0
IsFirstJsonFault d e = (fault : ShapeFault) × IsShapeFault d fault × (e ≡ of_shape fault)

-- why a value is refused, where this tells the first fault of a value without a float
abbrev pub IsValueCauseBy : (Data → JsonFault → Type 0) → Data → JsonFault → Type 0
IsValueCauseBy IsFirst d cause.NotJson = ⊥
IsValueCauseBy IsFirst d (cause.RepeatedKey name) = ⊥
IsValueCauseBy IsFirst d cause.Float = has_float d ≡ true
IsValueCauseBy IsFirst d cause.Memory = ⊤
IsValueCauseBy IsFirst d e = (has_float d ≡ false) × IsFirst d e

-- why a text is refused, where this tells the first fault of a value without a float
abbrev pub IsTextCauseBy : (Data → JsonFault → Type 0) → List ℕ → JsonFault → Type 0
IsTextCauseBy IsFirst text cause.NotJson = read text ≡ None
IsTextCauseBy IsFirst text (cause.RepeatedKey name) =
    (d : Data) × (read text ≡ Some d) × (key : List ℕ) × RepeatedKey text key × (name ≡ chars key)
IsTextCauseBy IsFirst text cause.Float = (d : Data) × (read text ≡ Some d) × HasNoRepeat text × (has_float d ≡ true)
IsTextCauseBy IsFirst text cause.Memory = ⊤
IsTextCauseBy IsFirst text e = (d : Data) × Holds text d × IsFirst d e

-- why a value is refused
abbrev pub IsValueCause : Data → JsonFault → Type 0
IsValueCause d e = IsValueCauseBy IsFirstJsonFault d e

-- why a text is refused
abbrev pub IsTextCause : List ℕ → JsonFault → Type 0
IsTextCause text e = IsTextCauseBy IsFirstJsonFault text e

-- why a text is refused, with the advice beside the cause
abbrev pub IsJsonTextError : List ℕ → JsonDeserializationError → Type 0
IsJsonTextError text e = IsTextCause text e.fault × (e.advice ≡ beside e.fault (advice_on text))

-- why a value is refused; nothing is advised
abbrev pub IsValueError : Data → JsonDeserializationError → Type 0
IsValueError d e = IsValueCause d e.fault × (e.advice ≡ None)
