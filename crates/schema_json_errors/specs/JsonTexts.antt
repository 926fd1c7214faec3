-- What is said and advised of a JSON text or value that is no fragment, in characters.
use Rattle.std.specs.Prelude.{ℕ, Bool, List, [], ◌∷◌, ◌++◌, ◌||◌, codes, Option, if◌then◌else◌}
use Rattle.std.specs.Option.{option_map}
use Rattle.std.specs.Str.{bytes_eq, encode_utf8_all}
use Rattle.cedar_data.specs.Rows.{joined_by}
use Rattle.cedar_identifiers.specs.FaultTexts.{name_fault_text}
use Rattle.cedar_identifiers.specs.declared.name_fault.NameFault.{NameFault}
use Rattle.schema_json.specs.Keywords.{reserved_text}
use Rattle.schema_json_errors.specs.declared.json_error.JsonAdvice.{JsonAdvice}
use Rattle.schema_json_errors.specs.declared.json_error.JsonAdvice.TheVariants.{CedarFormat, MissingNamespace}
use Rattle.schema_json_errors.specs.declared.json_error.JsonDeserializationError.{JsonDeserializationError}
use Rattle.schema_json_errors.specs.declared.json_fault.JsonFault.{JsonFault}
use Rattle.schema_json_errors.specs.declared.json_fault.JsonFault.TheVariants.{NotJson, RepeatedKey, Float}
use Rattle.schema_json_errors.specs.declared.json_fault.JsonFault.TheVariants.{UnknownField, MissingField, WrongType}
use Rattle.schema_json_errors.specs.declared.json_fault.JsonFault.TheVariants.{BadName, ReservedCommonType, EmptyEnum}
use Rattle.schema_json_errors.specs.declared.json_fault.JsonFault.TheVariants.{ExternalConflict, EnumConflict}
use Rattle.schema_json_errors.specs.declared.json_fault.JsonFault.TheVariants.{AnnotationsOnEmptyNamespace, Memory}

-- only actions have a field of this name, which is given by its bytes
abbrev pub is_of_action : List ℕ → Bool
is_of_action field = bytes_eq field (codes "attributes") || bytes_eq field (codes "appliesTo")

-- what is said before the fields that stand beside `external`: the first of them tells what has them
abbrev pub external_lead : List (List ℕ) → List ℕ
external_lead [] = codes "unexpected field on an external entity type: "
external_lead (first ∷ fields) = if is_of_action (encode_utf8_all first)
    then codes "unexpected field on an external action: "
    else codes "unexpected field on an external entity type: "

-- what is said where a text cannot be a name in the role
abbrev pub bad_name_text : List ℕ → List ℕ → NameFault → List ℕ
bad_name_text role text fault =
    ((codes "invalid " ++ (role ++ codes " `")) ++ (text ++ codes "`: ")) ++ name_fault_text fault

-- what a fault says
abbrev pub json_fault_text : JsonFault → List ℕ
json_fault_text NotJson = codes "the text is not JSON"
json_fault_text (RepeatedKey key) = codes "invalid entry: found duplicate key"
json_fault_text Float = codes "a number is no whole number of 64 bits"
json_fault_text (UnknownField field) = codes "unknown field `" ++ (field ++ codes "`")
json_fault_text (MissingField field) = codes "missing field `" ++ (field ++ codes "`")
json_fault_text (WrongType field) = codes "wrong type of value for `" ++ (field ++ codes "`")
json_fault_text (BadName role text fault) = bad_name_text role text fault
json_fault_text (ReservedCommonType id) = reserved_text id.id.text
json_fault_text EmptyEnum = codes "an enumerated entity type has no choices"
json_fault_text (ExternalConflict fields) = external_lead fields ++ joined_by (codes ", ") fields
json_fault_text (EnumConflict fields) = codes "unexpected field: " ++ joined_by (codes ", ") fields
json_fault_text AnnotationsOnEmptyNamespace = codes "annotations are not allowed on the empty namespace"
json_fault_text Memory = codes "out of memory"

-- the advice in words
abbrev pub advice_text : JsonAdvice → List ℕ
advice_text CedarFormat =
    codes "this API was expecting a schema in the JSON format; did you mean to use a different function, which expects the Cedar schema format?"
advice_text MissingNamespace =
    codes "JSON formatted schema must specify a namespace. If you want to use the empty namespace, explicitly specify it with `{ \"\": {..} }`"

-- the advice of an error, where it has any
abbrev pub json_error_help : JsonDeserializationError → Option (List ℕ)
json_error_help e = option_map advice_text e.advice
