-- The advice beside a fault of a JSON text.
use Rattle.std.specs.Prelude.{ℕ, Bool, false, not, ◌||◌, ◌==◌, List, [], ◌∷◌, codes, Option, Some, None, is_some}
use Rattle.std.specs.Prelude.{if◌then◌else◌}
use Rattle.std.specs.Str.{trim_start}
use Rattle.serde_json.specs.Data.{Data, object}
use Rattle.serde_json.specs.Find.{get_member}
use Rattle.serde_json.specs.Read.{read}
use Rattle.schema_json_errors.specs.declared.json_error.JsonAdvice.{JsonAdvice}
use Rattle.schema_json_errors.specs.declared.json_error.JsonAdvice.TheVariants.{CedarFormat, MissingNamespace}
use Rattle.schema_json_errors.specs.declared.json_fault.JsonFault.{JsonFault}
use Rattle.schema_json_errors.specs.declared.json_fault.JsonFault.TheVariants.{Memory}

-- it begins, and not with `{`
abbrev pub begins_otherwise : List ℕ → Bool
begins_otherwise [] = false
begins_otherwise (b ∷ bs) = not (b == 123)

-- behind White_Space, the text begins, and not with `{`
abbrev pub is_no_object_text : List ℕ → Bool
is_no_object_text text = begins_otherwise (trim_start text)

-- an object with a field that a namespace has
abbrev pub is_bare_namespace : Data → Bool
is_bare_namespace (object ms) =
    is_some (get_member (codes "entityTypes") ms) || is_some (get_member (codes "actions") ms) || is_some
    (get_member (codes "commonTypes") ms)
is_bare_namespace _ = false

-- the advice on the value that is read: `MissingNamespace` where it has a field that a namespace has
abbrev pub value_advice : Option Data → Option JsonAdvice
value_advice None = None
value_advice (Some d) = if is_bare_namespace d then Some MissingNamespace else None

-- the advice on a text: `CedarFormat` where it begins, and not with `{`, and else that on the value that is read
abbrev pub advice_on : List ℕ → Option JsonAdvice
advice_on text = if is_no_object_text text then Some CedarFormat else value_advice (read text)

-- the advice beside the fault; there is none where memory is out
abbrev pub beside : JsonFault → Option JsonAdvice → Option JsonAdvice
beside Memory advice = None
beside _ advice = advice
