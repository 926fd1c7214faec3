-- Which fields the objects of a fragment have, and what an object has against its table.
use Rattle.std.specs.Prelude.{ℕ, Bool, true, false, not, ◌&&◌, List, [], ◌∷◌, ◌++◌, if◌then◌else◌, codes, Option, Some}
use Rattle.std.specs.Prelude.{None, is_some}
use Rattle.std.specs.List.{list_any}
use Rattle.std.specs.Str.{bytes_eq}
use Rattle.serde_json.specs.Data.{Members, no_members, member}
use Rattle.serde_json.specs.Find.{get_member}
use Rattle.schema_json_shapes.specs.declared.words.TypeWord.{TypeWord}
use Rattle.schema_json_shapes.specs.declared.words.TypeWord.TheVariants.{String, Long, Boolean, Set, Record, Entity}
use Rattle.schema_json_shapes.specs.declared.words.TypeWord.TheVariants.{EntityOrCommon, Extension, Reference}
use Rattle.schema_json_shapes.specs.declared.words.TypeSite.{TypeSite}
use Rattle.schema_json_shapes.specs.declared.words.TypeSite.TheVariants.{Plain, Attribute, Common}

-- a field, and whether each such object has it
pub record Field : Type 0 where
  pub name : List ℕ
  pub needed : Bool

abbrev pub needs : List ℕ → Field
needs n = record { name = n; needed = true }

abbrev pub may_have : List ℕ → Field
may_have n = record { name = n; needed = false }

-- the word that a text is; any other text refers to a common type
abbrev pub word_of : List ℕ → TypeWord
word_of s =
    if bytes_eq s (codes "String") then String else
    if bytes_eq s (codes "Long") then Long else
    if bytes_eq s (codes "Boolean") then Boolean else
    if bytes_eq s (codes "Set") then Set else
    if bytes_eq s (codes "Record") then Record else
    if bytes_eq s (codes "Entity") then Entity else
    if bytes_eq s (codes "EntityOrCommon") then EntityOrCommon else
    if bytes_eq s (codes "Extension") then Extension else Reference

-- the fields of a type beside `type`, by its word
abbrev pub word_fields : TypeWord → List Field
word_fields String = []
word_fields Long = []
word_fields Boolean = []
word_fields Set = needs (codes "element") ∷ []
word_fields Record = needs (codes "attributes") ∷ may_have (codes "additionalAttributes") ∷ []
word_fields Entity = needs (codes "name") ∷ []
word_fields EntityOrCommon = needs (codes "name") ∷ []
word_fields Extension = needs (codes "name") ∷ []
word_fields Reference = []

-- an attribute and a common type have more
abbrev pub site_fields : TypeSite → List Field
site_fields Plain = []
site_fields Attribute = may_have (codes "required") ∷ may_have (codes "annotations") ∷ []
site_fields Common = may_have (codes "annotations") ∷ []

-- the fields of a type: `type`, those of its word, and those of where it stands
abbrev pub type_fields : TypeSite → TypeWord → List Field
type_fields site w = needs (codes "type") ∷ (word_fields w ++ site_fields site)

-- the fields of a namespace, which needs `entityTypes` and `actions`
abbrev pub namespace_fields : List Field
namespace_fields = may_have (codes "commonTypes") ∷ needs (codes "entityTypes") ∷ needs (codes "actions") ∷ may_have
    (codes "annotations") ∷ []

-- the fields of an entity type, of which none is needed
abbrev pub entity_type_fields : List Field
entity_type_fields =
    may_have (codes "memberOfTypes") ∷ may_have (codes "shape") ∷ may_have (codes "tags") ∷ may_have (codes "enum")
    ∷ may_have (codes "external") ∷ may_have (codes "annotations") ∷ []

-- the fields of an action, of which none is needed
abbrev pub action_fields : List Field
action_fields =
    may_have (codes "attributes") ∷ may_have (codes "appliesTo") ∷ may_have (codes "memberOf")
    ∷ may_have (codes "external") ∷ may_have (codes "annotations") ∷ []

-- the fields of what an action applies to, which needs both lists
abbrev pub applies_to_fields : List Field
applies_to_fields = needs (codes "resourceTypes") ∷ needs (codes "principalTypes") ∷ may_have (codes "context") ∷ []

-- the fields of a reference to an action, which needs `id`
abbrev pub action_id_fields : List Field
action_id_fields = needs (codes "id") ∷ may_have (codes "type") ∷ []

-- ---- an object against its table

abbrev pub is_field : List Field → List ℕ → Bool
is_field fs k = list_any (λ f. bytes_eq f.name k) fs

-- the least key that is no field, if there is one: the members stand by the bytes of their keys
abbrev pub first_unknown : List Field → Members → Option (List ℕ)
first_unknown fs no_members = None
first_unknown fs (member k d ms) = if is_field fs k then first_unknown fs ms else Some k

abbrev pub is_missing : Field → Members → Bool
is_missing f ms = f.needed && not (is_some (get_member f.name ms))

-- the first field in the order of the table that is needed and absent, if there is one
abbrev pub first_missing : List Field → Members → Option (List ℕ)
first_missing [] ms = None
first_missing (f ∷ fs) ms = if is_missing f ms then Some f.name else first_missing fs ms
