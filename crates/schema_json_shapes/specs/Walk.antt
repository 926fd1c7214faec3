-- What a value must keep to be read. The demands on a value itself come before those on what it holds: on the items of
-- an array in turn, or on the members of an object as they stand, which is by the bytes of their keys.
use Rattle.std.specs.Prelude.{◌≡◌, ◌⊎◌, ◌≢◌, ℕ, Bool, true, false, List, [], ◌∷◌, ◌++◌, if◌then◌else◌, codes, Option}
use Rattle.std.specs.Prelude.{Some, None, option_map, map, ⊤}
use Rattle.std.specs.Str.{bytes_eq, chars}
use Rattle.serde_json.specs.Data.{Data, null, boolean, number, string, array, object, Items, no_items, item, Members}
use Rattle.serde_json.specs.Data.{no_members, member}
use Rattle.serde_json.specs.Find.{get_member}
use Rattle.cedar_identifiers.specs.NameReading.{ReadsAs, NameFaultOf}
use Rattle.cedar_identifiers.specs.declared.name_kind.NameKind.{NameKind}
use Rattle.cedar_identifiers.specs.declared.name_kind.NameKind.TheVariants as kind
use Rattle.cedar_identifiers.specs.declared.name_fault.NameFault.{NameFault}
use Rattle.cedar_identifiers.specs.declared.name_fault.NameFault.TheVariants as naming
use Rattle.cedar_identifiers.specs.declared.unreserved_id.UnreservedId.{UnreservedId}
use Rattle.schema_json.specs.Keywords.{is_keyword_name}
use Rattle.schema_json_shapes.specs.declared.words.TypeWord.{TypeWord}
use Rattle.schema_json_shapes.specs.declared.words.TypeWord.TheVariants.{Reference, Entity, Extension}
use Rattle.schema_json_shapes.specs.declared.words.TypeSite.{TypeSite}
use Rattle.schema_json_shapes.specs.declared.words.TypeSite.TheVariants.{Plain, Attribute, Common}
use Rattle.schema_json_shapes.specs.declared.name_role.NameRole.{NameRole}
use Rattle.schema_json_shapes.specs.declared.name_role.NameRole.TheVariants as role
use Rattle.schema_json_shapes.specs.declared.shape_fault.ShapeFault.{ShapeFault}
use Rattle.schema_json_shapes.specs.declared.shape_fault.ShapeFault.TheVariants.{UnknownField, MissingField, WrongType}
use Rattle.schema_json_shapes.specs.declared.shape_fault.ShapeFault.TheVariants.{BadName, ReservedCommonType, EmptyEnum}
use Rattle.schema_json_shapes.specs.declared.shape_fault.ShapeFault.TheVariants.{ExternalConflict, EnumConflict}
use Rattle.schema_json_shapes.specs.declared.shape_fault.ShapeFault.TheVariants.{AnnotationsOnEmptyNamespace}
use Rattle.schema_json_shapes.specs.Tables.{Field, word_of, type_fields, namespace_fields, entity_type_fields}
use Rattle.schema_json_shapes.specs.Tables.{action_fields, applies_to_fields, action_id_fields, first_unknown}
use Rattle.schema_json_shapes.specs.Tables.{first_missing}

-- ---- demands

-- one thing that a part must keep
pub data Demand : Type 0 where
  -- there is no such fault
  unless : Option ShapeFault → Demand
  -- the text is a name in this role
  is_name : NameRole → List ℕ → Demand
  -- the key of a common type is none of the names that no common type may have
  no_keyword : List ℕ → Demand

-- which kind of name is read in a role
abbrev pub kind_of : NameRole → NameKind
kind_of role.Namespace = kind.Name
kind_of role.Id = kind.UnreservedId
kind_of role.ExtensionType = kind.UnreservedId
kind_of role.Name = kind.InternalName
kind_of role.EntityType = kind.InternalName
kind_of role.EntityOrCommonType = kind.InternalName
kind_of role.CommonType = kind.InternalName
kind_of role.Annotation = kind.AnyId

-- what faults call the role
abbrev pub role_text : NameRole → List ℕ
role_text role.Namespace = codes "namespace"
role_text role.Id = codes "id"
role_text role.ExtensionType = codes "extension type"
role_text role.Name = codes "name"
role_text role.EntityType = codes "entity type"
role_text role.EntityOrCommonType = codes "entity or common type"
role_text role.CommonType = codes "common type"
role_text role.Annotation = codes "annotation"

-- the text is a name in this role
abbrev pub IsNameIn : NameRole → List ℕ → Type 0
IsNameIn r s = (words : List (List ℕ)) × ReadsAs (kind_of r) s words

-- the demand is met
abbrev pub IsMet : Demand → Type 0
IsMet (unless o) = o ≡ None
IsMet (is_name r s) = IsNameIn r s
IsMet (no_keyword s) = is_keyword_name s ≡ false

-- the text is no name in this role, for this cause
pub record IsBadName (r : NameRole) (s : List ℕ) (e : ShapeFault) : Type 0 where
  pub cause : NameFault
  pub told : e ≡ BadName (chars (role_text r)) (chars s) cause
  pub is_cause : NameFaultOf (kind_of r) s cause
  pub no_want : cause ≢ naming.Memory
  pub no_name : ¬ IsNameIn r s

-- the demand is not met, which is this fault
abbrev pub IsUnmet : Demand → ShapeFault → Type 0
IsUnmet (unless o) e = o ≡ Some e
IsUnmet (is_name r s) e = IsBadName r s e
IsUnmet (no_keyword s) e = (is_keyword_name s ≡ true) × (id : UnreservedId) × (id.id.text ≡ s)
    × (e ≡ ReservedCommonType id)

-- each of the demands is met
abbrev pub AllMet : List Demand → Type 0
AllMet [] = ⊤
AllMet (d ∷ ds) = IsMet d × AllMet ds

-- the first demand that is not met has this fault
abbrev pub FirstUnmet : List Demand → ShapeFault → Type 0
FirstUnmet [] e = ⊥
FirstUnmet (d ∷ ds) e = IsUnmet d e ⊎ (IsMet d × FirstUnmet ds e)

-- ---- roles

-- what a part of the value is read as
pub data Role : Type 0 where
  fragment : Role
  namespace : Role
  common_types : Role
  entity_types : Role
  actions : Role
  annotations : Role
  -- a text or null
  annotation : Role
  entity_type : Role
  action : Role
  applies_to : Role
  action_ids : Role
  action_id : Role
  typed : TypeSite → Role
  -- the attributes of a record
  attributes : Role
  -- the member `type` of a type
  type_word : Role
  named : NameRole → Role
  -- a list of names
  names : Role
  -- a list of any texts
  texts : Role
  text : Role
  flag : Role
  -- an object of which only the keys are read
  keys : Role
  -- null is read as absent
  or_null : Role → Role
  ignored : Role

abbrev pub text_in : Option Data → List ℕ
text_in (Some (string s)) = s
text_in _ = []

-- the text of the member `type`
abbrev pub word_in : Members → List ℕ
word_in ms = text_in (get_member (codes "type") ms)

-- ---- what the members of an object are read as

abbrev pub name_role : TypeWord → NameRole
name_role Entity = role.EntityType
name_role Extension = role.ExtensionType
name_role _ = role.EntityOrCommonType

abbrev pub type_member : TypeWord → List ℕ → Role
type_member w k =
    if bytes_eq k (codes "type") then type_word else
    if bytes_eq k (codes "element") then typed Plain else
    if bytes_eq k (codes "attributes") then attributes else
    if bytes_eq k (codes "additionalAttributes") then flag else
    if bytes_eq k (codes "name") then named (name_role w) else
    if bytes_eq k (codes "required") then flag else
    if bytes_eq k (codes "annotations") then annotations else ignored

abbrev pub namespace_member : List ℕ → Role
namespace_member k =
    if bytes_eq k (codes "commonTypes") then common_types else
    if bytes_eq k (codes "entityTypes") then entity_types else
    if bytes_eq k (codes "actions") then actions else
    if bytes_eq k (codes "annotations") then annotations else ignored

abbrev pub entity_type_member : List ℕ → Role
entity_type_member k =
    if bytes_eq k (codes "memberOfTypes") then names else
    if bytes_eq k (codes "shape") then typed Plain else
    if bytes_eq k (codes "tags") then typed Plain else
    if bytes_eq k (codes "enum") then texts else
    if bytes_eq k (codes "external") then flag else
    if bytes_eq k (codes "annotations") then annotations else ignored

abbrev pub action_member : List ℕ → Role
action_member k =
    if bytes_eq k (codes "attributes") then or_null keys else
    if bytes_eq k (codes "appliesTo") then or_null applies_to else
    if bytes_eq k (codes "memberOf") then or_null action_ids else
    if bytes_eq k (codes "external") then flag else
    if bytes_eq k (codes "annotations") then annotations else ignored

abbrev pub applies_to_member : List ℕ → Role
applies_to_member k =
    if bytes_eq k (codes "resourceTypes") then names else
    if bytes_eq k (codes "principalTypes") then names else
    if bytes_eq k (codes "context") then typed Plain else ignored

abbrev pub action_id_member : List ℕ → Role
action_id_member k =
    if bytes_eq k (codes "id") then text else
    if bytes_eq k (codes "type") then or_null (named role.Name) else ignored

abbrev pub member_role : Role → Members → List ℕ → Role
member_role fragment ms k = namespace
member_role namespace ms k = namespace_member k
member_role common_types ms k = typed Common
member_role entity_types ms k = entity_type
member_role actions ms k = action
member_role annotations ms k = annotation
member_role entity_type ms k = entity_type_member k
member_role action ms k = action_member k
member_role applies_to ms k = applies_to_member k
member_role action_id ms k = action_id_member k
member_role (typed site) ms k = type_member (word_of (word_in ms)) k
member_role attributes ms k = typed Attribute
member_role _ ms k = ignored

-- what each item of a list is read as
abbrev pub item_role : Role → Role
item_role names = named role.Name
item_role texts = text
item_role action_ids = action_id
item_role _ = ignored

-- what the key of a namespace must keep: it is a name, or the empty text of the empty namespace
abbrev pub namespace_key_demands : List ℕ → List Demand
namespace_key_demands [] = []
namespace_key_demands (c ∷ s) = is_name role.Namespace (c ∷ s) ∷ []

-- what a key must keep, before its value
abbrev pub key_demands : Role → List ℕ → List Demand
key_demands fragment k = namespace_key_demands k
key_demands common_types k = is_name role.Id k ∷ no_keyword k ∷ []
key_demands entity_types k = is_name role.Id k ∷ []
key_demands annotations k = is_name role.Annotation k ∷ []
key_demands _ k = []

-- ---- what a part itself must keep

abbrev pub or_next : {A : Type 0} → Option A → Option A → Option A
or_next None later = later
or_next (Some a) later = Some a

-- no unknown field, and each needed one
abbrev pub fits_table : List Field → Members → List Demand
fits_table fs ms =
    unless (option_map (λ k. UnknownField (chars k)) (first_unknown fs ms))
    ∷ unless (option_map (λ k. MissingField (chars k)) (first_missing fs ms)) ∷ []

abbrev pub word_fits : TypeSite → Members → Option Data → List Demand
word_fits site ms None = unless (Some (MissingField (chars (codes "type")))) ∷ []
word_fits site ms (Some (string s)) = fits_table (type_fields site (word_of s)) ms
word_fits site ms (Some d) = unless (Some (WrongType (chars (codes "type")))) ∷ []

-- a type whose word is none of the eight refers to a common type
abbrev pub reference_fits : TypeWord → List ℕ → List Demand
reference_fits Reference s = is_name role.CommonType s ∷ []
reference_fits _ s = []

-- the value is there
abbrev pub is_there : Option Data → Bool
is_there None = false
is_there (Some d) = true

-- the value is there, and is not null
abbrev pub is_given : Option Data → Bool
is_given None = false
is_given (Some null) = false
is_given (Some d) = true

-- those of the names whose members pass the test
abbrev pub present : (Option Data → Bool) → List (List ℕ) → Members → List (List ℕ)
present test [] ms = []
present test (n ∷ ns) ms = if test (get_member n ms) then n ∷ present test ns ms else present test ns ms

-- the fault that names these fields, where there are any
abbrev pub conflict : (List (List ℕ) → ShapeFault) → List (List ℕ) → Option ShapeFault
conflict fault [] = None
conflict fault (n ∷ ns) = Some (fault (map chars (n ∷ ns)))

-- the truth value that is there, and else this one
abbrev pub flag_or : Bool → Option Data → Bool
flag_or otherwise (Some (boolean b)) = b
flag_or otherwise _ = otherwise

-- the fault of members with `external: true`, where some of these fields pass the test: it names all that do
abbrev pub external_conflict : (Option Data → Bool) → List (List ℕ) → Members → Option Data → Option ShapeFault
external_conflict test beside ms external =
    if flag_or false external then conflict ExternalConflict (present test beside ms) else None

-- the fields that may not stand beside the `external: true` of an entity type
abbrev pub not_external_type : List (List ℕ)
not_external_type = codes "shape" ∷ codes "tags" ∷ codes "enum" ∷ []

-- the fields that may not stand beside the `external: true` of an action
abbrev pub not_external_action : List (List ℕ)
not_external_action = codes "attributes" ∷ codes "appliesTo" ∷ []

-- the fields that may not stand beside `enum`
abbrev pub not_enum : List (List ℕ)
not_enum = codes "memberOfTypes" ∷ codes "shape" ∷ codes "tags" ∷ []

-- the fault of members with `enum`, where some fields are there that may not stand beside it: it names all of them
abbrev pub enum_conflict : Members → Option Data → Option ShapeFault
enum_conflict ms choices = if is_there choices then conflict EnumConflict (present is_there not_enum ms) else None

abbrev pub is_empty_list : Data → Bool
is_empty_list (array no_items) = true
is_empty_list _ = false

-- the fault of the choices, where they are there and are an empty list
abbrev pub empty_enum : Option Data → Option ShapeFault
empty_enum None = None
empty_enum (Some d) = if is_empty_list d then Some EmptyEnum else None

abbrev pub has_members : Data → Bool
has_members (object (member k d ms)) = true
has_members _ = false

-- the fault of annotations of the empty namespace, where they have a member
abbrev pub annotated : Option Data → Option ShapeFault
annotated None = None
annotated (Some d) = if has_members d then Some AnnotationsOnEmptyNamespace else None

-- the fault of the empty namespace, where its `annotations` have a member; another namespace has none
abbrev pub empty_annotated : List ℕ → Members → Option ShapeFault
empty_annotated [] ms = annotated (get_member (codes "annotations") ms)
empty_annotated (c ∷ n) ms = None

-- the demand on a value of a wrong type, under this name, which is never met
abbrev pub wrong_type : List ℕ → List Demand
wrong_type n = unless (Some (WrongType (chars n))) ∷ []

abbrev pub object_demands : Role → List ℕ → Members → List Demand
object_demands namespace n ms = fits_table namespace_fields ms ++ unless (empty_annotated n ms) ∷ []
object_demands entity_type n ms =
    fits_table entity_type_fields ms
    ++ unless (external_conflict is_there not_external_type ms (get_member (codes "external") ms))
    ∷ unless (enum_conflict ms (get_member (codes "enum") ms)) ∷ unless (empty_enum (get_member (codes "enum") ms)) ∷ []
object_demands action n ms =
    fits_table action_fields ms
    ++ unless (external_conflict is_given not_external_action ms (get_member (codes "external") ms)) ∷ []
object_demands applies_to n ms = fits_table applies_to_fields ms
object_demands action_id n ms = fits_table action_id_fields ms
object_demands (typed site) n ms = word_fits site ms (get_member (codes "type") ms)
object_demands fragment n ms = []
object_demands common_types n ms = []
object_demands entity_types n ms = []
object_demands actions n ms = []
object_demands annotations n ms = []
object_demands attributes n ms = []
object_demands keys n ms = []
object_demands ignored n ms = []
object_demands _ n ms = wrong_type n

abbrev pub array_demands : Role → List ℕ → List Demand
array_demands names n = []
array_demands texts n = []
array_demands action_ids n = []
array_demands ignored n = []
array_demands _ n = wrong_type n

abbrev pub string_demands : Role → List ℕ → List ℕ → List Demand
string_demands type_word n s = reference_fits (word_of s) s
string_demands (named r) n s = is_name r s ∷ []
string_demands text n s = []
string_demands annotation n s = []
string_demands ignored n s = []
string_demands _ n s = wrong_type n

abbrev pub flag_demands : Role → List ℕ → List Demand
flag_demands flag n = []
flag_demands ignored n = []
flag_demands _ n = wrong_type n

abbrev pub null_demands : Role → List ℕ → List Demand
null_demands annotation n = []
null_demands ignored n = []
null_demands (or_null r) n = []
null_demands _ n = wrong_type n

abbrev pub number_demands : Role → List ℕ → List Demand
number_demands ignored n = []
number_demands _ n = wrong_type n

abbrev pub without_null : Role → Role
without_null (or_null r) = r
without_null r = r

-- ---- the walk

-- what the value must keep, read as this, under the name that its faults give it
abbrev mutual
  pub demands : Role → List ℕ → Data → List Demand
  demands r n null = null_demands r n
  demands r n (boolean b) = flag_demands (without_null r) n
  demands r n (number x) = number_demands (without_null r) n
  demands r n (string s) = string_demands (without_null r) n s
  demands r n (array ds) = array_demands (without_null r) n ++ item_demands (item_role (without_null r)) n ds
  demands r n (object ms) = object_demands (without_null r) n ms
      ++ member_demands (key_demands (without_null r)) (member_role (without_null r) ms) ms

  pub item_demands : Role → List ℕ → Items → List Demand
  item_demands r n no_items = []
  item_demands r n (item d ds) = demands r n d ++ item_demands r n ds

  pub member_demands : (List ℕ → List Demand) → (List ℕ → Role) → Members → List Demand
  member_demands key role no_members = []
  member_demands key role (member k d ms) = key k ++ (demands (role k) k d ++ member_demands key role ms)
