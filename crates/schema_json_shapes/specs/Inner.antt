-- The field that goes with the word of a type.
use Rattle.std.specs.Prelude.{◌≡◌, ℕ, true, List, [], ◌∷◌, codes, Option, Some, None, ⊤}
use Rattle.serde_json.specs.Data.{object, Members}
use Rattle.serde_json.specs.Find.{get_member}
use Rattle.cedar_identifiers.specs.declared.raw_name.RawName.{RawName}
use Rattle.schema_json.specs.declared.types.Type.{«Type»}
use Rattle.schema_json.specs.declared.types.Type.TheVariants.{CommonTypeRef}
use Rattle.schema_json.specs.declared.types.TypeVariant.{TypeVariant}
use Rattle.schema_json_shapes.specs.declared.name_role.NameRole.TheVariants as role
use Rattle.schema_json_shapes.specs.declared.words.TypeSite.TheVariants.{Plain}
use Rattle.schema_json_shapes.specs.declared.words.TypeWord.{TypeWord}
use Rattle.schema_json_shapes.specs.declared.words.TypeWord.TheVariants.{Set, Record, Entity, EntityOrCommon, Extension}
use Rattle.schema_json_shapes.specs.declared.words.TypeWord.TheVariants.{Reference}
use Rattle.schema_json_shapes.specs.Walk.{Demand, is_name, typed, attributes, named, reference_fits, is_there}
use Rattle.schema_json_shapes.specs.Said.{IsRawName, IsType, plain}
use Rattle.schema_json_shapes.specs.Reads.{field_demands}

-- the field of the word is there
abbrev pub HasInner : TypeWord → Members → Type 0
HasInner Set ms = is_there (get_member (codes "element") ms) ≡ true
HasInner Record ms = is_there (get_member (codes "attributes") ms) ≡ true
HasInner Entity ms = is_there (get_member (codes "name") ms) ≡ true
HasInner EntityOrCommon ms = is_there (get_member (codes "name") ms) ≡ true
HasInner Extension ms = is_there (get_member (codes "name") ms) ≡ true
HasInner _ ms = ⊤

-- what that field must keep
abbrev pub inner_demands : TypeWord → Members → List Demand
inner_demands Set ms = field_demands (typed Plain) (codes "element") (get_member (codes "element") ms)
inner_demands Record ms = field_demands attributes (codes "attributes") (get_member (codes "attributes") ms)
inner_demands Entity ms = field_demands (named role.EntityType) (codes "name") (get_member (codes "name") ms)
inner_demands EntityOrCommon ms =
    field_demands (named role.EntityOrCommonType) (codes "name") (get_member (codes "name") ms)
inner_demands Extension ms = field_demands (named role.ExtensionType) (codes "name") (get_member (codes "name") ms)
inner_demands _ ms = []

-- what the word and the field say: none for a reference
abbrev pub IsInner : TypeWord → Members → Option (TypeVariant RawName) → Type 0
IsInner w ms None = w ≡ Reference
IsInner w ms (Some v) = ((s : List ℕ) → reference_fits w s ≡ []) × IsType (object ms) (plain v)

abbrev pub made_demands : Option (TypeVariant RawName) → List ℕ → List Demand
made_demands None s = is_name role.CommonType s ∷ []
made_demands (Some v) s = []

-- the type of that shape, or else a reference to the common type of this name
abbrev pub IsMade : Option (TypeVariant RawName) → List ℕ → «Type» RawName → Type 0
IsMade None s t = (n : RawName) × IsRawName s n × (t ≡ CommonTypeRef n None)
IsMade (Some v) s t = t ≡ plain v
