-- Where a value does not fit a type, and for which cause.
use Rattle.std.specs.Prelude.{◌≡◌, ◌⊎◌, ◌+◌, ℕ, Bool, true, false, cond, [], ◌∷◌, Option, Some, None}
use Rattle.std.specs.Str.{bytes_eq}
use Rattle.cedar_names.specs.Meaning.{PlainType, Attributes, no_more, attribute}
use Rattle.schema_inclusion_values.specs.Values.{Text, Name, Val, Vals, no_vals, val, Entries, no_entries, entry, Rises}
use Rattle.schema_inclusion_values.specs.Values as values
use Rattle.schema_inclusion_reasons.specs.Places.{attr, member, Path}

-- the outermost layer of a type
pub data Shape : Type 0 where
  a_bool : Shape
  a_long : Shape
  a_string : Shape
  a_set : Shape
  a_record : Shape
  entity_of : Name → Shape
  extension_of : Text → Shape

abbrev pub type_shape : PlainType → Shape
type_shape PlainType.Bool = a_bool
type_shape PlainType.Long = a_long
type_shape PlainType.String = a_string
type_shape (PlainType.Set t) = a_set
type_shape (PlainType.Rec fs) = a_record
type_shape (PlainType.Entity n) = entity_of n
type_shape (PlainType.Ext n) = extension_of n

-- the outermost layer of each type that has the value
abbrev pub value_shape : Val → Shape
value_shape (values.Truth b) = a_bool
value_shape (values.Number n) = a_long
value_shape (values.Str s) = a_string
value_shape (values.Set vs) = a_set
value_shape (values.Rec es) = a_record
value_shape (values.Ref n id) = entity_of n
value_shape (values.Ext n) = extension_of n

-- Why a value does not fit at a place: the type requires an attribute that is not there; it has no attribute of this
-- name; the value is of the first shape and the type of the second; the entity type has no such id; or the names of
-- attributes do not rise.
pub data Cause : Type 0 where
  is_required : Cause
  is_unknown : Cause
  is_reshaped : Shape → Shape → Cause
  has_no_id : Name → Text → Cause
  is_disordered : Cause

-- ---- what is at a name, and at a place

-- the value of the attribute of this name
abbrev pub entry_at : Text → Entries → Option Val
entry_at n no_entries = None
entry_at n (entry m v es) = cond (bytes_eq m n) (Some v) (entry_at n es)

-- P holds of the value at the place i, where the first of these is at the place k
abbrev pub AtMember : (Val → Type 0) → ℕ → Vals → ℕ → Type 0
AtMember P k no_vals i = ⊥
AtMember P k (val v vs) i = ((k ≡ i) × P v) ⊎ AtMember P (k + 1) vs i

-- ---- misfits

-- the value itself is of another shape
abbrev pub IsReshaped : Shape → Val → Path → Cause → Type 0
IsReshaped s v p c = (p ≡ []) × (c ≡ is_reshaped (value_shape v) s)

abbrev pub BoolMisfit : Val → Path → Cause → Type 0
BoolMisfit (values.Truth b) p c = ⊥
BoolMisfit v p c = IsReshaped a_bool v p c

abbrev pub LongMisfit : Val → Path → Cause → Type 0
LongMisfit (values.Number n) p c = ⊥
LongMisfit v p c = IsReshaped a_long v p c

abbrev pub StringMisfit : Val → Path → Cause → Type 0
StringMisfit (values.Str s) p c = ⊥
StringMisfit v p c = IsReshaped a_string v p c

-- the value is none of this extension type
abbrev pub ExtensionMisfit : Text → Val → Path → Cause → Type 0
ExtensionMisfit n (values.Ext m) p c = (m ≡ n → ⊥) × IsReshaped (extension_of n) (values.Ext m) p c
ExtensionMisfit n v p c = IsReshaped (extension_of n) v p c

-- the value is none of this entity type, or has an id that the type has not
abbrev pub EntityMisfit : (Name → Text → Type 0) → Name → Val → Path → Cause → Type 0
EntityMisfit Fits n (values.Ref m id) p c = ((m ≡ n → ⊥) × IsReshaped (entity_of n) (values.Ref m id) p c)
    ⊎ ((m ≡ n) × (Fits n id → ⊥) × (p ≡ []) × (c ≡ has_no_id m id))
EntityMisfit Fits n v p c = IsReshaped (entity_of n) v p c

-- a member does not fit, where the first of these is at the place k
abbrev pub MembersMisfit : (Val → Path → Cause → Type 0) → ℕ → Vals → Path → Cause → Type 0
MembersMisfit P k vs (member i ∷ p) c = AtMember (λ v. P v p c) k vs i
MembersMisfit P k vs _ c = ⊥

abbrev pub SetMisfit : (Val → Path → Cause → Type 0) → Val → Path → Cause → Type 0
SetMisfit P (values.Set vs) p c = MembersMisfit P 0 vs p c
SetMisfit P v p c = IsReshaped a_set v p c

-- the names do not rise, or what is at a name does not fit
abbrev pub EntriesMisfit : (Text → Option Val → Path → Cause → Type 0) → Entries → Path → Cause → Type 0
EntriesMisfit P es [] c = (Rises es → ⊥) × (c ≡ is_disordered)
EntriesMisfit P es (attr n ∷ p) c = P n (entry_at n es) p c
EntriesMisfit P es (member i ∷ p) c = ⊥

abbrev pub RecordMisfit : (Text → Option Val → Path → Cause → Type 0) → Val → Path → Cause → Type 0
RecordMisfit P (values.Rec es) p c = EntriesMisfit P es p c
RecordMisfit P v p c = IsReshaped a_record v p c

-- a value that is at the name of an attribute does not fit its type; or none is there, and one is required
abbrev pub AttributeMisfit : (Val → Path → Cause → Type 0) → Bool → Option Val → Path → Cause → Type 0
AttributeMisfit P r (Some v) p c = P v p c
AttributeMisfit P true None p c = (p ≡ []) × (c ≡ is_required)
AttributeMisfit P false None p c = ⊥

-- which ids an entity type has
module _ (Fits : Name → Text → Type 0) where
  -- the value does not fit the type, at this place in it and for this cause
  abbrev mutual
    pub IsMisfit : PlainType → Val → Path → Cause → Type 0
    IsMisfit PlainType.Bool = BoolMisfit
    IsMisfit PlainType.Long = LongMisfit
    IsMisfit PlainType.String = StringMisfit
    IsMisfit (PlainType.Ext n) = ExtensionMisfit n
    IsMisfit (PlainType.Entity n) = EntityMisfit Fits n
    IsMisfit (PlainType.Set t) = SetMisfit (IsMisfit t)
    IsMisfit (PlainType.Rec fs) = RecordMisfit (NamedMisfit fs)

    -- what is at the name does not fit what these attributes say of the name
    pub NamedMisfit : Attributes → Text → Option Val → Path → Cause → Type 0
    NamedMisfit no_more n None p c = ⊥
    NamedMisfit no_more n (Some v) p c = (p ≡ []) × (c ≡ is_unknown)
    NamedMisfit (attribute m r t fs) n found p c = ((m ≡ n) × AttributeMisfit (IsMisfit t) r found p c)
        ⊎ ((m ≡ n → ⊥) × NamedMisfit fs n found p c)

  -- the names of tags do not rise, or a tag does not fit the type of the tags
  abbrev pub IsTagMisfit : PlainType → Entries → Path → Cause → Type 0
  IsTagMisfit t = EntriesMisfit (λ n found p c. AttributeMisfit (IsMisfit t) false found p c)
