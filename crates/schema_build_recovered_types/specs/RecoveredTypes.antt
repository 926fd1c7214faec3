-- The type of a fragment that is recovered of a built type: its names are full ones, as they are written.
use Rattle.std.specs.Prelude.{◌≡◌, ℕ, Bool, false, List, [], ◌∷◌, None}
use Rattle.cedar_identifiers.specs.Names.{components_of}
use Rattle.cedar_identifiers.specs.declared.internal_name.InternalName.{InternalName}
use Rattle.cedar_identifiers.specs.declared.raw_name.RawName.{RawName}
use Rattle.cedar_identifiers.specs.declared.unreserved_id.UnreservedId.{UnreservedId}
use Rattle.cedar_names.specs.Meaning.{PlainType, Attributes, no_more, attribute}
use Rattle.cedar_names.specs.Meaning as plain
use Rattle.schema_json.specs.Shapes.{record_type}
use Rattle.schema_json.specs.declared.types.Type.{«Type», Variant}
use Rattle.schema_json.specs.declared.types.TypeVariant.TheVariants as shape
use Rattle.schema_json.specs.declared.types.RecordType.{roll-RecordType}
use Rattle.schema_json.specs.declared.types.TypeOfAttribute.{TypeOfAttribute, out-TypeOfAttribute}

-- the name of these components, without a place
abbrev pub IsName : List (List ℕ) → InternalName → Type 0
IsName n name = (components_of name ≡ n) × (name.loc ≡ None)

-- the full name of these components, as it is written, without a place
abbrev pub IsWritten : List (List ℕ) → RawName → Type 0
IsWritten n written = IsName n written.name

-- the closed record with these attributes
abbrev pub closed_record : List (List ℕ × TypeOfAttribute RawName) → «Type» RawName
closed_record attributes =
    record_type (roll-RecordType RawName (record { attributes = attributes; additional_attributes = false }))

abbrev mutual
  -- a type: that of entities is a reference that may mean a common type or an entity type
  pub IsRecoveredType : PlainType → «Type» RawName → Type 0
  IsRecoveredType plain.Bool t = t ≡ Variant shape.Boolean None
  IsRecoveredType plain.Long t = t ≡ Variant shape.Long None
  IsRecoveredType plain.String t = t ≡ Variant shape.String None
  IsRecoveredType (plain.Set p) t =
      (element : «Type» RawName) × (t ≡ Variant (shape.Set element) None) × IsRecoveredType p element
  IsRecoveredType (plain.Rec ps) t =
      (attributes : List (List ℕ × TypeOfAttribute RawName)) × (t ≡ closed_record attributes)
      × AreRecoveredAttributes ps attributes
  IsRecoveredType (plain.Entity n) t =
      (name : RawName) × (t ≡ Variant (shape.EntityOrCommon name) None) × IsWritten n name
  IsRecoveredType (plain.Ext w) t =
      (name : UnreservedId) × (t ≡ Variant (shape.Extension name) None) × (name.id.text ≡ w)

  -- attributes, each under its name and with its required mark
  pub AreRecoveredAttributes : Attributes → List (List ℕ × TypeOfAttribute RawName) → Type 0
  AreRecoveredAttributes no_more attributes = attributes ≡ []
  AreRecoveredAttributes (attribute name required p ps) attributes =
      (a : TypeOfAttribute RawName) × (more : List (List ℕ × TypeOfAttribute RawName)) × (attributes ≡ (name, a) ∷ more)
      × IsRecoveredType p (out-TypeOfAttribute RawName a).ty × ((out-TypeOfAttribute RawName a).annotations.0 ≡ [])
      × ((out-TypeOfAttribute RawName a).required ≡ required) × AreRecoveredAttributes ps more
