-- The place of a type, and records without attributes.
use Rattle.std.specs.Prelude.{ℕ, Bool, true, false, not, ◌&&◌, List, [], ◌∷◌, Option, None}
use Rattle.cedar_data.specs.declared.loc.Loc.{Loc}
use Rattle.schema_json.specs.declared.types.Type.{«Type», Type-F, Variant, CommonTypeRef, out-Type}
use Rattle.schema_json.specs.declared.types.TypeVariant.{TypeVariant, TypeVariant-F, Record, out-TypeVariant}
use Rattle.schema_json.specs.declared.types.RecordType.{RecordType, out-RecordType, roll-RecordType}
use Rattle.schema_json.specs.declared.types.TypeOfAttribute.{TypeOfAttribute}

module _ {N : Type 0} where
  abbrev pub attributes_of : RecordType N → List (List ℕ × TypeOfAttribute N)
  attributes_of r = (out-RecordType N r).attributes

  -- others than its attributes may stand in it
  abbrev pub is_open : RecordType N → Bool
  is_open r = (out-RecordType N r).additional_attributes

  -- the closed record without attributes
  abbrev pub empty_record : RecordType N
  empty_record = roll-RecordType N (record { attributes = []; additional_attributes = false })

  -- there is no attribute
  abbrev pub has_none : List (List ℕ × TypeOfAttribute N) → Bool
  has_none [] = true
  has_none (e ∷ es) = false

  -- a closed record without attributes
  abbrev pub is_empty_record : RecordType N → Bool
  is_empty_record r = has_none (attributes_of r) && not (is_open r)

  -- this layer is a closed record without attributes
  abbrev pub is_empty_shape : TypeVariant-F N («Type» N) (TypeVariant N) (RecordType N) (TypeOfAttribute N) → Bool
  is_empty_shape (TypeVariant-F.Record r) = is_empty_record r
  is_empty_shape _ = false

  -- the layer inside is one
  abbrev pub is_empty_outside : Type-F N («Type» N) (TypeVariant N) (RecordType N) (TypeOfAttribute N) → Bool
  is_empty_outside (Type-F.Variant ty loc) = is_empty_shape (out-TypeVariant N ty)
  is_empty_outside (Type-F.CommonTypeRef name loc) = false

  -- the type is a closed record without attributes
  abbrev pub is_empty_type : «Type» N → Bool
  is_empty_type t = is_empty_outside (out-Type N t)

  abbrev place : Type-F N («Type» N) (TypeVariant N) (RecordType N) (TypeOfAttribute N) → Option Loc
  place (Type-F.Variant ty loc) = loc
  place (Type-F.CommonTypeRef name loc) = loc

  -- where the type stands
  abbrev pub type_place : «Type» N → Option Loc
  type_place t = place (out-Type N t)

  abbrev placed : Option Loc → Type-F N («Type» N) (TypeVariant N) (RecordType N) (TypeOfAttribute N) → «Type» N
  placed new (Type-F.Variant ty loc) = Variant ty new
  placed new (Type-F.CommonTypeRef name loc) = CommonTypeRef name new

  -- the type, standing there
  abbrev pub with_place : Option Loc → «Type» N → «Type» N
  with_place new t = placed new (out-Type N t)

  -- the type of these records, without a place
  abbrev pub record_type : RecordType N → «Type» N
  record_type r = Variant (Record r) None
