-- What a type of a fragment says, places aside. Of attributes with one name in a record the last counts.
use Rattle.std.specs.Prelude.{◌≡◌, ℕ, Bool, true, false, not, ◌&&◌, ◌||◌, List, Option, Some, None}
use Rattle.std.specs.BTreeMap.{is_at}
use Rattle.std.specs.List.Sorted.{IsStrictlySortedBy}
use Rattle.std.specs.Map.{lookup, keys_of}
use Rattle.cedar_data.specs.Span.{Span}
use Rattle.cedar_data.specs.Text.{text_cmp}
use Rattle.cedar_identifiers.specs.Names.{components_of}
use Rattle.cedar_identifiers.specs.declared.raw_name.RawName.{RawName}
use Rattle.schema_json.specs.Shapes.{attributes_of, is_open}
use Rattle.schema_json.specs.declared.types.Type.{«Type»}
use Rattle.schema_json.specs.declared.types.Type.TheVariants as shape
use Rattle.schema_json.specs.declared.types.TypeVariant.TheVariants as variant
use Rattle.schema_json.specs.declared.types.RecordType.{RecordType}
use Rattle.schema_json.specs.declared.types.TypeOfAttribute.{TypeOfAttribute, out-TypeOfAttribute}
use Rattle.laws_written.specs.Written.{WrittenType, WrittenAttributes, path, set, rec, no_more, attribute}

-- one of the attributes has the name
abbrev pub has_attribute : List ℕ → WrittenAttributes → Bool
has_attribute name no_more = false
has_attribute name (attribute ns n r t xs) = has_attribute name xs || is_at (text_cmp name) n

-- an attribute of this name, in front of these, is the last one of the name
abbrev pub is_last_attribute : List ℕ → List ℕ → WrittenAttributes → Bool
is_last_attribute name n xs = is_at (text_cmp name) n && not (has_attribute name xs)

-- the one or the other, by a test
abbrev pub ByTest : Bool → Type 0 → Type 0 → Type 0
ByTest true A B = A
ByTest false A B = B

abbrev mutual
  -- A name is a reference that may mean a common type or an entity type, and a record is closed and has its attributes
  -- by rising names.
  pub TypeSays : «Type» RawName → WrittenType → Type 0
  TypeSays s (path p) =
      (name : RawName) × (loc : Option Span) × (s ≡ shape.Variant (variant.EntityOrCommon name) loc)
      × (components_of name.name ≡ p)
  TypeSays s (set t) =
      (element : «Type» RawName) × (loc : Option Span) × (s ≡ shape.Variant (variant.Set element) loc)
      × TypeSays element t
  TypeSays s (rec xs) =
      (r : RecordType RawName) × (loc : Option Span) × (s ≡ shape.Variant (variant.Record r) loc) × (is_open r ≡ false)
      × IsStrictlySortedBy text_cmp (keys_of (attributes_of r))
      × ((name : List ℕ) → AttributeSays name (lookup (is_at (text_cmp name)) (attributes_of r)) xs)

  -- what is found beside a name says what the last attribute of that name says, and there is nothing where there is
  -- none
  pub AttributeSays : List ℕ → Option (TypeOfAttribute RawName) → WrittenAttributes → Type 0
  AttributeSays name found no_more = found ≡ None
  AttributeSays name found (attribute ns n required t xs) =
      ByTest (is_last_attribute name n xs)
      ((a : TypeOfAttribute RawName) × (found ≡ Some a) × TypeSays (out-TypeOfAttribute RawName a).ty t
      × ((out-TypeOfAttribute RawName a).annotations.0 ≡ ns) × ((out-TypeOfAttribute RawName a).required ≡ required))
      (AttributeSays name found xs)
