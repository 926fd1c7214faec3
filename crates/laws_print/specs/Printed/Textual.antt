-- What of a fragment its text can say.
use Rattle.std.specs.Prelude.{◌≡◌, ℕ, Bool, true, false, not, ◌&&◌, List, [], ◌∷◌, map, Option, Some, None}
use Rattle.std.specs.List.{AllByRecursion}
use Rattle.std.specs.List.Sorted.{IsStrictlySortedBy}
use Rattle.cedar_data.specs.Text.{text_cmp}
use Rattle.cedar_identifiers.specs.Names.{components_of}
use Rattle.cedar_identifiers.specs.declared.annotations.Annotations.{Annotations}
use Rattle.cedar_identifiers.specs.declared.any_id.AnyId.{AnyId}
use Rattle.cedar_identifiers.specs.declared.name.Name.{Name}
use Rattle.cedar_identifiers.specs.declared.raw_name.RawName.{RawName}
use Rattle.schema_json.specs.Keywords.{is_keyword_name}
use Rattle.schema_json.specs.declared.types.Type.{«Type», Type-F, out-Type, fold-Type}
use Rattle.schema_json.specs.declared.types.TypeVariant.{TypeVariant, TypeVariant-F, fold-TypeVariant}
use Rattle.schema_json.specs.declared.types.RecordType.{RecordType, RecordType-F, fold-RecordType}
use Rattle.schema_json.specs.declared.types.TypeOfAttribute.{TypeOfAttribute, TypeOfAttribute-F, fold-TypeOfAttribute}
use Rattle.schema_json.specs.declared.entity_type.EntityTypeKind.{EntityTypeKind}
use Rattle.schema_json.specs.declared.entity_type.EntityTypeKind.TheVariants.{Standard, Enum}
use Rattle.schema_json.specs.declared.action_type.ApplySpec.{ApplySpec}
use Rattle.schema_json.specs.declared.fragment.Fragment.{Fragment}
use Rattle.schema_json.specs.AsWritten.{as_written}
use Rattle.laws_written.specs.Written.{WrittenType, WrittenAttributes, path, set, rec, no_more, attribute}
use Rattle.laws_written.specs.Printed.{AreProperNotes}
use Rattle.laws_written.specs.PrintedDecls.{IsSome}
use Rattle.laws_translate.specs.FragmentsSay.{namespace_order, name_components}
use Rattle.schema_print_text.specs.PrintedTypes.{printed_type}
use Rattle.laws_print.specs.Printed.CedarForm.{Block}

-- the components of a name as it was written
abbrev pub components_written : RawName → List (List ℕ)
components_written name = components_of name.name

-- each of them is so
abbrev pub all_hold : List (List ℕ × Bool) → Bool
all_hold [] = true
all_hold (p ∷ ps) = p.1 && all_hold ps

abbrev pub closed_layer : Type-F RawName Bool Bool Bool Bool → Bool
closed_layer (Type-F.Variant ty loc) = ty
closed_layer (Type-F.CommonTypeRef name loc) = true

abbrev pub closed_variant_layer : TypeVariant-F RawName Bool Bool Bool Bool → Bool
closed_variant_layer (TypeVariant-F.Set element) = element
closed_variant_layer (TypeVariant-F.Record r) = r
closed_variant_layer _ = true

abbrev pub closed_record_layer : RecordType-F RawName Bool Bool Bool Bool → Bool
closed_record_layer r = not r.additional_attributes && all_hold r.attributes

abbrev pub closed_attribute_layer : TypeOfAttribute-F RawName Bool Bool Bool Bool → Bool
closed_attribute_layer a = a.ty

-- every record in it is closed
abbrev pub is_closed_type : «Type» RawName → Bool
is_closed_type =
    fold-Type RawName Bool Bool Bool Bool closed_layer closed_variant_layer closed_record_layer closed_attribute_layer

abbrev pub is_closed_variant : TypeVariant RawName → Bool
is_closed_variant =
    fold-TypeVariant RawName Bool Bool Bool Bool closed_layer closed_variant_layer closed_record_layer
    closed_attribute_layer

abbrev pub is_closed_record : RecordType RawName → Bool
is_closed_record =
    fold-RecordType RawName Bool Bool Bool Bool closed_layer closed_variant_layer closed_record_layer
    closed_attribute_layer

abbrev pub is_closed_attribute : TypeOfAttribute RawName → Bool
is_closed_attribute =
    fold-TypeOfAttribute RawName Bool Bool Bool Bool closed_layer closed_variant_layer closed_record_layer
    closed_attribute_layer

abbrev pub attribute_names : WrittenAttributes → List (List ℕ)
attribute_names no_more = []
attribute_names (attribute ns n r t xs) = n ∷ attribute_names xs

abbrev mutual
  -- the attributes of each record rise by their names, and the annotations of each by their keys
  pub IsRisingType : WrittenType → Type 0
  IsRisingType (path p) = Unit {0}
  IsRisingType (set t) = IsRisingType t
  IsRisingType (rec xs) = IsStrictlySortedBy text_cmp (attribute_names xs) × AreRisingAttributes xs

  pub AreRisingAttributes : WrittenAttributes → Type 0
  AreRisingAttributes no_more = Unit {0}
  AreRisingAttributes (attribute ns n r t xs) = IsRisingType t × AreRisingAttributes xs × AreProperNotes ns

-- every record in it is closed, and has its attributes by rising names
abbrev pub IsTextualType : «Type» RawName → Type 0
IsTextualType s = (is_closed_type s ≡ true) × IsRisingType (printed_type components_written s)

abbrev pub AreTextualTags : Option («Type» RawName) → Type 0
AreTextualTags None = Unit {0}
AreTextualTags (Some s) = IsTextualType s

-- a closed record without attributes
abbrev pub IsBareType : «Type» RawName → Type 0
IsBareType s = (is_closed_type s ≡ true) × (printed_type components_written s ≡ rec no_more)

-- one of another schema has neither attributes nor tags, and an enum has a choice
abbrev pub IsTextualKind : Bool → EntityTypeKind RawName → Type 0
IsTextualKind true (Standard e) = IsBareType e.shape.0 × (e.tags ≡ None)
IsTextualKind true (Enum choices) = ⊥
IsTextualKind false (Standard e) = IsTextualType e.shape.0 × AreTextualTags e.tags
IsTextualKind false (Enum choices) = IsSome choices

abbrev pub IsWrittenRecord : WrittenType → Type 0
IsWrittenRecord (rec xs) = Unit {0}
IsWrittenRecord _ = ⊥

abbrev pub IsTextualOutside : Type-F RawName («Type» RawName) (TypeVariant RawName) (RecordType RawName)
    (TypeOfAttribute RawName)
    → «Type» RawName → Type 0
IsTextualOutside (Type-F.Variant ty loc) context =
    IsWrittenRecord (printed_type components_written context) × IsTextualType context
IsTextualOutside (Type-F.CommonTypeRef name loc) context = Unit {0}

-- a record, or a reference to a common type
abbrev pub IsTextualContext : «Type» RawName → Type 0
IsTextualContext context = IsTextualOutside (out-Type RawName context) context

-- principals and resources, or neither and no attribute in the context
abbrev pub AreTargets : List RawName → List RawName → «Type» RawName → Type 0
AreTargets [] [] context = IsBareType context
AreTargets (p ∷ ps) (r ∷ rs) context = IsTextualContext context
AreTargets _ _ context = ⊥

-- one of another schema says nothing of what it applies to
abbrev pub AppliesAsText : Bool → Option (ApplySpec RawName) → Type 0
AppliesAsText true None = Unit {0}
AppliesAsText true (Some spec) = ⊥
AppliesAsText false None = Unit {0}
AppliesAsText false (Some spec) = AreTargets spec.principal_types spec.resource_types spec.context.0

-- the empty namespace has no annotations
abbrev pub IsAnnotatedWhereNamed : Option Name → Annotations → Type 0
IsAnnotatedWhereNamed None annotations = annotations.0 ≡ []
IsAnnotatedWhereNamed (Some name) annotations = Unit {0}

pub record IsTextualBlock (p : Block) : Type 0 where
  pub annotated : IsAnnotatedWhereNamed p.0 p.1.annotations
  pub keys_rise : IsStrictlySortedBy text_cmp (map (λ (e : AnyId × Option (List ℕ)). e.0.text) p.1.annotations.0)
  pub commons_rise : IsStrictlySortedBy text_cmp (map (λ e. e.0.id.id.text) p.1.common_types)
  pub entities_rise : IsStrictlySortedBy text_cmp (map (λ e. e.0.id.text) p.1.entity_types)
  pub actions_rise : IsStrictlySortedBy text_cmp (map (λ e. e.0) p.1.actions)
  pub commons_open : AllByRecursion (λ e. is_keyword_name e.0.id.id.text ≡ false) p.1.common_types
  pub common_notes : AllByRecursion (λ e. AreProperNotes e.1.annotations.0) p.1.common_types
  pub entity_notes : AllByRecursion (λ e. AreProperNotes e.1.annotations.0) p.1.entity_types
  pub action_notes : AllByRecursion (λ e. AreProperNotes e.1.annotations.0) p.1.actions
  pub commons : AllByRecursion (λ e. IsTextualType e.1.ty) p.1.common_types
  pub entities : AllByRecursion (λ e. IsTextualKind e.1.external e.1.kind) p.1.entity_types
  pub actions : AllByRecursion (λ e. (e.1.attributes ≡ None) × AppliesAsText e.1.external e.1.applies_to) p.1.actions

-- Its text can say it: its maps and records rise by their keys, its records are closed, items of other schemas are
-- bare, contexts are records or common types, an action applies to principals and resources, or to nothing, and no
-- common type has one of the eight words as its name.
pub record IsTextualFragment (f : Fragment RawName as_written) : Type 0 where
  pub names_rise : IsStrictlySortedBy namespace_order (map (λ e. name_components e.0) f.0)
  pub each : AllByRecursion IsTextualBlock f.0
