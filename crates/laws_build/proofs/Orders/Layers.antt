-- Types with every place erased, layer by layer.
use Rattle.std.proofs.Common.{◌≡◌, ℕ, Bool, List, map, None, refl, ap, ◌∙◌}
use Rattle.cedar_identifiers.specs.declared.raw_name.RawName.{RawName}
use Rattle.schema_json.specs.Shapes.{attributes_of, is_open}
use Rattle.schema_json.specs.declared.types.Type.{«Type», Type-F, out-Type, out-roll-Type, fold_out-Type}
use Rattle.schema_json.specs.declared.types.TypeVariant.{TypeVariant, TypeVariant-F, out-TypeVariant}
use Rattle.schema_json.specs.declared.types.TypeVariant.{out-roll-TypeVariant, fold_out-TypeVariant}
use Rattle.schema_json.specs.declared.types.RecordType.{RecordType, roll-RecordType, out-roll-RecordType}
use Rattle.schema_json.specs.declared.types.TypeOfAttribute.{TypeOfAttribute, TypeOfAttribute-F, out-TypeOfAttribute}
use Rattle.schema_json.specs.declared.types.TypeOfAttribute.{roll-TypeOfAttribute, out-roll-TypeOfAttribute}
use Rattle.schema_json.specs.declared.types.Type.TheFolds.{map-Type, map-TypeVariant}
use Rattle.laws_translate.specs.Bare.{bare_name, bare_step, bare_variant, bare, bare_of_variant, bare_of_record}
use Rattle.laws_translate.specs.Bare.{bare_of_attribute}
use Rattle.laws_translate.proofs.BareTypes.{bare_entry}
use Rattle.laws_translate.proofs.BareTypes as made
use Rattle.schema_build_expand.specs.View.{View, boolean_layer, long_layer, string_layer, set_layer, record_layer}
use Rattle.schema_build_expand.specs.View.{reference_layer, extension_layer, shape_view, outer_view, view}

abbrev pub Entry : Type 0
Entry = List ℕ × TypeOfAttribute RawName

abbrev pub Outer : Type 0
Outer = Type-F RawName («Type» RawName) (TypeVariant RawName) (RecordType RawName) (TypeOfAttribute RawName)

abbrev pub Inner : Type 0
Inner = TypeVariant-F RawName («Type» RawName) (TypeVariant RawName) (RecordType RawName) (TypeOfAttribute RawName)

abbrev pub Attribute : Type 0
Attribute = TypeOfAttribute-F RawName («Type» RawName) (TypeVariant RawName) (RecordType RawName)
    (TypeOfAttribute RawName)

-- a layer with what is in it bare
abbrev pub bare_outer : Outer → Outer
bare_outer (Type-F.Variant ty loc) = Type-F.Variant (bare_of_variant ty) None
bare_outer (Type-F.CommonTypeRef name loc) = Type-F.CommonTypeRef (bare_name name) None

abbrev pub bare_inner : Inner → Inner
bare_inner TypeVariant-F.String = TypeVariant-F.String
bare_inner TypeVariant-F.Long = TypeVariant-F.Long
bare_inner TypeVariant-F.Boolean = TypeVariant-F.Boolean
bare_inner (TypeVariant-F.Set s) = TypeVariant-F.Set (bare s)
bare_inner (TypeVariant-F.Record r) = TypeVariant-F.Record (bare_of_record r)
bare_inner (TypeVariant-F.Entity n) = TypeVariant-F.Entity (bare_name n)
bare_inner (TypeVariant-F.EntityOrCommon n) = TypeVariant-F.EntityOrCommon (bare_name n)
bare_inner (TypeVariant-F.Extension x) = TypeVariant-F.Extension x

abbrev folded : Outer → Type-F RawName («Type» RawName) (TypeVariant RawName) (RecordType RawName)
    (TypeOfAttribute RawName)
folded = map-Type RawName («Type» RawName) (TypeVariant RawName) (RecordType RawName) (TypeOfAttribute RawName)
    («Type» RawName) (TypeVariant RawName) (RecordType RawName) (TypeOfAttribute RawName)
    bare bare_of_variant bare_of_record bare_of_attribute

abbrev folded_inner : Inner → Inner
folded_inner = map-TypeVariant RawName («Type» RawName) (TypeVariant RawName) (RecordType RawName)
    (TypeOfAttribute RawName) («Type» RawName) (TypeVariant RawName) (RecordType RawName) (TypeOfAttribute RawName)
    bare bare_of_variant bare_of_record bare_of_attribute

outer_made : (o : Outer) → out-Type RawName (bare_step (folded o)) ≡ bare_outer o
outer_made (Type-F.Variant ty loc) = out-roll-Type RawName (Type-F.Variant (bare_of_variant ty) None)
outer_made (Type-F.CommonTypeRef name loc) = out-roll-Type RawName (Type-F.CommonTypeRef (bare_name name) None)

pub outer_bare : (t : «Type» RawName) → out-Type RawName (bare t) ≡ bare_outer (out-Type RawName t)
outer_bare t =
    ap (out-Type RawName)
    (fold_out-Type RawName («Type» RawName) (TypeVariant RawName) (RecordType RawName) (TypeOfAttribute RawName)
    bare_step bare_variant (roll-RecordType RawName) (roll-TypeOfAttribute RawName) t)
    ∙ outer_made (out-Type RawName t)

inner_made : (o : Inner) → out-TypeVariant RawName (bare_variant (folded_inner o)) ≡ bare_inner o
inner_made TypeVariant-F.String = out-roll-TypeVariant RawName TypeVariant-F.String
inner_made TypeVariant-F.Long = out-roll-TypeVariant RawName TypeVariant-F.Long
inner_made TypeVariant-F.Boolean = out-roll-TypeVariant RawName TypeVariant-F.Boolean
inner_made (TypeVariant-F.Set s) = out-roll-TypeVariant RawName (TypeVariant-F.Set (bare s))
inner_made (TypeVariant-F.Record r) = out-roll-TypeVariant RawName (TypeVariant-F.Record (bare_of_record r))
inner_made (TypeVariant-F.Entity n) = out-roll-TypeVariant RawName (TypeVariant-F.Entity (bare_name n))
inner_made (TypeVariant-F.EntityOrCommon n) = out-roll-TypeVariant RawName (TypeVariant-F.EntityOrCommon (bare_name n))
inner_made (TypeVariant-F.Extension x) = out-roll-TypeVariant RawName (TypeVariant-F.Extension x)

pub inner_bare : (v : TypeVariant RawName)
    → out-TypeVariant RawName (bare_of_variant v) ≡ bare_inner (out-TypeVariant RawName v)
inner_bare v =
    ap (out-TypeVariant RawName)
    (fold_out-TypeVariant RawName («Type» RawName) (TypeVariant RawName) (RecordType RawName)
    (TypeOfAttribute RawName) bare_step bare_variant (roll-RecordType RawName) (roll-TypeOfAttribute RawName) v)
    ∙ inner_made (out-TypeVariant RawName v)

pub attributes_bare : (r : RecordType RawName) → attributes_of (bare_of_record r) ≡ map bare_entry (attributes_of r)
attributes_bare r =
    ap attributes_of (made.attributes_bare r)
    ∙ ap (λ x. x.attributes)
    (out-roll-RecordType RawName
    (record { attributes = map bare_entry (attributes_of r); additional_attributes = is_open r }))

pub openness_bare : (r : RecordType RawName) → is_open (bare_of_record r) ≡ is_open r
openness_bare r =
    ap is_open (made.attributes_bare r)
    ∙ ap (λ x. x.additional_attributes)
    (out-roll-RecordType RawName
    (record { attributes = map bare_entry (attributes_of r); additional_attributes = is_open r }))

-- what an attribute says
abbrev pub type_in : TypeOfAttribute RawName → «Type» RawName
type_in a = (out-TypeOfAttribute RawName a).ty

abbrev pub is_required : TypeOfAttribute RawName → Bool
is_required a = (out-TypeOfAttribute RawName a).required

attribute_made : (a : TypeOfAttribute RawName)
    → out-TypeOfAttribute RawName (bare_of_attribute a)
    ≡ record {
      ty = bare (type_in a);
      annotations = (out-TypeOfAttribute RawName a).annotations;
      required = is_required a;
    }
attribute_made a =
    ap (out-TypeOfAttribute RawName) (made.attribute_bare a)
    ∙ out-roll-TypeOfAttribute RawName
    (record {
      ty = bare (type_in a);
      annotations = (out-TypeOfAttribute RawName a).annotations;
      required = is_required a;
    })

pub type_in_bare : (a : TypeOfAttribute RawName) → type_in (bare_of_attribute a) ≡ bare (type_in a)
type_in_bare a = ap (λ (x : Attribute). x.ty) (attribute_made a)

pub required_bare : (a : TypeOfAttribute RawName) → is_required (bare_of_attribute a) ≡ is_required a
required_bare a = ap (λ (x : Attribute). x.required) (attribute_made a)

-- a layer as it is seen without places
abbrev pub bare_view : View RawName → View RawName
bare_view (set_layer t) = set_layer (bare t)
bare_view (record_layer more es) = record_layer more (map bare_entry es)
bare_view (reference_layer kind name) = reference_layer kind (bare_name name)
bare_view boolean_layer = boolean_layer
bare_view long_layer = long_layer
bare_view string_layer = string_layer
bare_view (extension_layer word) = extension_layer word

inner_viewed : (o : Inner) → shape_view (bare_inner o) ≡ bare_view (shape_view o)
inner_viewed TypeVariant-F.String = refl
inner_viewed TypeVariant-F.Long = refl
inner_viewed TypeVariant-F.Boolean = refl
inner_viewed (TypeVariant-F.Set s) = refl
inner_viewed (TypeVariant-F.Record r) = λ i. record_layer (openness_bare r i) (attributes_bare r i)
inner_viewed (TypeVariant-F.Entity n) = refl
inner_viewed (TypeVariant-F.EntityOrCommon n) = refl
inner_viewed (TypeVariant-F.Extension x) = refl

outer_viewed : (o : Outer) → outer_view (bare_outer o) ≡ bare_view (outer_view o)
outer_viewed (Type-F.Variant ty loc) = ap shape_view (inner_bare ty) ∙ inner_viewed (out-TypeVariant RawName ty)
outer_viewed (Type-F.CommonTypeRef name loc) = refl

pub view_bare : (t : «Type» RawName) → view (bare t) ≡ bare_view (view t)
view_bare t = ap outer_view (outer_bare t) ∙ outer_viewed (out-Type RawName t)
