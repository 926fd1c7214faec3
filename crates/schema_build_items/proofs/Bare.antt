-- Bare entity types mean no attributes and no tags.
use Rattle.std.proofs.Common.{◌≡◌, Bool, true, false, not, ◌&&◌, List, [], ◌∷◌, Option, None, refl, sym, ◌∙◌}
use Rattle.std.proofs.Common.{subst}
use Rattle.std.specs.Prelude.{ℕ, is_none}
use Rattle.std.proofs.lemmas.Bool.{and_parts}
use Rattle.cedar_data.proofs.Options.{none_from_test}
use Rattle.cedar_identifiers.specs.declared.internal_name.InternalName.{InternalName}
use Rattle.cedar_identifiers.specs.declared.raw_name.RawName.{RawName}
use Rattle.cedar_names.specs.Meaning.{no_more, Rec}
use Rattle.schema_json.specs.Shapes.{attributes_of, is_open, is_empty_type, is_empty_record}
use Rattle.schema_json.specs.Shapes.{has_none, is_empty_shape, is_empty_outside}
use Rattle.schema_json.specs.declared.entity_type.EntityTypeKind.{EntityTypeKind}
use Rattle.schema_json.specs.declared.entity_type.EntityTypeKind.TheVariants.{Standard, Enum}
use Rattle.schema_json.specs.declared.types.Type.{«Type», Type-F, out-Type}
use Rattle.schema_json.specs.declared.types.TypeVariant.{TypeVariant, TypeVariant-F, out-TypeVariant}
use Rattle.schema_json.specs.declared.types.RecordType.{RecordType}
use Rattle.schema_json.specs.declared.types.TypeOfAttribute.{TypeOfAttribute}
use Rattle.schema_json_walk.specs.Bare.{is_bare_kind}
use Rattle.schema_build_expand.specs.Expands.{Expands, by_layer, LayerExpands, to_record, to_no_attributes}
use Rattle.schema_build_expand.specs.Scope.{Scope}
use Rattle.schema_build_expand.specs.View.{outer_view, shape_view, record_layer}
use Rattle.schema_build_items.specs.Kinds.{IsKindMeaning, TagsExpand}

abbrev N : Type 0
N = RawName

alike_record : (r : RecordType N) → is_empty_record r ≡ (has_none (attributes_of r) && not (is_open r))
alike_record r = refl

alike_type : (t : «Type» N) → is_empty_type t ≡ is_empty_outside (out-Type N t)
alike_type t = refl

module _ (s : Scope N) (ns : Option InternalName) where
  entries_empty : (es : List (List ℕ × TypeOfAttribute N)) (b : Bool) → (has_none es && not b) ≡ true
      → LayerExpands N s ns (record_layer b es) (Rec no_more)
  entries_empty [] false e = to_record ns [] no_more (to_no_attributes ns)
  entries_empty [] true e = cc
  entries_empty (x ∷ xs) b e = cc

  shape_empty : (v : TypeVariant-F N («Type» N) (TypeVariant N) (RecordType N) (TypeOfAttribute N))
      → is_empty_shape v ≡ true
      → LayerExpands N s ns (shape_view v) (Rec no_more)
  shape_empty (TypeVariant-F.Record r) e = entries_empty (attributes_of r) (is_open r) (sym (alike_record r) ∙ e)
  shape_empty TypeVariant-F.String e = cc
  shape_empty TypeVariant-F.Long e = cc
  shape_empty TypeVariant-F.Boolean e = cc
  shape_empty (TypeVariant-F.Set element) e = cc
  shape_empty (TypeVariant-F.Entity name) e = cc
  shape_empty (TypeVariant-F.EntityOrCommon name) e = cc
  shape_empty (TypeVariant-F.Extension name) e = cc

  outside_empty : (o : Type-F N («Type» N) (TypeVariant N) (RecordType N) (TypeOfAttribute N))
      → is_empty_outside o ≡ true → LayerExpands N s ns (outer_view o) (Rec no_more)
  outside_empty (Type-F.Variant ty loc) e = shape_empty (out-TypeVariant N ty) e
  outside_empty (Type-F.CommonTypeRef name loc) e = cc

  -- an empty closed record stands for no attributes
  pub empty_expands : (t : «Type» N) → is_empty_type t ≡ true → Expands N s ns t (Rec no_more)
  empty_expands t e = by_layer ns t (Rec no_more) (outside_empty (out-Type N t) (sym (alike_type t) ∙ e))

  -- what is bare means nothing besides its name and its ancestors
  pub bare_means : (kind : EntityTypeKind N) → is_bare_kind kind ≡ true
      → IsKindMeaning s ns kind (record { attributes = no_more; tags = None; choices = None })
  bare_means (Standard d) e =
      let (shape, tags) = and_parts (is_empty_type d.shape.0) (is_none d.tags) e in
      (empty_expands d.shape.0 shape, subst (λ o. TagsExpand s ns o None) (sym (none_from_test d.tags tags)) refl, refl)
  bare_means (Enum choices) e = cc
