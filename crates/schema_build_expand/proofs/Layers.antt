-- The layers of types, and what the types stand for by them.
use Rattle.std.proofs.Common.{◌≡◌, true, false, sym, ap, ◌∙◌, subst, Option}
use Rattle.cedar_data.specs.declared.loc.Loc.{Loc}
use Rattle.cedar_identifiers.specs.declared.internal_name.InternalName.{InternalName}
use Rattle.cedar_identifiers.specs.declared.unreserved_id.UnreservedId.{UnreservedId}
use Rattle.cedar_identifiers.specs.declared.reference_type.ReferenceType.TheVariants.{Common, Entity, CommonOrEntity}
use Rattle.cedar_names.specs.Meaning.{PlainType, Attributes}
use Rattle.cedar_names.specs.Meaning as plain
use Rattle.schema_json.specs.Shapes.{attributes_of, is_open}
use Rattle.schema_json.specs.declared.types.Type.{«Type», Type-F, out-roll-Type}
use Rattle.schema_json.specs.declared.types.Type.TheVariants.{Variant, rolls-Variant, CommonTypeRef}
use Rattle.schema_json.specs.declared.types.Type.TheVariants.{rolls-CommonTypeRef}
use Rattle.schema_json.specs.declared.types.TypeVariant.{TypeVariant, TypeVariant-F, out-TypeVariant}
use Rattle.schema_json.specs.declared.types.TypeVariant.{out-roll-TypeVariant}
use Rattle.schema_json.specs.declared.types.TypeVariant.TheVariants as variant
use Rattle.schema_json.specs.declared.types.TypeVariant.TheVariants.{rolls-String, rolls-Long, rolls-Boolean}
use Rattle.schema_json.specs.declared.types.TypeVariant.TheVariants.{rolls-Set}
use Rattle.schema_json.specs.declared.types.TypeVariant.TheVariants.{rolls-Record, rolls-Entity, rolls-EntityOrCommon}
use Rattle.schema_json.specs.declared.types.TypeVariant.TheVariants.{rolls-Extension}
use Rattle.schema_json.specs.declared.types.RecordType.{RecordType}
use Rattle.schema_json.specs.declared.types.TypeOfAttribute.{TypeOfAttribute}
use Rattle.schema_build_expand.specs.View.{View, record_layer, reference_layer, view, outer_view, shape_view}
use Rattle.schema_build_expand.specs.Scope.{Scope, in_table}
use Rattle.schema_build_expand.specs.Expands.{Expands, by_layer, LayerExpands, to_bool, to_long, to_string, to_set}
use Rattle.schema_build_expand.specs.Expands.{to_record, to_extension, ExpandAll}

module _ {N : Type 0} where
  view_shape : (shape : TypeVariant N) (loc : Option Loc)
      → view (Variant shape loc) ≡ shape_view (out-TypeVariant N shape)
  view_shape shape loc =
      ap view (sym (rolls-Variant shape loc)) ∙ ap outer_view (out-roll-Type N (Type-F.Variant shape loc))

  -- a shape that is rolled from a layer
  view_rolled : (layer : TypeVariant-F N («Type» N) (TypeVariant N) (RecordType N) (TypeOfAttribute N))
      (shape : TypeVariant N) (loc : Option Loc) → out-TypeVariant N shape ≡ layer → view
      (Variant shape loc) ≡ shape_view layer
  view_rolled layer shape loc e = view_shape shape loc ∙ ap shape_view e

  view_common : (x : N) (loc : Option Loc) → view (CommonTypeRef x loc) ≡ reference_layer Common x
  view_common x loc =
      ap view (sym (rolls-CommonTypeRef x loc)) ∙ ap outer_view (out-roll-Type N (Type-F.CommonTypeRef x loc))

module _ {N : Type 0} {s : Scope N} (ns : Option InternalName) where
  at_layer : (t : «Type» N) (v : View N) (p : PlainType) → view t ≡ v → LayerExpands N s ns v p → Expands N s ns t p
  at_layer t v p e h = by_layer ns t p (subst (λ v. LayerExpands N s ns v p) (sym e) h)

  at_shape : (layer : TypeVariant-F N («Type» N) (TypeVariant N) (RecordType N) (TypeOfAttribute N))
      (shape : TypeVariant N) (loc : Option Loc) (p : PlainType) → out-TypeVariant N shape ≡ layer
      → LayerExpands N s ns (shape_view layer) p → Expands N s ns (Variant shape loc) p
  at_shape layer shape loc p e h = at_layer (Variant shape loc) (shape_view layer) p (view_rolled layer shape loc e) h

  pub string : (loc : Option Loc) → Expands N s ns (Variant variant.String loc) plain.String
  string loc =
      at_shape TypeVariant-F.String variant.String loc plain.String
      (ap (out-TypeVariant N) (sym rolls-String) ∙ out-roll-TypeVariant N TypeVariant-F.String) (to_string ns)

  pub long : (loc : Option Loc) → Expands N s ns (Variant variant.Long loc) plain.Long
  long loc =
      at_shape TypeVariant-F.Long variant.Long loc plain.Long
      (ap (out-TypeVariant N) (sym rolls-Long) ∙ out-roll-TypeVariant N TypeVariant-F.Long) (to_long ns)

  pub boolean : (loc : Option Loc) → Expands N s ns (Variant variant.Boolean loc) plain.Bool
  boolean loc =
      at_shape TypeVariant-F.Boolean variant.Boolean loc plain.Bool
      (ap (out-TypeVariant N) (sym rolls-Boolean) ∙ out-roll-TypeVariant N TypeVariant-F.Boolean) (to_bool ns)

  pub set : (e : «Type» N) (loc : Option Loc) (p : PlainType) → Expands N s ns e p
      → Expands N s ns (Variant (variant.Set e) loc) (plain.Set p)
  set e loc p h =
      at_shape (TypeVariant-F.Set e) (variant.Set e) loc (plain.Set p)
      (ap (out-TypeVariant N) (sym (rolls-Set e)) ∙ out-roll-TypeVariant N (TypeVariant-F.Set e)) (to_set ns e p h)

  pub record_of : (r : RecordType N) (loc : Option Loc) (ps : Attributes) → is_open r ≡ false
      → ExpandAll N s ns (attributes_of r) ps → Expands N s ns (Variant (variant.Record r) loc) (plain.Rec ps)
  record_of r loc ps closed h =
      at_shape (TypeVariant-F.Record r) (variant.Record r) loc (plain.Rec ps)
      (ap (out-TypeVariant N) (sym (rolls-Record r)) ∙ out-roll-TypeVariant N (TypeVariant-F.Record r))
      (subst (λ b. LayerExpands N s ns (record_layer b (attributes_of r)) (plain.Rec ps)) (sym closed)
      (to_record ns (attributes_of r) ps h))

  pub extension : (x : UnreservedId) (loc : Option Loc) → in_table s x.id.text ≡ true
      → Expands N s ns (Variant (variant.Extension x) loc) (plain.Ext x.id.text)
  extension x loc h =
      at_shape (TypeVariant-F.Extension x) (variant.Extension x) loc (plain.Ext x.id.text)
      (ap (out-TypeVariant N) (sym (rolls-Extension x)) ∙ out-roll-TypeVariant N (TypeVariant-F.Extension x))
      (to_extension ns x.id.text h)

  pub common : (x : N) (loc : Option Loc) (p : PlainType) → LayerExpands N s ns (reference_layer Common x) p
      → Expands N s ns (CommonTypeRef x loc) p
  common x loc p h = at_layer (CommonTypeRef x loc) (reference_layer Common x) p (view_common x loc) h

  pub entity : (x : N) (loc : Option Loc) (p : PlainType) → LayerExpands N s ns (reference_layer Entity x) p
      → Expands N s ns (Variant (variant.Entity x) loc) p
  entity x loc p h =
      at_shape (TypeVariant-F.Entity x) (variant.Entity x) loc p
      (ap (out-TypeVariant N) (sym (rolls-Entity x)) ∙ out-roll-TypeVariant N (TypeVariant-F.Entity x)) h

  pub either : (x : N) (loc : Option Loc) (p : PlainType) → LayerExpands N s ns (reference_layer CommonOrEntity x) p
      → Expands N s ns (Variant (variant.EntityOrCommon x) loc) p
  either x loc p h =
      at_shape (TypeVariant-F.EntityOrCommon x) (variant.EntityOrCommon x) loc p
      (ap (out-TypeVariant N) (sym (rolls-EntityOrCommon x)) ∙ out-roll-TypeVariant N
      (TypeVariant-F.EntityOrCommon x)) h
