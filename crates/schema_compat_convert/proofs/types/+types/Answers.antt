use Rattle.std.proofs.Common.{◌≡◌, length, sym, ◌∙◌, subst, rules}
use Rattle.std.specs.List.Sorted.{IsStrictlySortedBy}
use Rattle.std.specs.Vec.Iter.{into_iter_items}
use Rattle.cedar_data.specs.Text.{text_cmp}
use Rattle.cedar_identifiers.specs.declared.raw_name.RawName.{RawName}
use Rattle.schema_json.specs.declared.types.TypeOfAttribute.{roll-TypeOfAttribute}
use Rattle.schema_json.specs.declared.types.TypeVariant.TheVariants as variant
use Rattle.schema_json_shapes.specs.Walk.{AllMet}
use Rattle.schema_json_shapes.specs.Reads.{IsDemandFault}
use Rattle.schema_json_shapes.proofs.Demands.{refused}
use Rattle.schema_compat_types.specs.declared.types.TypeOfAttribute.{out-TypeOfAttribute, size-TypeOfAttribute}
use Rattle.schema_compat_convert.specs.Demands.{asks_type, asks_shape, asks_attribute, asks_attributes}
use Rattle.schema_compat_convert.specs.Converted.{record_shape, TypeBecomes, ShapeBecomes, AttributesBecome}
use Rattle.schema_compat_convert.specs.Converted.{no_attribute}
use Rattle.schema_compat_convert.proofs.Ahead.{first_fails, first_passes, none_ahead}
use Rattle.schema_compat_convert.proofs.Kept.{attributes_keys, attribute_next, rest_most}
use Rattle.schema_compat_convert.proofs.Layers.{attribute_asked}
use Rattle.schema_compat_convert.proofs.Typed.{shape_made, reference_made, string_made, long_made, boolean_made}
use Rattle.schema_compat_convert.proofs.Typed.{set_made, record_made, record_fails, entity_made, extension_made}
use Rattle.schema_compat_convert.proofs.types.+types.Goals as goal

-- ---- types

pub convert_type-returns-in_ok-convert_shape-in-Variant : goal.convert_type-returns-in_ok-convert_shape-in-Variant
convert_type-returns-in_ok-convert_shape-in-Variant t c =
    subst (λ x. AllMet (asks_type c.args.ty) × TypeBecomes c.args.ty x) (sym c.from_variant.ensures)
    (shape_made c.args.ty c.in-Variant.shape _ c.in-Variant.is c.in_ok-convert_shape-in-Variant.ensures)

pub convert_type-returns-in_ok-type_name-in-TypeDef : goal.convert_type-returns-in_ok-type_name-in-TypeDef
convert_type-returns-in_ok-type_name-in-TypeDef t c =
    reference_made c.args.ty c.in-TypeDef.type_name c.as_str.result.now _ c.in-TypeDef.is c.as_str.ensures.bytes
    c.in_ok-type_name-in-TypeDef.ensures

-- ---- shapes

pub convert_shape-returns-in-String : goal.convert_shape-returns-in-String
convert_shape-returns-in-String t c = string_made c.args.shape c.in-String.is

pub convert_shape-returns-in-Long : goal.convert_shape-returns-in-Long
convert_shape-returns-in-Long t c = long_made c.args.shape c.in-Long.is

pub convert_shape-returns-in-Boolean : goal.convert_shape-returns-in-Boolean
convert_shape-returns-in-Boolean t c = boolean_made c.args.shape c.in-Boolean.is

pub convert_shape-returns-in_ok-element-in-Set-2 : goal.convert_shape-returns-in_ok-element-in-Set-2
convert_shape-returns-in_ok-element-in-Set-2 t c =
    let made = subst (λ s. AllMet (asks_type s) × TypeBecomes s c.in_ok-element-in-Set.element) c.into_inner.ensures
    c.in_ok-element-in-Set.ensures in
    subst (λ x. AllMet (asks_shape c.args.shape) × ShapeBecomes c.args.shape (variant.Set x))
    (sym c.in_ok-element-in-Set-2.ensures)
    (set_made c.args.shape c.in-Set.element c.in_ok-element-in-Set.element c.in-Set.is made)

pub convert_shape-returns-in_err-attributes-in-Record : goal.convert_shape-returns-in_err-attributes-in-Record
convert_shape-returns-in_err-attributes-in-Record t c =
    let e = c.in_err-attributes-in-Record.field-0.0 in
    refused c.from_residual-in_err-attributes-in-Record.result e _ _
    c.from_residual-in_err-attributes-in-Record.ensures.1
    (record_fails c.args.shape c.in-Record.attributes c.in-Record.additional_attributes e c.in-Record.is
    (subst (λ es. IsDemandFault
    (asks_attributes es) e) c.into_vec.ensures.entries c.in_err-attributes-in-Record.ensures))

pub convert_shape-from_sorted_vec-requires : goal.convert_shape-from_sorted_vec-requires
convert_shape-from_sorted_vec-requires t c =
    let out = c.in_ok-attributes-in-Record.attributes.items in
    let become = subst (λ es. AttributesBecome es out) c.into_vec.ensures.entries
    c.in_ok-attributes-in-Record.ensures.1 in
    subst (IsStrictlySortedBy text_cmp) (sym (attributes_keys c.in-Record.attributes out become))
    c.into_vec.ensures.sorted

pub convert_shape-returns-in_ok-attributes-in-Record : goal.convert_shape-returns-in_ok-attributes-in-Record
convert_shape-returns-in_ok-attributes-in-Record t c =
    let out = c.in_ok-attributes-in-Record.attributes.items in
    let more = c.in-Record.additional_attributes in
    let made = subst (λ es. AllMet (asks_attributes es) × AttributesBecome es out) c.into_vec.ensures.entries
    c.in_ok-attributes-in-Record.ensures in
    subst (λ l. AllMet (asks_shape c.args.shape) × ShapeBecomes c.args.shape (record_shape l more))
    (sym c.from_sorted_vec.ensures)
    (record_made c.args.shape c.in-Record.attributes more out c.in-Record.is c.into_vec.ensures.sorted made)

pub convert_shape-returns-in_ok-name-in-Entity : goal.convert_shape-returns-in_ok-name-in-Entity
convert_shape-returns-in_ok-name-in-Entity t c =
    entity_made c.args.shape c.in-Entity.name c.as_str.result.now _ c.in-Entity.is c.as_str.ensures.bytes
    c.in_ok-name-in-Entity.ensures

pub convert_shape-returns-in_ok-name-in-Extension : goal.convert_shape-returns-in_ok-name-in-Extension
convert_shape-returns-in_ok-name-in-Extension t c =
    extension_made c.args.shape c.in-Extension.name c.as_str-in-Extension.result.now _ c.in-Extension.is
    c.as_str-in-Extension.ensures.bytes c.in_ok-name-in-Extension.ensures

-- ---- attributes

pub convert_attributes-returns-in_err-ty : goal.convert_attributes-returns-in_err-ty
convert_attributes-returns-in_err-ty t c =
    let e = c.in_err-ty.field-0.0 in
    let a = c.in-Some.attribute in
    refused c.from_residual.result e _ _ c.from_residual.ensures.1
    (first_fails (λ x. asks_attribute x.1) AttributesBecome (c.in-Some.name, a) _ _ _ _ e
    c.loop-name.invariant.ahead c.in-Some.ensures.steps.0
    (subst (λ ds. IsDemandFault ds e) (sym (attribute_asked a)) c.in_err-ty.ensures))

pub convert_attributes-loop-name-preserved : goal.convert_attributes-loop-name-preserved
convert_attributes-loop-name-preserved t c =
    let a = c.in-Some.attribute in
    let required = (out-TypeOfAttribute a).required in
    record {
      ahead = first_passes (λ x. asks_attribute x.1) AttributesBecome (c.in-Some.name, a) _ _ _ _ _ _
          c.loop-name.invariant.ahead c.in-Some.ensures.steps.0
          (subst AllMet (sym (attribute_asked a)) c.in_ok-ty.ensures.0)
          (λ more h. attribute_next c.in-Some.name a c.in_ok-ty.ty _ _ more c.in_ok-ty.ensures.1
          (λ i. roll-TypeOfAttribute RawName (record {
            ty = c.in_ok-ty.ty;
            annotations = record { 0 = c.new-annotations.ensures i };
            required = required;
          })) h) c.in_ok-push.ensures.items;
      within = rest_most size-TypeOfAttribute _ _ (c.in-Some.name, a) _ c.in-Some.ensures.steps.0
          c.loop-name.invariant.within;
    }

pub convert_attributes-returns : goal.convert_attributes-returns
convert_attributes-returns t c =
    let over : length (into_iter_items c.loop-name.name-iterator) ≡ 0 = sym c.loop-name.name-iterator.rest.ok.0
    ∙ c.in-None.ensures.steps.0 in
    none_ahead (λ x. asks_attribute x.1) AttributesBecome _ c.args.attributes.items c.loop-name.out.items
    c.loop-name.invariant.ahead over no_attribute

pub convert_attributes-loop-name-init : goal.convert_attributes-loop-name-init
convert_attributes-loop-name-init t c = record {
  ahead = search rules;
  within = search rules;
}

pub convert_attributes-returns-in_err-push : goal.convert_attributes-returns-in_err-push
convert_attributes-returns-in_err-push t c = search rules

pub convert_shape-returns-in_err-element-in-Set-2 : goal.convert_shape-returns-in_err-element-in-Set-2
convert_shape-returns-in_err-element-in-Set-2 t c = search rules
