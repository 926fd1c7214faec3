use Rattle.std.proofs.Common.{arith, rules, List, ℕ, ◌≡◌, ap, sym, ◌∙◌, get_or, map, not, codes, true, false}
use Rattle.std.specs.Str.{encode_utf8_all}
use Rattle.std.proofs.lemmas.Result.{IfOk-weaker}
use Rattle.serde_json.specs.Data.{object, no_members, put}
use Rattle.serde_json.specs.View.{members_view}
use Rattle.serde_json.proofs.Views.{view-Object}
use Rattle.std.specs.Map.{values_of}
use denote.Param.Weighed.{most}
use Rattle.cedar_data.proofs.Sizes.{most_at}
use Rattle.schema_json.specs.declared.types.Type.{size-Type}
use Rattle.schema_json.specs.declared.types.TypeOfAttribute.{TypeOfAttribute}
use Rattle.schema_json.specs.declared.types.TypeOfAttribute.{out-TypeOfAttribute, size-TypeOfAttribute}
use Rattle.schema_json.specs.declared.types.TypeOfAttribute.{size_is-TypeOfAttribute}
use Rattle.schema_json.specs.declared.types.RecordType.{out-RecordType}
use Rattle.schema_json.proofs.Depths.{variant_below, element_below, entries_in_variant}
use Rattle.schema_json_values.specs.TypeValues.{put_all, attribute_entry, type_members, variant_members, with_word}
use Rattle.schema_json_values.specs.TypeValues.{with_flag, with_annotations}
use Rattle.schema_json_values.proofs.Layers.{put_step, attribute_out, type_variant, type_common}
use Rattle.schema_json_values.proofs.Layers.{variant_record, variant_string, variant_long, variant_boolean}
use Rattle.schema_json_values.proofs.types.+types.Goals as goal

pub type_members-returns-in-Variant : goal.type_members-returns-in-Variant
type_members-returns-in-Variant g t c =
    let N = g.row.N.Denot in
    let names = g.N.NameText.components in
    IfOk-weaker c.variant_members.result _ _
    (λ m h. h ∙ sym (type_variant N names c.in-Variant.ty c.in-Variant.loc)
    ∙ ap (type_members names) (sym c.in-Variant.is)) c.variant_members.ensures

pub type_members-returns-in_ok-text-in-CommonTypeRef : goal.type_members-returns-in_ok-text-in-CommonTypeRef
type_members-returns-in_ok-text-in-CommonTypeRef g t c =
    let N = g.row.N.Denot in
    let names = g.N.NameText.components in
    let text = c.as_str.ensures.bytes ∙ ap encode_utf8_all c.in_ok-text-in-CommonTypeRef.ensures.text in
    IfOk-weaker c.with_word.result _ _
    (λ m h. h ∙ ap with_word text ∙ sym (type_common N names c.in-CommonTypeRef.type_name c.in-CommonTypeRef.loc)
    ∙ ap (type_members names) (sym c.in-CommonTypeRef.is)) c.with_word.ensures

pub variant_members-returns-in-String : goal.variant_members-returns-in-String
variant_members-returns-in-String g t c =
    let N = g.row.N.Denot in
    let names = g.N.NameText.components in
    IfOk-weaker c.with_word.result _ _
    (λ m h. h ∙ sym (variant_string N names) ∙ ap (variant_members names) (sym c.in-String.is)) c.with_word.ensures

pub variant_members-returns-in-Long : goal.variant_members-returns-in-Long
variant_members-returns-in-Long g t c =
    let N = g.row.N.Denot in
    let names = g.N.NameText.components in
    IfOk-weaker c.with_word-in-Long.result _ _
    (λ m h. h ∙ sym (variant_long N names) ∙ ap (variant_members names) (sym c.in-Long.is)) c.with_word-in-Long.ensures

pub variant_members-returns-in-Boolean : goal.variant_members-returns-in-Boolean
variant_members-returns-in-Boolean g t c =
    let N = g.row.N.Denot in
    let names = g.N.NameText.components in
    IfOk-weaker c.with_word-in-Boolean.result _ _
    (λ m h. h ∙ sym (variant_boolean N names) ∙ ap (variant_members names) (sym c.in-Boolean.is))
    c.with_word-in-Boolean.ensures

pub variant_members-returns-in_ok-entries-in-Record : goal.variant_members-returns-in_ok-entries-in-Record
variant_members-returns-in_ok-entries-in-Record g t c =
    let N = g.row.N.Denot in
    let names = g.N.NameText.components in
    let r = c.in-Record.record in
    let is_open = (out-RecordType N r).additional_attributes in
    let entries = c.in_ok-entries-in-Record.ensures
    ∙ ap (λ xs. put_all (map (attribute_entry names) xs) no_members) c.as_slice.ensures.entries in
    IfOk-weaker c.with_attributes.result _ _
    (λ m h. h ∙ ap (λ es. with_flag is_open (codes "additionalAttributes") true
    (put (codes "attributes") (object es) (with_word (codes "Record")))) entries ∙ sym (variant_record N names r)
    ∙ ap (variant_members names) (sym c.in-Record.is))
    c.with_attributes.ensures

pub attribute_entries-type_members-requires : goal.attribute_entries-type_members-requires
attribute_entries-type_members-requires g t c κs within =
    let size = size-TypeOfAttribute g.row.N.Denot in
    let it = c.loop-name-item.result in
    let le = most_at size c.args.entries.now c.loop-name.name-index it c.loop-name-test.true in
    let same : size it.1 ≡ size (get_or c.args.entries.now c.loop-name.name-index it).1 = ap (λ p. size p.1)
    c.loop-name-item.is in
    let below = size_is-TypeOfAttribute g.row.N.Denot it.1 in
    (omega (arith, le, same, c.decreases, below), search rules)

pub type_members-variant_members-requires : goal.type_members-variant_members-requires
type_members-variant_members-requires g t c κs within =
    let below = variant_below g.row.N.Denot c.in-Variant.ty c.in-Variant.loc c.args.ty.now c.in-Variant.is in
    (omega (arith, below, c.decreases), search rules)

pub variant_members-type_members-requires : goal.variant_members-type_members-requires
variant_members-type_members-requires g t c κs within =
    let below = element_below g.row.N.Denot c.in-Set.element c.args.ty.now c.in-Set.is in
    let same = ap (size-Type g.row.N.Denot) c.get.ensures in
    (omega (arith, below, same, c.decreases), search rules)

pub variant_members-attribute_entries-requires : goal.variant_members-attribute_entries-requires
variant_members-attribute_entries-requires g t c κs within =
    let below = entries_in_variant g.row.N.Denot c.in-Record.record c.args.ty.now c.in-Record.is in
    let same = ap (λ (es : List (List ℕ × TypeOfAttribute g.row.N.Denot)). most (size-TypeOfAttribute g.row.N.Denot)
    (values_of es)) c.as_slice.ensures.entries in
    (omega (arith, below, same, c.decreases), search rules)

pub attribute_entries-loop-name-preserved : goal.attribute_entries-loop-name-preserved
attribute_entries-loop-name-preserved g t c =
    let N = g.row.N.Denot in
    let names = g.N.NameText.components in
    let it = c.loop-name-item.result in
    let a = out-TypeOfAttribute N it.1 in
    let beside = c.in_ok-put_flag.ensures
    ∙ ap (with_flag (not a.required) (codes "required") false)
    (c.in_ok-put_annotations.ensures ∙ ap (with_annotations a.annotations.0) c.in_ok-beside.ensures)
    ∙ sym (attribute_out N names it.1) in
    let value = view-Object c.put_flag.new.members ∙ ap object beside in
    let ms = members_view c.loop-name.members.entries in
    let new = c.in_ok-put.ensures.ok ∙ (λ i. put (c.as_str.ensures.bytes i) (value i) ms) in
    put_step (attribute_entry names) c.args.entries.now c.loop-name.name-index it ms
    (members_view c.put.new.map.entries) c.loop-name-test.true c.loop-name-item.is new ∙ c.loop-name.invariant
