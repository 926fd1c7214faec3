use Rattle.std.proofs.Common.{arith, rules, ◌≡◌, ◌++◌, ◌∷◌, ap, sym, ◌∙◌, get_or, map, not, codes}
use Rattle.std.proofs.Common.{false}
use Rattle.std.proofs.Common.{string_bytes}
use Rattle.std.specs.Str.{encode_utf8_all}
use Rattle.std.proofs.lemmas.Result.{on_ok_weaker}
use Rattle.serde_json.specs.Data.{object, string, put}
use Rattle.serde_json.specs.Written.{compact_text, members_text}
use Rattle.cedar_data.proofs.Sizes.{most_at}
use Rattle.schema_json.specs.declared.types.TypeOfAttribute.{size-TypeOfAttribute}
use Rattle.schema_json.specs.declared.types.TypeOfAttribute.{size_is-TypeOfAttribute}
use Rattle.schema_json.specs.declared.types.RecordType.{out-RecordType}
use Rattle.schema_json_values.specs.TypeValues.{attribute_entry, type_members, variant_members, with_word, object_of}
use Rattle.schema_json_values.specs.TypeValues.{with_flag, with_annotations}
use Rattle.schema_json_values.proofs.Layers.{attribute_out, type_variant, type_common, variant_set}
use Rattle.schema_json_values.proofs.Layers.{variant_record, variant_string, variant_long, variant_boolean}
use Rattle.schema_json_values.proofs.Layers.{variant_entity, variant_either, variant_extension}
use Rattle.schema_json_text.specs.Members.{members_in_order}
use Rattle.schema_json_text.proofs.Words.{attributes_in_order}
use Rattle.schema_json_text.proofs.Loops.{opened, entry_step, entries_end}
use Rattle.schema_json_text.proofs.TypeTexts.{element_written, record_written, end_entity, end_either}
use Rattle.schema_json_text.proofs.TypeTexts.{end_extension, end_set, end_record}
use Rattle.schema_json_text.proofs.types.+types.Goals as goal

pub push_annotated-returns-in-Variant : goal.push_annotated-returns-in-Variant
push_annotated-returns-in-Variant g t c =
    let N = g.row.N.Denot in
    let names = g.N.NameText.components in
    let old = string_bytes c.args.out.now in
    let as_ = c.args.annotations.now.0 in
    let r = not c.args.required in
    on_ok_weaker c.push_variant.result
    (λ e. e ∙ ap (λ ms. old ++ compact_text (object (with_flag r (codes "required") false (with_annotations as_ ms))))
    (sym (type_variant N names c.in-Variant.ty c.in-Variant.loc) ∙ ap (type_members names) (sym c.in-Variant.is)))
    c.push_variant.ensures

pub push_annotated-returns-in_ok-text-in-CommonTypeRef : goal.push_annotated-returns-in_ok-text-in-CommonTypeRef
push_annotated-returns-in_ok-text-in-CommonTypeRef g t c =
    let N = g.row.N.Denot in
    let names = g.N.NameText.components in
    let old = string_bytes c.args.out.now in
    let as_ = c.args.annotations.now.0 in
    let r = not c.args.required in
    let text = c.as_str.ensures.bytes ∙ ap encode_utf8_all c.in_ok-text-in-CommonTypeRef.ensures.text in
    on_ok_weaker c.push_word.result
    (λ e. e ∙ ap (λ ms. old ++ compact_text (object (with_flag r (codes "required") false (with_annotations as_ ms))))
    (ap with_word text ∙ sym (type_common N names c.in-CommonTypeRef.type_name c.in-CommonTypeRef.loc)
    ∙ ap (type_members names) (sym c.in-CommonTypeRef.is)))
    c.push_word.ensures

pub push_variant-returns-in-String : goal.push_variant-returns-in-String
push_variant-returns-in-String g t c =
    let names = g.N.NameText.components in
    let old = string_bytes c.args.out.now in
    let as_ = c.args.annotations.now.0 in
    let r = not c.args.required in
    on_ok_weaker c.push_word.result
    (λ e. e ∙ ap (λ ms. old ++ compact_text (object (with_flag r (codes "required") false (with_annotations as_ ms))))
    (sym (variant_string g.row.N.Denot names) ∙ ap (variant_members names) (sym c.in-String.is)))
    c.push_word.ensures

pub push_variant-returns-in-Long : goal.push_variant-returns-in-Long
push_variant-returns-in-Long g t c =
    let names = g.N.NameText.components in
    let old = string_bytes c.args.out.now in
    let as_ = c.args.annotations.now.0 in
    let r = not c.args.required in
    on_ok_weaker c.push_word-in-Long.result
    (λ e. e ∙ ap (λ ms. old ++ compact_text (object (with_flag r (codes "required") false (with_annotations as_ ms))))
    (sym (variant_long g.row.N.Denot names) ∙ ap (variant_members names) (sym c.in-Long.is)))
    c.push_word-in-Long.ensures

pub push_variant-returns-in-Boolean : goal.push_variant-returns-in-Boolean
push_variant-returns-in-Boolean g t c =
    let names = g.N.NameText.components in
    let old = string_bytes c.args.out.now in
    let as_ = c.args.annotations.now.0 in
    let r = not c.args.required in
    on_ok_weaker c.push_word-in-Boolean.result
    (λ e. e ∙ ap (λ ms. old ++ compact_text (object (with_flag r (codes "required") false (with_annotations as_ ms))))
    (sym (variant_boolean g.row.N.Denot names) ∙ ap (variant_members names) (sym c.in-Boolean.is)))
    c.push_word-in-Boolean.ensures

pub push_attributes-push_annotated-requires : goal.push_attributes-push_annotated-requires
push_attributes-push_annotated-requires g t c κs within =
    let size = size-TypeOfAttribute g.row.N.Denot in
    let it = c.loop-name-item.result in
    let le = most_at size c.args.entries.now c.loop-name.name-index it c.loop-name-test.true in
    let same : size it.1 ≡ size (get_or c.args.entries.now c.loop-name.name-index it).1 = ap (λ p. size p.1)
    c.loop-name-item.is in
    let below = size_is-TypeOfAttribute g.row.N.Denot it.1 in
    (omega (arith, le, same, c.decreases, below), search rules)

pub push_attributes-loop-name-init : goal.push_attributes-loop-name-init
push_attributes-loop-name-init g t c =
    opened (string_bytes c.args.out.now) (string_bytes c.push_char.new.out) _ 123 c.in_ok-push_char.ensures

pub push_attributes-loop-name-preserved : goal.push_attributes-loop-name-preserved
push_attributes-loop-name-preserved g t c =
    let N = g.row.N.Denot in
    let names = g.N.NameText.components in
    let es = c.args.entries.now in
    let it = c.loop-name-item.result in
    let key = string_bytes c.push_key.new.out in
    entry_step (attribute_entry names) es c.loop-name.name-index it c.loop-name.later (string_bytes c.loop-name.out)
    (string_bytes c.args.out.now ++ 123 ∷ members_text false (members_in_order (map (attribute_entry names) es)))
    c.as_str.result.now key (string_bytes c.push_annotated.new.out) c.loop-name-test.true c.loop-name-item.is
    c.as_str.ensures.bytes c.in_ok-push_key.ensures
    (c.in_ok-push_annotated.ensures ∙ ap (λ ms. key ++ compact_text (object ms)) (sym (attribute_out N names it.1)))
    c.loop-name.invariant

pub push_attributes-returns : goal.push_attributes-returns
push_attributes-returns g t c =
    let names = g.N.NameText.components in
    let es = c.args.entries.now in
    let old = string_bytes c.args.out.now in
    on_ok_weaker c.push_char-2.result
    (λ e. entries_end (attribute_entry names) es c.loop-name.name-index c.loop-name.later
    (string_bytes c.loop-name.out) (old ++ 123 ∷ members_text false (members_in_order (map (attribute_entry names) es)))
    (string_bytes c.push_char-2.new.out) c.loop-name-test.false e c.loop-name.invariant
    ∙ ap (λ ms. old ++ compact_text (object ms)) (sym (attributes_in_order names es c.requires)))
    c.push_char-2.ensures

pub push_variant-returns-in_ok-push_annotated-in-Set : goal.push_variant-returns-in_ok-push_annotated-in-Set
push_variant-returns-in_ok-push_annotated-in-Set g t c =
    let names = g.N.NameText.components in
    let old = string_bytes c.args.out.now in
    let as_ = c.args.annotations.now.0 in
    let r = not c.args.required in
    let e = c.in-Set.element in
    let n1 = string_bytes c.push_open.new.out in
    let n2 = string_bytes c.push_annotated.new.out in
    let value : n2 ≡ n1 ++ compact_text (object (type_members names e)) =
    c.in_ok-push_annotated-in-Set.ensures
    ∙ (λ i. n1 ++ compact_text (object
    (with_annotations (c.new-none.ensures i) (type_members names (c.get.ensures i))))) in
    on_ok_weaker c.push_end.result
    (λ h. element_written as_ r (codes "Set") old n1 n2 (string_bytes c.push_end.new.out) _
    (object (type_members names e)) c.in_ok-push_open-in-Set.ensures value h end_set
    ∙ ap (λ ms. old ++ compact_text (object (with_flag r (codes "required") false (with_annotations as_ ms))))
    (sym (variant_set g.row.N.Denot names e) ∙ ap (variant_members names) (sym c.in-Set.is)))
    c.push_end.ensures

pub push_variant-returns-in_ok-push_attributes-in-Record : goal.push_variant-returns-in_ok-push_attributes-in-Record
push_variant-returns-in_ok-push_attributes-in-Record g t c =
    let N = g.row.N.Denot in
    let names = g.N.NameText.components in
    let old = string_bytes c.args.out.now in
    let as_ = c.args.annotations.now.0 in
    let r = not c.args.required in
    let rec = c.in-Record.record in
    let n1 = string_bytes c.push_record_open.new.out in
    let n2 = string_bytes c.push_attributes.new.out in
    let value : n2 ≡ n1 ++ compact_text (object_of (map (attribute_entry names) (out-RecordType N rec).attributes)) =
    c.in_ok-push_attributes-in-Record.ensures
    ∙ ap (λ es. n1 ++ compact_text (object_of (map (attribute_entry names) es))) c.as_slice.ensures.entries in
    on_ok_weaker c.push_end-in-Record.result
    (λ h. record_written as_ r (codes "Record") old n1 n2 (string_bytes c.push_end-in-Record.new.out) _
    (out-RecordType N rec).additional_attributes
    (object_of (map (attribute_entry names) (out-RecordType N rec).attributes))
    c.in_ok-push_record_open-in-Record.ensures value h
    end_record
    ∙ ap (λ ms. old ++ compact_text (object (with_flag r (codes "required") false (with_annotations as_ ms))))
    (sym (variant_record N names rec) ∙ ap (variant_members names) (sym c.in-Record.is)))
    c.push_end-in-Record.ensures

pub push_variant-returns-in_ok-text-in-Entity : goal.push_variant-returns-in_ok-text-in-Entity
push_variant-returns-in_ok-text-in-Entity g t c =
    let names = g.N.NameText.components in
    let old = string_bytes c.args.out.now in
    let as_ = c.args.annotations.now.0 in
    let r = not c.args.required in
    let text = c.as_str.ensures.bytes ∙ ap encode_utf8_all c.in_ok-text-in-Entity.ensures.text in
    on_ok_weaker c.push_named.result
    (λ h. h (codes "Entity") end_entity
    ∙ ap (λ s. old ++ compact_text (object (with_flag r (codes "required") false (with_annotations as_
    (put (codes "name") (string s) (with_word (codes "Entity"))))))) text
    ∙ ap (λ ms. old ++ compact_text (object (with_flag r (codes "required") false (with_annotations as_ ms))))
    (sym (variant_entity g.row.N.Denot names c.in-Entity.name) ∙ ap (variant_members names) (sym c.in-Entity.is)))
    c.push_named.ensures

pub push_variant-returns-in_ok-text-in-EntityOrCommon : goal.push_variant-returns-in_ok-text-in-EntityOrCommon
push_variant-returns-in_ok-text-in-EntityOrCommon g t c =
    let names = g.N.NameText.components in
    let old = string_bytes c.args.out.now in
    let as_ = c.args.annotations.now.0 in
    let r = not c.args.required in
    let text = c.as_str-in-EntityOrCommon.ensures.bytes
    ∙ ap encode_utf8_all c.in_ok-text-in-EntityOrCommon.ensures.text in
    on_ok_weaker c.push_named-in-EntityOrCommon.result
    (λ h. h (codes "EntityOrCommon") end_either
    ∙ ap (λ s. old ++ compact_text (object (with_flag r (codes "required") false (with_annotations as_
    (put (codes "name") (string s) (with_word (codes "EntityOrCommon"))))))) text
    ∙ ap (λ ms. old ++ compact_text (object (with_flag r (codes "required") false (with_annotations as_ ms))))
    (sym (variant_either g.row.N.Denot names c.in-EntityOrCommon.type_name)
    ∙ ap (variant_members names) (sym c.in-EntityOrCommon.is)))
    c.push_named-in-EntityOrCommon.ensures

pub push_variant-returns-in-Extension : goal.push_variant-returns-in-Extension
push_variant-returns-in-Extension g t c =
    let names = g.N.NameText.components in
    let old = string_bytes c.args.out.now in
    let as_ = c.args.annotations.now.0 in
    let r = not c.args.required in
    on_ok_weaker c.push_named-in-Extension.result
    (λ h. h (codes "Extension") end_extension
    ∙ ap (λ s. old ++ compact_text (object (with_flag r (codes "required") false (with_annotations as_
    (put (codes "name") (string s) (with_word (codes "Extension"))))))) c.as_str-in-Extension.ensures
    ∙ ap (λ ms. old ++ compact_text (object (with_flag r (codes "required") false (with_annotations as_ ms))))
    (sym (variant_extension g.row.N.Denot names c.in-Extension.name)
    ∙ ap (variant_members names) (sym c.in-Extension.is)))
    c.push_named-in-Extension.ensures
