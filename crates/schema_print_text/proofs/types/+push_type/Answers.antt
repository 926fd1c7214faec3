use Rattle.std.proofs.lemmas.Grind.{common_steps}
use Rattle.std.proofs.Common.{rules, arith, ◌≡◌, ap, sym, ◌∙◌, get_or, codes, refl, true}
use Rattle.std.proofs.lemmas.List.{at_drop_all}
use Rattle.std.proofs.lemmas.Result.{on_ok_weaker}
use Rattle.cedar_data.proofs.Sizes.{most_at}
use Rattle.schema_syntax_tokens.specs.Laid.{laid}
use Rattle.schema_json.specs.declared.types.TypeOfAttribute.{size-TypeOfAttribute, size_is-TypeOfAttribute}
use Rattle.schema_json.specs.declared.types.TypeVariant.TheVariants.{Set, Record, Entity, EntityOrCommon, Extension}
use Rattle.schema_json.specs.declared.types.TypeVariant.TheVariants.{String, Long, Boolean}
use Rattle.schema_json.specs.declared.types.RecordType.{out-RecordType}
use Rattle.laws_written.specs.Printed.{lines_pieces, type_pieces}
use Rattle.laws_written.specs.Written.{path, set, rec}
use Rattle.laws_written.specs.Meant.{under_cedar}
use Rattle.schema_print_text.specs.Growing.{then, so, begun, round, adds_all}
use Rattle.schema_print_text.specs.PrintedTypes.{printed_name, printed_type, printed_type_text, printed_entries}
use Rattle.schema_print_text.proofs.Layers.{variant_shown, common_shown, shown, variant_set, variant_record}
use Rattle.schema_print_text.proofs.Layers.{variant_entity, variant_either, variant_extension, variant_string}
use Rattle.schema_print_text.proofs.Layers.{variant_long, variant_boolean}
use Rattle.schema_print_text.proofs.Laying.{set_laid, extension_laid, record_filled, entry_step}
use Rattle.schema_print_text.proofs.types.+push_type.Goals as goal

pub push_type-returns-in-Variant : goal.push_type-returns-in-Variant
push_type-returns-in-Variant g t c =
    on_ok_weaker c.push_variant.result
    (λ e. so e (variant_shown g.row.N.Denot g.N.NameText.components c.args.base c.args.ty.now c.in-Variant.ty
    c.in-Variant.loc c.in-Variant.is)) c.push_variant.ensures

pub push_type-returns-in-CommonTypeRef : goal.push_type-returns-in-CommonTypeRef
push_type-returns-in-CommonTypeRef g t c =
    on_ok_weaker c.push_name.result
    (λ e. so e (common_shown g.row.N.Denot g.N.NameText.components c.args.base c.args.ty.now
    c.in-CommonTypeRef.type_name c.in-CommonTypeRef.loc c.in-CommonTypeRef.is)) c.push_name.ensures

pub push_variant-returns-in-String : goal.push_variant-returns-in-String
push_variant-returns-in-String g t c =
    on_ok_weaker c.push.result (λ e. so e
    (shown g.row.N.Denot g.N.NameText.components c.args.base c.args.ty.now String _ (codes "__cedar::String")
    c.in-String.is (variant_string g.row.N.Denot g.N.NameText.components) refl)) c.push.ensures

pub push_variant-returns-in-Long : goal.push_variant-returns-in-Long
push_variant-returns-in-Long g t c =
    on_ok_weaker c.push-in-Long.result
    (λ e. so e (shown g.row.N.Denot g.N.NameText.components c.args.base c.args.ty.now Long _ (codes "__cedar::Long")
    c.in-Long.is (variant_long g.row.N.Denot g.N.NameText.components) refl)) c.push-in-Long.ensures

pub push_variant-returns-in-Boolean : goal.push_variant-returns-in-Boolean
push_variant-returns-in-Boolean g t c =
    on_ok_weaker c.push-in-Boolean.result
    (λ e. so e (shown g.row.N.Denot g.N.NameText.components c.args.base c.args.ty.now Boolean _
    (codes "__cedar::Bool") c.in-Boolean.is (variant_boolean g.row.N.Denot g.N.NameText.components) refl))
    c.push-in-Boolean.ensures

pub push_variant-returns-in_ok-push_type-in-Set : goal.push_variant-returns-in_ok-push_type-in-Set
push_variant-returns-in_ok-push_type-in-Set g t c =
    on_ok_weaker c.push-in-Set-2.result (λ e.
    let names = g.N.NameText.components in
    let element = c.in-Set.element in
    so
    (then c.in_ok-push-in-Set.ensures
    (then (so c.in_ok-push_type-in-Set.ensures (ap (λ it. printed_type_text names c.args.base it) c.get.ensures))
    e))
    (shown g.row.N.Denot names c.args.base c.args.ty.now (Set element) (set (printed_type names element)) _
    c.in-Set.is (variant_set g.row.N.Denot names element)
    (sym (set_laid c.args.base (printed_type names element))))) c.push-in-Set-2.ensures

pub push_variant-returns-in-Record : goal.push_variant-returns-in-Record
push_variant-returns-in-Record g t c =
    let names = g.N.NameText.components in
    let r = c.in-Record.record in
    on_ok_weaker c.push_record.result
    (λ e. so (so e (ap (λ es. laid (type_pieces true c.args.base (rec (printed_entries names es))))
    c.as_slice.ensures.entries))
    (shown g.row.N.Denot names c.args.base c.args.ty.now (Record r)
    (rec (printed_entries names (out-RecordType g.row.N.Denot r).attributes)) _ c.in-Record.is
    (variant_record g.row.N.Denot names r) refl))
    c.push_record.ensures

pub push_variant-returns-in-Entity : goal.push_variant-returns-in-Entity
push_variant-returns-in-Entity g t c =
    let names = g.N.NameText.components in
    let n = c.in-Entity.name in
    on_ok_weaker c.push_name.result
    (λ e. so e (shown g.row.N.Denot names c.args.base c.args.ty.now (Entity n) (path (printed_name (names n))) _
    c.in-Entity.is (variant_entity g.row.N.Denot names n) refl))
    c.push_name.ensures

pub push_variant-returns-in-EntityOrCommon : goal.push_variant-returns-in-EntityOrCommon
push_variant-returns-in-EntityOrCommon g t c =
    let names = g.N.NameText.components in
    let n = c.in-EntityOrCommon.type_name in
    on_ok_weaker c.push_name-in-EntityOrCommon.result
    (λ e. so e (shown g.row.N.Denot names c.args.base c.args.ty.now (EntityOrCommon n) (path (printed_name (names n)))
    _ c.in-EntityOrCommon.is (variant_either g.row.N.Denot names n) refl))
    c.push_name-in-EntityOrCommon.ensures

pub push_variant-returns-in_ok-push-in-Extension : goal.push_variant-returns-in_ok-push-in-Extension
push_variant-returns-in_ok-push-in-Extension g t c =
    on_ok_weaker c.push-in-Extension-2.result (λ e.
    let names = g.N.NameText.components in
    let n = c.in-Extension.name in
    so (then c.in_ok-push-in-Extension.ensures (so e c.as_str.ensures))
    (shown g.row.N.Denot names c.args.base c.args.ty.now (Extension n) (under_cedar n.id.text) _ c.in-Extension.is
    (variant_extension g.row.N.Denot names n) (extension_laid c.args.base n.id.text))) c.push-in-Extension-2.ensures

pub push_record-returns : goal.push_record-returns
push_record-returns g t c =
    on_ok_weaker c.push-3.result (λ e.
    so (then c.in_ok-push-3.ensures
    (then c.in_ok-push_entries.ensures (then c.in_ok-push_spaces-2.ensures e)))
    (sym (record_filled g.row.N.Denot g.N.NameText.components c.args.base c.args.entries.now
    (sym c.is_empty.ensures ∙ c.if-is_empty.false)))) c.push-3.ensures

pub push_entries-push_type-requires : goal.push_entries-push_type-requires
push_entries-push_type-requires g t c κs within =
    let size = size-TypeOfAttribute g.row.N.Denot in
    let it = c.loop-name-item.result in
    let le = most_at size c.args.entries.now c.loop-name.name-index it c.loop-name-test.true in
    let same : size it.1 ≡ size (get_or c.args.entries.now c.loop-name.name-index it).1 = ap (λ p. size p.1)
    c.loop-name-item.is in
    let below = size_is-TypeOfAttribute g.row.N.Denot it.1 in
    (omega (arith, le, same, c.decreases, below), search rules)

pub push_entries-loop-name-init : goal.push_entries-loop-name-init
push_entries-loop-name-init g t c = begun c.args.text.now _

pub push_entries-loop-name-preserved : goal.push_entries-loop-name-preserved
push_entries-loop-name-preserved g t c =
    round
    (then c.in_ok-push_notes.ensures
    (then c.in_ok-push_spaces.ensures
    (then c.in_ok-push_attribute_name.ensures
    (then c.in_ok-push_colon.ensures (then c.in_ok-push_type.ensures c.in_ok-push.ensures)))))
    c.loop-name.invariant
    (entry_step g.row.N.Denot g.N.NameText.components c.args.base c.in_ok-inner.inner c.args.entries.now
    c.loop-name.name-index c.loop-name-item.result c.in_ok-inner.ensures c.loop-name-test.true c.loop-name-item.is)

pub push_entries-returns : goal.push_entries-returns
push_entries-returns g t c =
    adds_all c.loop-name.invariant
    (at_drop_all (λ es. laid (lines_pieces true c.args.base (printed_entries g.N.NameText.components es)))
    c.args.entries.now c.loop-name.name-index c.loop-name-test.false)

pub push_record-returns-then-is_empty : goal.push_record-returns-then-is_empty
push_record-returns-then-is_empty g t c = grind (arith, common_steps)
