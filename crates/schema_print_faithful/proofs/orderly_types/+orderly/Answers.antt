use Rattle.std.proofs.Common.{rules, arith, ◌≡◌, ap, sym, subst, get_or, take_all, All}
use Rattle.std.specs.List.Sorted.{IsStrictlySortedBy}
use Rattle.std.specs.Map.{keys_of}
use Rattle.std.proofs.lemmas.List.Elements.{All-more, recursion_from_All}
use Rattle.cedar_data.specs.Text.{text_cmp}
use Rattle.cedar_data.proofs.Sizes.{most_at}
use Rattle.cedar_identifiers.specs.declared.raw_name.RawName.{RawName}
use Rattle.schema_json.specs.declared.types.TypeOfAttribute.{size-TypeOfAttribute, size_is-TypeOfAttribute}
use Rattle.schema_print_text.proofs.Layers.{type_variant, type_common, variant_set, variant_record}
use Rattle.laws_print.specs.Printed.Textual.{components_written}
use Rattle.schema_print_faithful.proofs.OrderlyRecords.{IsOrderlyEntry, attributes_rising, record_rising}
use Rattle.schema_print_faithful.proofs.orderly_types.+orderly.Goals as goal

pub attributes_are_orderly-type_is_orderly-requires : goal.attributes_are_orderly-type_is_orderly-requires
attributes_are_orderly-type_is_orderly-requires t c =
    let size = size-TypeOfAttribute RawName in
    let it = c.loop-attribute-item.result in
    let le = most_at size c.args.entries.now c.loop-attribute.attribute-index it c.loop-attribute-test.true in
    let same : size it.1 ≡ size (get_or c.args.entries.now c.loop-attribute.attribute-index it).1 = ap (λ p. size p.1)
    c.loop-attribute-item.is in
    let below = size_is-TypeOfAttribute RawName it.1 in
    (omega (arith, le, same, c.decreases, below), search rules)

pub attributes_are_orderly-loop-attribute-preserved : goal.attributes_are_orderly-loop-attribute-preserved
attributes_are_orderly-loop-attribute-preserved t c =
    let it = c.loop-attribute-item.result in
    All-more IsOrderlyEntry c.args.entries.now c.loop-attribute.attribute-index it c.loop-attribute-test.true
    c.loop-attribute.invariant
    (subst IsOrderlyEntry c.loop-attribute-item.is (c.annotations_rise.ensures, c.type_is_orderly.ensures))

pub attributes_are_orderly-returns : goal.attributes_are_orderly-returns
attributes_are_orderly-returns t c =
    attributes_rising c.args.entries.now (recursion_from_All IsOrderlyEntry c.args.entries.now
    (subst (All IsOrderlyEntry) (take_all c.loop-attribute.attribute-index c.args.entries.now
    c.loop-attribute-test.false) c.loop-attribute.invariant))

pub type_is_orderly-returns-in-Variant : goal.type_is_orderly-returns-in-Variant
type_is_orderly-returns-in-Variant t c =
    rw (c.in-Variant.is, type_variant RawName components_written c.in-Variant.ty c.in-Variant.loc)
    c.shape_is_orderly.ensures

pub type_is_orderly-returns-in-CommonTypeRef : goal.type_is_orderly-returns-in-CommonTypeRef
type_is_orderly-returns-in-CommonTypeRef t c =
    rw (
      c.in-CommonTypeRef.is,
      type_common RawName components_written c.in-CommonTypeRef.type_name
          c.in-CommonTypeRef.loc,
    ) tt

pub shape_is_orderly-returns-in-Set : goal.shape_is_orderly-returns-in-Set
shape_is_orderly-returns-in-Set t c =
    rw (c.in-Set.is, variant_set RawName components_written c.in-Set.element, ← c.get.ensures)
    c.type_is_orderly.ensures

pub shape_is_orderly-returns-in-Record : goal.shape_is_orderly-returns-in-Record
shape_is_orderly-returns-in-Record t c =
    rw (c.in-Record.is, variant_record RawName components_written c.in-Record.record, ← c.as_slice.ensures.entries)
    (record_rising c.as_slice.result.now
    (subst (λ es. IsStrictlySortedBy text_cmp (keys_of es)) (sym c.as_slice.ensures.entries)
    c.as_slice.ensures.sorted) c.attributes_are_orderly.ensures)
