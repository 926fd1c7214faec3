use Rattle.std.proofs.Common.{rules, arith, List, ℕ, ◌≡◌, ap, get_or, append_assoc}
use Rattle.std.proofs.lemmas.List.{map-append}
use Rattle.std.specs.Map.{values_of}
use denote.Param.Weighed.{most}
use Rattle.cedar_data.proofs.Sizes.{most_at}
use Rattle.schema_json.specs.declared.types.Type.{size-Type}
use Rattle.schema_json.specs.declared.types.TypeOfAttribute.{TypeOfAttribute, size-TypeOfAttribute}
use Rattle.schema_json.specs.declared.types.TypeOfAttribute.{size_is-TypeOfAttribute}
use Rattle.schema_json.proofs.Depths.{variant_below, element_below, entries_in_variant}
use Rattle.schema_json.proofs.Walks.{entries_step, variant_record, variant_common}
use Rattle.schema_json.proofs.walk.+gather.Goals as goal

pub gather_entries-gather-requires : goal.gather_entries-gather-requires
gather_entries-gather-requires g t c κs within =
    let size = size-TypeOfAttribute g.row.N.Denot in
    let it = c.loop-attribute-item.result in
    let le = most_at size c.args.entries.now c.loop-attribute.attribute-index it c.loop-attribute-test.true in
    let same : size it.1 ≡ size (get_or c.args.entries.now c.loop-attribute.attribute-index it).1 = ap (λ p. size p.1)
    c.loop-attribute-item.is in
    let below = size_is-TypeOfAttribute g.row.N.Denot it.1 in
    (omega (arith, le, same, c.decreases, below), search rules)

pub gather-gather_variant-requires : goal.gather-gather_variant-requires
gather-gather_variant-requires g t c κs within =
    let below = variant_below g.row.N.Denot c.in-Variant.ty c.in-Variant.loc c.args.ty.now c.in-Variant.is in
    (omega (arith, below, c.decreases), search rules)

pub gather_variant-gather-requires : goal.gather_variant-gather-requires
gather_variant-gather-requires g t c κs within =
    let below = element_below g.row.N.Denot c.in-Set.element c.args.ty.now c.in-Set.is in
    let same = ap (size-Type g.row.N.Denot) c.get.ensures in
    (omega (arith, below, same, c.decreases), search rules)

pub gather_variant-gather_entries-requires : goal.gather_variant-gather_entries-requires
gather_variant-gather_entries-requires g t c κs within =
    let below = entries_in_variant g.row.N.Denot c.in-Record.record c.args.ty.now c.in-Record.is in
    let same = ap (λ (es : List (List ℕ × TypeOfAttribute g.row.N.Denot)). most (size-TypeOfAttribute g.row.N.Denot)
    (values_of es)) c.as_slice.ensures.entries in
    (omega (arith, below, same, c.decreases), search rules)

pub gather_entries-loop-attribute-preserved : goal.gather_entries-loop-attribute-preserved
gather_entries-loop-attribute-preserved g t c =
    let step = entries_step g.row.N.Denot c.args.entries.now c.loop-attribute.attribute-index
    c.loop-attribute-item.result c.loop-attribute-test.true c.loop-attribute-item.is in
    rw (c.in_ok-gather.ensures, append_assoc, ← step) c.loop-attribute.invariant

pub gather_variant-returns-in-Record : goal.gather_variant-returns-in-Record
gather_variant-returns-in-Record g t c =
    rw (c.in-Record.is, variant_record g.row.N.Denot c.in-Record.record, ← c.as_slice.ensures.entries)
    c.gather_entries.ensures

pub gather_variant-returns-in_ok-push-in-EntityOrCommon :
    goal.gather_variant-returns-in_ok-push-in-EntityOrCommon
gather_variant-returns-in_ok-push-in-EntityOrCommon g t c =
    rw (
      c.in-EntityOrCommon.is,
      variant_common g.row.N.Denot c.in-EntityOrCommon.type_name,
      c.in_ok-push-in-EntityOrCommon.ensures.items,
      map-append,
    )
