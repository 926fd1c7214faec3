use Rattle.std.proofs.lemmas.Grind.{common_steps}
use Rattle.std.proofs.Common.{rules, arith, List, ℕ, ◌≡◌, ap, get_or, sym, subst}
use Rattle.std.specs.List.{FoldsTo}
use Rattle.std.specs.Map.{values_of}
use denote.Param.Weighed.{most}
use Rattle.cedar_data.proofs.Sizes.{most_at}
use Rattle.schema_json.specs.declared.types.Type.{size-Type}
use Rattle.schema_json.specs.declared.types.TypeOfAttribute.{TypeOfAttribute, size-TypeOfAttribute}
use Rattle.schema_json.specs.declared.types.TypeOfAttribute.{size_is-TypeOfAttribute}
use Rattle.schema_json.proofs.Depths.{variant_below, element_below, record_below, entries_below}
use Rattle.schema_json_walk.specs.Visits.{StopsAmong}
use Rattle.schema_json_walk.specs.Walk.{itself, of_attribute}
use Rattle.schema_json_walk.proofs.Layers.{record_walked, variant_walked, attribute_walked}
use Rattle.schema_json_walk.proofs.Visiting.{each_taken, each_stops, handed, ok_then, err_behind, err_front}
use Rattle.schema_json_walk.proofs.walk_types.+walk.Goals as goal

pub walk_entries-walk_type-requires : goal.walk_entries-walk_type-requires
walk_entries-walk_type-requires g t c κs within =
    let size = size-TypeOfAttribute g.row.N.Denot in
    let it = c.loop-attribute-item.result in
    let le = most_at size c.args.entries.now c.loop-attribute.attribute-index it c.loop-attribute-test.true in
    let same : size it.1 ≡ size (get_or c.args.entries.now c.loop-attribute.attribute-index it).1 = ap (λ p. size p.1)
    c.loop-attribute-item.is in
    let below = size_is-TypeOfAttribute g.row.N.Denot it.1 in
    (omega (arith, le, same, c.decreases, below), search rules)

pub walk_type-walk_variant-requires : goal.walk_type-walk_variant-requires
walk_type-walk_variant-requires g t c κs within =
    let below = variant_below g.row.N.Denot c.in-Variant.ty c.in-Variant.loc c.args.ty.now c.in-Variant.is in
    (omega (arith, below, c.decreases), search rules)

pub walk_variant-walk_type-requires : goal.walk_variant-walk_type-requires
walk_variant-walk_type-requires g t c κs within =
    let below = element_below g.row.N.Denot c.in-Set.element c.args.shape.now c.in-Set.is in
    let same = ap (size-Type g.row.N.Denot) c.get.ensures in
    (omega (arith, below, same, c.decreases), search rules)

pub walk_variant-walk_record-requires : goal.walk_variant-walk_record-requires
walk_variant-walk_record-requires g t c κs within =
    let below = record_below g.row.N.Denot c.in-Record.fields c.args.shape.now c.in-Record.is in
    (omega (arith, below, c.decreases), search rules)

pub walk_record-walk_entries-requires : goal.walk_record-walk_entries-requires
walk_record-walk_entries-requires g t c κs within =
    let below = entries_below g.row.N.Denot c.args.fields.now in
    let same = ap (λ (es : List (List ℕ × TypeOfAttribute g.row.N.Denot)). most (size-TypeOfAttribute g.row.N.Denot)
    (values_of es)) c.as_slice.ensures.entries in
    (omega (arith, below, same, c.decreases), search rules)

pub walk_entries-loop-attribute-preserved : goal.walk_entries-loop-attribute-preserved
walk_entries-loop-attribute-preserved g t c =
    let R = g.V.Visitor.takes c.args.ns.now in
    let it = c.loop-attribute-item.result in
    let s = c.loop-attribute.visitor in
    each_taken R (λ e. of_attribute itself e.1) c.args.entries.now c.loop-attribute.attribute-index it
    c.args.visitor.now s c.walk_type.new.visitor c.loop-attribute-test.true c.loop-attribute-item.is
    c.loop-attribute.invariant
    (subst (λ l. FoldsTo R s l c.walk_type.new.visitor) (sym (attribute_walked itself it.1))
    c.in_ok-walk_type.ensures.taken)

pub walk_entries-returns-in_err-walk_type-clause-refused : goal.walk_entries-returns-in_err-walk_type-clause-refused
walk_entries-returns-in_err-walk_type-clause-refused g t c =
    let R = g.V.Visitor.takes c.args.ns.now in
    let Q = g.V.Visitor.refuses c.args.ns.now in
    let it = c.loop-attribute-item.result in
    let s = c.loop-attribute.visitor in
    let e = c.in_err-walk_type.field-0.0 in
    handed _ c.from_residual.result e c.from_residual.ensures.1
    (each_stops R Q (λ e. of_attribute itself e.1) c.args.entries.now c.loop-attribute.attribute-index it
    c.args.visitor.now s e c.loop-attribute-test.true c.loop-attribute-item.is c.loop-attribute.invariant
    (subst (λ l. StopsAmong R Q s l e) (sym (attribute_walked itself it.1)) c.in_err-walk_type.ensures.refused))

pub walk_record-returns-in_err-meet_where-clause-refused : goal.walk_record-returns-in_err-meet_where-clause-refused
walk_record-returns-in_err-meet_where-clause-refused g t c =
    rw (record_walked itself c.args.fields.now)
    (err_front (g.V.Visitor.takes c.args.ns.now) (g.V.Visitor.refuses c.args.ns.now) _ _ c.from_residual.result
    c.args.visitor.now c.in_err-meet_where.field-0.0 c.from_residual.ensures.1 c.in_err-meet_where.ensures.refused)

pub walk_record-returns-clause-taken : goal.walk_record-returns-clause-taken
walk_record-returns-clause-taken g t c =
    rw (record_walked itself c.args.fields.now, ← c.as_slice.ensures.entries)
    (ok_then (g.V.Visitor.takes c.args.ns.now) (g.V.Visitor.refuses c.args.ns.now) _ _ c.walk_entries.result
    c.args.visitor.now c.meet_where.new.visitor c.walk_entries.new.visitor c.in_ok-meet_where.ensures.taken
    c.walk_entries.ensures.taken)

pub walk_record-returns-clause-refused : goal.walk_record-returns-clause-refused
walk_record-returns-clause-refused g t c =
    rw (record_walked itself c.args.fields.now, ← c.as_slice.ensures.entries)
    (err_behind (g.V.Visitor.takes c.args.ns.now) (g.V.Visitor.refuses c.args.ns.now) _ _ c.walk_entries.result
    c.args.visitor.now c.meet_where.new.visitor c.in_ok-meet_where.ensures.taken c.walk_entries.ensures.refused)

pub walk_variant-returns-in-Record-clause-taken : goal.walk_variant-returns-in-Record-clause-taken
walk_variant-returns-in-Record-clause-taken g t c =
    rw (c.in-Record.is, variant_walked itself c.in-Record.fields) c.walk_record.ensures.taken

pub walk_variant-returns-in-Record-clause-refused : goal.walk_variant-returns-in-Record-clause-refused
walk_variant-returns-in-Record-clause-refused g t c =
    rw (c.in-Record.is, variant_walked itself c.in-Record.fields) c.walk_record.ensures.refused

pub walk_entries-returns-clause-taken : goal.walk_entries-returns-clause-taken
walk_entries-returns-clause-taken g t c = grind (arith, common_steps)
