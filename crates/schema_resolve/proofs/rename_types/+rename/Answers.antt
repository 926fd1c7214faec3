use Rattle.std.proofs.Common.{◌≡◌, ◌∷◌, List, ℕ, ◌++◌, [], ap, sym, ◌∙◌, get_or, rules, arith}
use Rattle.std.specs.Map.{values_of}
use denote.Param.Weighed.{most}
use Rattle.cedar_data.specs.Entries.{on_value, keys_on_values}
use Rattle.cedar_data.proofs.Sizes.{most_at}
use Rattle.schema_json.specs.declared.types.TypeOfAttribute.{size-TypeOfAttribute}
use Rattle.schema_json.proofs.Depths.{variant_below, element_below, record_below, entries_below, type_below}
use Rattle.schema_json.specs.declared.types.Type.{size-Type}
use Rattle.schema_json.specs.declared.types.TypeOfAttribute.{TypeOfAttribute}
use Rattle.schema_json.specs.declared.types.Type.TheVariants.{Variant}
use Rattle.schema_json.specs.declared.types.TypeVariant.TheVariants.{Record}
use Rattle.schema_json_walk.specs.Walk.{of_attribute, of_record, of_entries}
use Rattle.schema_json_walk.proofs.Layers.{variant_walked}
use Rattle.schema_resolve_targets.specs.ReferenceParts.{by_reference}
use Rattle.schema_resolve.specs.Renamed.{renamed_attribute}
use Rattle.schema_resolve.proofs.Lists.{each_more, each_first, map_more, refused}
use Rattle.schema_resolve.proofs.Equations.{record_renamed, record_renamed_at}
use Rattle.schema_resolve.proofs.Told.{record_told}
use Rattle.schema_resolve.proofs.rename_types.+rename.Goals as goal

pub rename_entries-rename_attribute-requires : goal.rename_entries-rename_attribute-requires
rename_entries-rename_attribute-requires g t c κs within =
    let size = size-TypeOfAttribute g.row.N.Denot in
    let it = c.loop-name-item.result in
    let le = most_at size c.args.entries.now c.loop-name.name-index it c.loop-name-test.true in
    let same : size it.1 ≡ size (get_or c.args.entries.now c.loop-name.name-index it).1 = ap (λ p. size p.1)
    c.loop-name-item.is in
    (omega (arith, le, same, c.decreases), search rules)

pub rename_entries-loop-name-preserved : goal.rename_entries-loop-name-preserved
rename_entries-loop-name-preserved g t c =
    let f = g.R.Renamer.becomes c.args.renamer.now in
    let u = by_reference (g.R.Renamer.untargeted c.args.renamer.now) in
    let es = c.args.entries.now in
    let i = c.loop-name.name-index in
    let it = c.loop-name-item.result in
    record {
      out = c.in_ok-push.ensures.items
          ∙ (λ k. c.loop-name.invariant.out k ++ (c.in_ok-name.ensures k, c.in_ok-attribute.ensures.out k) ∷ [])
          ∙ sym (map_more (on_value (renamed_attribute f)) es i it c.loop-name-test.true c.loop-name-item.is);
      defined = each_more (λ e. of_attribute u e.1) es i it c.loop-name-test.true c.loop-name-item.is
          c.loop-name.invariant.defined c.in_ok-attribute.ensures.defined;
    }

pub rename_entries-returns-in_err-attribute-clause-err : goal.rename_entries-returns-in_err-attribute-clause-err
rename_entries-returns-in_err-attribute-clause-err g t c =
    let u = by_reference (g.R.Renamer.untargeted c.args.renamer.now) in
    let es = c.args.entries.now in
    refused c.from_residual-in_err-attribute.result c.in_err-attribute.field-0.0 (of_entries u es)
    c.from_residual-in_err-attribute.ensures.1
    (each_first (λ e. of_attribute u e.1) es c.loop-name.name-index c.loop-name-item.result
    c.in_err-attribute.field-0.0 c.loop-name-test.true c.loop-name-item.is c.loop-name.invariant.defined
    c.in_err-attribute.ensures.err)

pub rename_record-returns-in_err-rename_entries-clause-err : goal.rename_record-returns-in_err-rename_entries-clause-err
rename_record-returns-in_err-rename_entries-clause-err g t c =
    let u = by_reference (g.R.Renamer.untargeted c.args.renamer.now) in
    let e = c.in_err-rename_entries.field-0.0 in
    refused c.from_residual.result e (of_record u c.args.fields.now) c.from_residual.ensures.1
    (rw (record_told (g.R.Renamer.untargeted c.args.renamer.now) c.args.fields.now, ← c.as_slice.ensures.entries)
    c.in_err-rename_entries.ensures.err)

pub rename_record-from_sorted_vec-requires : goal.rename_record-from_sorted_vec-requires
rename_record-from_sorted_vec-requires g t c =
    rw (
      c.in_ok-rename_entries.ensures.out,
      keys_on_values
          (renamed_attribute (g.R.Renamer.becomes c.args.renamer.now)) c.as_slice.result.now,
      c.as_slice.ensures.entries,
    )
    c.as_slice.ensures.sorted

pub rename_record-returns-clause-out : goal.rename_record-returns-clause-out
rename_record-returns-clause-out g t c =
    rw (
      c.from_sorted_vec.ensures,
      c.in_ok-rename_entries.ensures.out,
      c.as_slice.ensures.entries,
      record_renamed
          (g.R.Renamer.becomes c.args.renamer.now) c.args.fields.now,
    )

pub rename_record-returns-clause-defined : goal.rename_record-returns-clause-defined
rename_record-returns-clause-defined g t c =
    rw (record_told (g.R.Renamer.untargeted c.args.renamer.now) c.args.fields.now, ← c.as_slice.ensures.entries)
    c.in_ok-rename_entries.ensures.defined

pub rename_at-returns-in_ok-fields-in-Record-clause-out : goal.rename_at-returns-in_ok-fields-in-Record-clause-out
rename_at-returns-in_ok-fields-in-Record-clause-out g t c =
    rw (c.in-Record.is, record_renamed_at (g.R.Renamer.becomes c.args.renamer.now) c.in-Record.fields c.args.loc)
    (c.placed-in-Record.ensures ∙ ap (λ r. Variant (Record r) c.args.loc) c.in_ok-fields-in-Record.ensures.out)

pub rename_at-returns-in_ok-fields-in-Record-clause-defined :
    goal.rename_at-returns-in_ok-fields-in-Record-clause-defined
rename_at-returns-in_ok-fields-in-Record-clause-defined g t c =
    rw (c.in-Record.is, variant_walked (by_reference (g.R.Renamer.untargeted c.args.renamer.now)) c.in-Record.fields)
    c.in_ok-fields-in-Record.ensures.defined

pub attribute_type-reference_or_at-requires : goal.attribute_type-reference_or_at-requires
attribute_type-reference_or_at-requires g t c κs within =
    let below = variant_below g.row.N.Denot c.in-Variant.ty c.in-Variant.loc c.args.ty.now c.in-Variant.is in
    (omega (arith, below, c.decreases), search rules)

pub attribute_type-rename_type-requires : goal.attribute_type-rename_type-requires
attribute_type-rename_type-requires g t c κs within = (omega (arith, c.decreases), search rules)

pub reference_or_at-rename_at-requires : goal.reference_or_at-rename_at-requires
reference_or_at-rename_at-requires g t c κs within = (omega (arith, c.decreases), search rules)

pub rename_at-rename_type-requires : goal.rename_at-rename_type-requires
rename_at-rename_type-requires g t c κs within =
    let below = element_below g.row.N.Denot c.in-Set.element c.args.shape.now c.in-Set.is in
    let same = ap (size-Type g.row.N.Denot) c.get.ensures in
    (omega (arith, below, same, c.decreases), search rules)

pub rename_at-rename_record-requires : goal.rename_at-rename_record-requires
rename_at-rename_record-requires g t c κs within =
    let below = record_below g.row.N.Denot c.in-Record.fields c.args.shape.now c.in-Record.is in
    (omega (arith, below, c.decreases), search rules)

pub rename_attribute-attribute_type-requires : goal.rename_attribute-attribute_type-requires
rename_attribute-attribute_type-requires g t c κs within =
    let below = type_below g.row.N.Denot c.args.attribute.now in
    (omega (arith, below, c.decreases), search rules)

pub rename_record-rename_entries-requires : goal.rename_record-rename_entries-requires
rename_record-rename_entries-requires g t c κs within =
    let below = entries_below g.row.N.Denot c.args.fields.now in
    let same = ap (λ (es : List (List ℕ × TypeOfAttribute g.row.N.Denot)). most (size-TypeOfAttribute g.row.N.Denot)
    (values_of es)) c.as_slice.ensures.entries in
    (omega (arith, below, same, c.decreases), search rules)

pub rename_type-rename_at-requires : goal.rename_type-rename_at-requires
rename_type-rename_at-requires g t c κs within =
    let below = variant_below g.row.N.Denot c.in-Variant.ty c.in-Variant.loc c.args.ty.now c.in-Variant.is in
    (omega (arith, below, c.decreases), search rules)
