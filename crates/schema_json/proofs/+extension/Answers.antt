use Rattle.std.proofs.Common.{rules, arith, List, ℕ, ◌≡◌, ap, sym, ◌∙◌, get_or, Some, None}
use Rattle.std.specs.Map.{values_of}
use denote.Param.Weighed.{most}
use Rattle.cedar_data.proofs.Sizes.{most_at}
use Rattle.schema_json.specs.declared.types.TypeOfAttribute.{TypeOfAttribute, size-TypeOfAttribute}
use Rattle.schema_json.specs.declared.types.TypeOfAttribute.{size_is-TypeOfAttribute}
use Rattle.schema_json.proofs.Depths.{variant_below, element_below, entries_in_variant}
use Rattle.schema_json.specs.declared.types.Type.{size-Type}
use Rattle.schema_json.proofs.Walks.{answers_step, variant_answered, either_more, one_answer}
use Rattle.schema_json.proofs.+extension.Goals as goal

pub extension::is_extension_among-is_extension-requires :
    goal.extension::is_extension_among-is_extension-requires
extension::is_extension_among-is_extension-requires g t c κs within =
    let size = size-TypeOfAttribute g.row.N.Denot in
    let it = c.loop-attribute-item.result in
    let le = most_at size c.args.entries.now c.loop-attribute.attribute-index it c.loop-attribute-test.true in
    let same : size it.1 ≡ size (get_or c.args.entries.now c.loop-attribute.attribute-index it).1 = ap (λ p. size p.1)
    c.loop-attribute-item.is in
    let below = size_is-TypeOfAttribute g.row.N.Denot it.1 in
    (omega (arith, le, same, c.decreases, below), search rules)

pub extension::is_extension_among-returns-in_err-found :
    goal.extension::is_extension_among-returns-in_err-found
extension::is_extension_among-returns-in_err-found g t c =
    let step = answers_step g.row.N.Denot c.args.entries.now c.loop-attribute.attribute-index
    c.loop-attribute-item.result c.loop-attribute-test.true c.loop-attribute-item.is in
    c.from_residual.ensures ∙ (one_answer c.loop-attribute.found None _ _ _ c.in_err-found.ensures step
    ∙ c.loop-attribute.invariant)

pub extension::is_extension_among-loop-attribute-preserved :
    goal.extension::is_extension_among-loop-attribute-preserved
extension::is_extension_among-loop-attribute-preserved g t c =
    let step = answers_step g.row.N.Denot c.args.entries.now c.loop-attribute.attribute-index
    c.loop-attribute-item.result c.loop-attribute-test.true c.loop-attribute-item.is in
    sym (either_more c.loop-attribute.found c.in_ok-found.field-0 _)
    ∙ (one_answer c.loop-attribute.found (Some c.in_ok-found.field-0) _ _ _ c.in_ok-found.ensures step
    ∙ c.loop-attribute.invariant)

pub types::TypeVariant::is_extension-returns-in-Record : goal.types::TypeVariant::is_extension-returns-in-Record
types::TypeVariant::is_extension-returns-in-Record g t c =
    rw (c.in-Record.is, variant_answered g.row.N.Denot c.in-Record.record, ← c.as_slice.ensures.entries)
    c.is_extension_among.ensures

pub types::Type::is_extension-is_extension-requires : goal.types::Type::is_extension-is_extension-requires
types::Type::is_extension-is_extension-requires g t c κs within =
    (omega (arith, variant_below g.row.N.Denot c.in-Variant.ty c.in-Variant.loc c.args.self.now c.in-Variant.is, c.decreases), search rules)

pub types::TypeVariant::is_extension-is_extension-requires : goal.types::TypeVariant::is_extension-is_extension-requires
types::TypeVariant::is_extension-is_extension-requires g t c κs within =
    let size = size-Type g.row.N.Denot in
    let below = element_below g.row.N.Denot c.in-Set.element c.args.self.now c.in-Set.is in
    let same : size c.get.result.now ≡ size c.in-Set.element = ap size c.get.ensures in
    (omega (arith, below, same, c.decreases), search rules)

pub types::TypeVariant::is_extension-is_extension_among-requires : goal.types::TypeVariant::is_extension-is_extension_among-requires
types::TypeVariant::is_extension-is_extension_among-requires g t c κs within =
    let below = entries_in_variant g.row.N.Denot c.in-Record.record c.args.self.now c.in-Record.is in
    let same = ap (λ (es : List (List ℕ × TypeOfAttribute g.row.N.Denot)). most (size-TypeOfAttribute g.row.N.Denot)
    (values_of es)) c.as_slice.ensures.entries in
    (omega (arith, below, same, c.decreases), search rules)
