use Rattle.std.proofs.Common.{rules, arith, ◌≡◌, ap, sym, ◌∙◌, get_or, refl, subst, None, IfOk}
use Rattle.std.specs.List.{AllZip}
use Rattle.std.proofs.lemmas.Result.{IfOk-weaker}
use Rattle.std.proofs.lemmas.List.{take_all}
use Rattle.cedar_data.proofs.Sizes.{most_at}
use Rattle.schema_json.specs.declared.types.Type.{Variant}
use Rattle.schema_build_types.specs.declared.types.Type.{size-Type}
use Rattle.schema_build_types.specs.declared.types.Type.TheVariants as built
use Rattle.schema_build_types.specs.Content.{type_content, attributes_content, names_content}
use Rattle.schema_build_types.specs.Content as said
use Rattle.schema_build_types.specs.Lacks.{type_lacks, attribute_lacks}
use Rattle.schema_build_text.specs.Readings.{plain_type}
use Rattle.schema_build_recovered_types.specs.RecoveredTypes.{IsRecoveredType}
use Rattle.schema_build_recovered_types.proofs.Rows.{zip_more, rows_recovered, row_keys, lacks_at, lacks_more, IsRow}
use Rattle.schema_build_recovered_types.proofs.Rows.{all_whole}
use Rattle.schema_build_recovered_types.proofs.Lacking.{refused}
use Rattle.schema_build_recovered_types.proofs.Variants.{bool_is, bool_whole, long_is, long_whole, string_is}
use Rattle.schema_build_recovered_types.proofs.Variants.{string_whole}
use Rattle.schema_build_recovered_types.proofs.Variants.{set_is, set_whole, unknown_lacking}
use Rattle.schema_build_recovered_types.proofs.Variants.{open_lacking, entity_is, extension_is}
use Rattle.schema_build_recovered_types.proofs.types.+recover.Goals as goal

pub recovered_variant-returns-in-AnyBool-clause-recovered : goal.recovered_variant-returns-in-AnyBool-clause-recovered
recovered_variant-returns-in-AnyBool-clause-recovered t c = bool_is c.args.ty.now c.in-AnyBool.is

pub recovered_variant-returns-in-AnyBool-clause-whole : goal.recovered_variant-returns-in-AnyBool-clause-whole
recovered_variant-returns-in-AnyBool-clause-whole t c = bool_whole c.args.ty.now c.in-AnyBool.is

pub recovered_variant-returns-in-Long-clause-recovered : goal.recovered_variant-returns-in-Long-clause-recovered
recovered_variant-returns-in-Long-clause-recovered t c = long_is c.args.ty.now c.in-Long.is

pub recovered_variant-returns-in-Long-clause-whole : goal.recovered_variant-returns-in-Long-clause-whole
recovered_variant-returns-in-Long-clause-whole t c = long_whole c.args.ty.now c.in-Long.is

pub recovered_variant-returns-in-String-clause-recovered : goal.recovered_variant-returns-in-String-clause-recovered
recovered_variant-returns-in-String-clause-recovered t c = string_is c.args.ty.now c.in-String.is

pub recovered_variant-returns-in-String-clause-whole : goal.recovered_variant-returns-in-String-clause-whole
recovered_variant-returns-in-String-clause-whole t c = string_whole c.args.ty.now c.in-String.is

pub recovered_variant-returns-in_ok-new-in-Some-clause-recovered :
    goal.recovered_variant-returns-in_ok-new-in-Some-clause-recovered
recovered_variant-returns-in_ok-new-in-Some-clause-recovered t c =
    rw c.in_ok-new-in-Some.ensures (set_is c.args.ty.now c.in-Some.element c.in_ok-element-in-Some.element
    (c.in-Set.is ∙ ap built.Set c.in-Some.is)
    (subst (λ e. IsRecoveredType (plain_type (type_content e)) c.in_ok-element-in-Some.element) c.get.ensures
    c.in_ok-element-in-Some.ensures.recovered))

pub recovered_variant-returns-in_ok-new-in-Some-clause-whole :
    goal.recovered_variant-returns-in_ok-new-in-Some-clause-whole
recovered_variant-returns-in_ok-new-in-Some-clause-whole t c =
    set_whole c.args.ty.now c.in-Some.element (c.in-Set.is ∙ ap built.Set c.in-Some.is)
    (ap (λ e. type_lacks (type_content e)) (sym c.get.ensures) ∙ c.in_ok-element-in-Some.ensures.whole)

pub recovered_variant-returns-in-None-clause-lack : goal.recovered_variant-returns-in-None-clause-lack
recovered_variant-returns-in-None-clause-lack t c =
    unknown_lacking c.args.ty.now (c.in-Set.is ∙ ap built.Set c.in-None.is)

pub recovered_variant-returns-then-more-clause-lack : goal.recovered_variant-returns-then-more-clause-lack
recovered_variant-returns-then-more-clause-lack t c =
    open_lacking c.args.ty.now c.in-Record.attrs c.in-Record.more c.in-Record.is c.if-more.true

pub recovered_attributes-loop-name-preserved : goal.recovered_attributes-loop-name-preserved
recovered_attributes-loop-name-preserved t c = (
  rw c.in_ok-push.ensures.items (zip_more IsRow c.args.entries.now c.loop-name.attributes.items c.loop-name.name-index
      c.loop-name-item.result _ c.loop-name-test.true c.loop-name-item.is c.loop-name.invariant.0
      (c.in_ok-name.ensures, c.in_ok-ty.ensures.recovered, c.new-annotations.ensures, refl)),
  lacks_more c.args.entries.now c.loop-name.name-index c.loop-name-item.result c.loop-name-test.true
      c.loop-name-item.is c.loop-name.invariant.1 c.in_ok-ty.ensures.whole,
)

pub recovered_attributes-recovered_type-requires : goal.recovered_attributes-recovered_type-requires
recovered_attributes-recovered_type-requires t c =
    let it = c.loop-name-item.result in
    let le = most_at (λ p. size-Type p.0) c.args.entries.now c.loop-name.name-index it c.loop-name-test.true in
    let same : size-Type it.1.0 ≡ size-Type (get_or c.args.entries.now c.loop-name.name-index it).1.0 = ap
    (λ p. size-Type p.1.0) c.loop-name-item.is in
    (omega (arith, le, same, c.decreases), search rules)

pub recovered_attributes-returns-in_err-ty-clause-lack : goal.recovered_attributes-returns-in_err-ty-clause-lack
recovered_attributes-returns-in_err-ty-clause-lack t c =
    refused (attribute_lacks (attributes_content c.args.entries.now)) c.from_residual-in_err-ty.result
    c.in_err-ty.field-0.0 c.from_residual-in_err-ty.ensures.1
    (lacks_at c.args.entries.now c.loop-name.name-index c.loop-name-item.result c.in_err-ty.field-0.0
    c.loop-name-test.true c.loop-name-item.is c.loop-name.invariant.1 c.in_err-ty.ensures.lack)

pub recovered_attributes-returns-clause-recovered : goal.recovered_attributes-returns-clause-recovered
recovered_attributes-returns-clause-recovered t c =
    rows_recovered c.args.entries.now c.loop-name.attributes.items
    (subst (λ es. AllZip IsRow es c.loop-name.attributes.items)
    (take_all c.loop-name.name-index c.args.entries.now (omega (arith, c.loop-name-test.false)))
    c.loop-name.invariant.0)

pub recovered_attributes-returns-clause-keys : goal.recovered_attributes-returns-clause-keys
recovered_attributes-returns-clause-keys t c =
    row_keys c.args.entries.now c.loop-name.attributes.items
    (subst (λ es. AllZip IsRow es c.loop-name.attributes.items)
    (take_all c.loop-name.name-index c.args.entries.now (omega (arith, c.loop-name-test.false)))
    c.loop-name.invariant.0)

pub recovered_attributes-returns-clause-whole : goal.recovered_attributes-returns-clause-whole
recovered_attributes-returns-clause-whole t c =
    all_whole c.args.entries.now c.loop-name.name-index (omega (arith, c.loop-name-test.false)) c.loop-name.invariant.1

pub recovered_variant-returns-in-Entity-clause-recovered : goal.recovered_variant-returns-in-Entity-clause-recovered
recovered_variant-returns-in-Entity-clause-recovered t c =
    IfOk-weaker c.recovered_entity.result _ _
    (λ x h. entity_is c.args.ty.now c.in-Entity.names x c.in-Entity.is h)
    (subst (λ ns. IfOk c.recovered_entity.result (λ x. IsRecoveredType (plain_type (said.Entity (names_content ns)))
    (Variant x None))) c.get-in-Entity.ensures c.recovered_entity.ensures.recovered)

pub recovered_variant-returns-in_ok-clone_in-in-Extension-clause-recovered :
    goal.recovered_variant-returns-in_ok-clone_in-in-Extension-clause-recovered
recovered_variant-returns-in_ok-clone_in-in-Extension-clause-recovered t c =
    extension_is c.args.ty.now c.in-Extension.name c.in_ok-clone_in-in-Extension.field-0 c.in-Extension.is
    c.in_ok-clone_in-in-Extension.ensures
