use Rattle.std.proofs.Common.{length, ap, ◌∙◌}
use Rattle.std.proofs.lemmas.Result.{err_from_is_err_and}
use Rattle.cedar_schema_core.proofs.Counted.{entities_counted, actions_counted}
use Rattle.cedar_schema_core.proofs.Refusals.{unparsed_invalid, unbuilt_invalid, unprinted_invalid}
use Rattle.cedar_schema_core.proofs.recover.recover_schema.Goals as goal

pub returns-in_err-fragment-clause-invalid : goal.returns-in_err-fragment-clause-invalid
returns-in_err-fragment-clause-invalid c =
    let p = err_from_is_err_and c.from_residual.result c.from_residual.ensures.1 in
    rw (p.1, p.2) (unparsed_invalid c.one_translation.ensures c.refused_or_translated.ensures
    c.one_fragment_meaning.ensures c.args.text.now c.args.table.now c.in_err-fragment.field-0.0
    c.in_err-fragment.ensures.refused)

pub returns-in_err-schema-clause-invalid : goal.returns-in_err-schema-clause-invalid
returns-in_err-schema-clause-invalid c =
    let p = err_from_is_err_and c.from_residual-in_err-schema.result c.from_residual-in_err-schema.ensures.1 in
    let f = c.in_ok-fragment.fragment in
    let w = c.in_ok-fragment.warnings.items in
    rw (p.1, p.2) (unbuilt_invalid c.one_translation.ensures c.refused_or_translated.ensures
    c.one_fragment_meaning.ensures c.args.text.now c.args.table.now f w c.in_ok-fragment.ensures.parsed
    c.in_err-schema.field-0.0 c.in_err-schema.ensures.refused)

pub returns-in_err-text-clause-invalid : goal.returns-in_err-text-clause-invalid
returns-in_err-text-clause-invalid c =
    let p = err_from_is_err_and c.from_residual-in_err-text.result c.from_residual-in_err-text.ensures.1 in
    let f = c.in_ok-fragment.fragment in
    let w = c.in_ok-fragment.warnings.items in
    let built = c.in_ok-schema.ensures.built in
    rw (p.1, p.2) (unprinted_invalid c.one_translation.ensures c.refused_or_translated.ensures
    c.one_fragment_meaning.ensures c.args.text.now c.args.table.now f w c.in_ok-fragment.ensures.parsed built.0
    built.1 c.in_err-text.field-0.0 (c.in_err-text.ensures.refused built.0 built.2))

pub returns-clause-recovered : goal.returns-clause-recovered
returns-clause-recovered c =
    let f = c.in_ok-fragment.fragment in
    let w = c.in_ok-fragment.warnings.items in
    let built = c.in_ok-schema.ensures.built in
    let schema = c.in_ok-schema.schema in
    record {
      meaning = built.0;
      means = record {
        fragment = f;
        translated = (w, c.in_ok-fragment.ensures.parsed);
        faultless = c.in_ok-schema.ensures.faultless;
        means = built.1;
        uncaptured = c.in_ok-text.ensures.uncaptured built.0 built.2;
      };
      canonical = c.in_ok-text.ensures.text built.0 built.2;
      warns = (f, c.in_ok-fragment.ensures.parsed);
      entity_types = ap length c.entity_types.ensures.entries
          ∙ entities_counted schema.entity_types schema.actions built.0 built.2;
      actions = ap length c.actions.ensures.entries
          ∙ actions_counted schema.entity_types schema.actions built.0 built.2;
    }
