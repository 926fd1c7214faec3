use Rattle.std.proofs.Common.{length, ap, ◌∙◌}
use Rattle.std.specs.Str.{encode_utf8_all}
use Rattle.std.proofs.lemmas.Result.{err_from_is_err_and}
use Rattle.cedar_schema_core.proofs.Canonical.{json_kept}
use Rattle.cedar_schema_core.proofs.Counted.{entities_counted, actions_counted}
use Rattle.cedar_schema_core.proofs.JsonRefusals.{unread, unbuilt_json, unprinted_json}
use Rattle.cedar_schema_core.proofs.json_texts.recover_json.Goals as goal

pub returns-in_err-fragment-clause-invalid : goal.returns-in_err-fragment-clause-invalid
returns-in_err-fragment-clause-invalid c =
    let p = err_from_is_err_and c.from_residual.result c.from_residual.ensures.1 in
    let e = c.in_err-fragment.field-0.0 in
    rw (p.1, p.2) (c.one_json_reading.ensures.invalid c.args.form c.args.text.now c.args.table.now e
    (unread c.args.form c.args.text.now c.args.table.now e c.in_err-fragment.ensures.refused))

pub returns-in_err-schema-clause-invalid : goal.returns-in_err-schema-clause-invalid
returns-in_err-schema-clause-invalid c =
    let p = err_from_is_err_and c.from_residual-in_err-schema.result c.from_residual-in_err-schema.ensures.1 in
    let e = c.in_err-schema.field-0.0 in
    rw (p.1, p.2) (c.one_json_reading.ensures.invalid c.args.form c.args.text.now c.args.table.now e
    (unbuilt_json c.args.form c.args.text.now c.args.table.now c.in_ok-fragment.fragment c.in_ok-fragment.ensures.said e
    c.in_err-schema.ensures.refused))

pub returns-in_err-text-clause-invalid : goal.returns-in_err-text-clause-invalid
returns-in_err-text-clause-invalid c =
    let p = err_from_is_err_and c.from_residual-in_err-text.result c.from_residual-in_err-text.ensures.1 in
    let e = c.in_err-text.field-0.0 in
    let built = c.in_ok-schema.ensures.built in
    rw (p.1, p.2) (c.one_json_reading.ensures.invalid c.args.form c.args.text.now c.args.table.now e
    (unprinted_json c.args.form c.args.text.now c.args.table.now c.in_ok-fragment.fragment c.in_ok-fragment.ensures.said
    c.in_ok-schema.ensures.faultless built.0 built.1 e (c.in_err-text.ensures.refused built.0 built.2)))

pub returns-clause-recovered : goal.returns-clause-recovered
returns-clause-recovered c =
    let built = c.in_ok-schema.ensures.built in
    let schema = c.in_ok-schema.schema in
    record {
      meaning = built.0;
      means = record {
        fragment = c.in_ok-fragment.fragment;
        says = c.in_ok-fragment.ensures.said;
        faultless = c.in_ok-schema.ensures.faultless;
        means = built.1;
        uncaptured = c.in_ok-text.ensures.uncaptured built.0 built.2;
      };
      canonical = c.in_ok-text.ensures.text built.0 built.2;
      no_warnings = c.new.ensures.items;
      entity_types = ap length c.entity_types.ensures.entries
          ∙ entities_counted schema.entity_types schema.actions built.0 built.2;
      actions = ap length c.actions.ensures.entries
          ∙ actions_counted schema.entity_types schema.actions built.0 built.2;
    }

pub returns-clause-keeps : goal.returns-clause-keeps
returns-clause-keeps c = λ n k.
    let built = c.in_ok-schema.ensures.built in
    json_kept c.one_json_reading.ensures.meaning c.texts_of_json_mean_the_same.ensures c.args.form
    c.args.text.now c.args.table.now built.0 n (encode_utf8_all c.in_ok-text.text)
    (c.in_ok-text.ensures.text built.0 built.2)
    (record {
      fragment = c.in_ok-fragment.fragment;
      says = c.in_ok-fragment.ensures.said;
      faultless = c.in_ok-schema.ensures.faultless;
      means = built.1;
      uncaptured = c.in_ok-text.ensures.uncaptured built.0 built.2;
    }) k
