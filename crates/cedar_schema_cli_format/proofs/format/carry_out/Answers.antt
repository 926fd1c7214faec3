use Rattle.std.proofs.Common.{◌∙◌, ◌<◌, ap, refl, subst, length, map}
use Rattle.std.specs.Str.{encode_utf8_all}
use Rattle.std.proofs.lemmas.Str.{encodes-chars, IsUtf8-string_bytes}
use Rattle.cedar_runs.specs.Reports.{report_of}
use Rattle.cedar_schema_cli_inputs.proofs.Keeping.{keeps_all}
use Rattle.cedar_schema_cli_sheets.specs.Sheets.{sheet_text}
use Rattle.cedar_schema_cli_format.specs.Formatting.{replacement_of}
use Rattle.cedar_schema_cli_format.specs.Replacing.{AreReplaced}
use Rattle.cedar_schema_cli_format.specs.Stopping.{IsStoppedAt}
use Rattle.cedar_schema_cli_format.proofs.Carried.{carried_whole, carried_stopped}
use Rattle.cedar_schema_cli_format.proofs.Outcomes.{in_any_case}
use Rattle.cedar_schema_cli_format.proofs.format.carry_out.Goals as goal

pub returns-in_err-err-clause-same : goal.returns-in_err-err-clause-same
returns-in_err-err-clause-same g c =
    in_any_case c.from_residual.result _ (keeps_all (g.F.Files.files c.args.files.now))

pub stopped_reply-requires : goal.stopped_reply-requires
stopped_reply-requires g c =
    subst (λ changes. c.in-Some.at < length changes) c.deref.ensures.value c.in-Some.ensures.within

pub returns-in-Some-clause-report : goal.returns-in-Some-clause-report
returns-in-Some-clause-report g c = λ options plan has.
    let old = g.F.Files.files c.args.files.now in
    let new = g.F.Files.files c.replace_all.new.files in
    let stop = subst (λ changes. IsStoppedAt old changes new c.in-Some.at) c.deref.ensures.value c.in-Some.ensures in
    carried_stopped options plan c.args.run old new c.in-Some.at (report_of c.stopped_reply.result) has stop
    (c.stopped_reply.ensures stop.change stop.here)

pub returns-in-None-clause-report : goal.returns-in-None-clause-report
returns-in-None-clause-report g c = λ options plan has.
    let old = g.F.Files.files c.args.files.now in
    let new = g.F.Files.files c.replace_all.new.files in
    let replaced = subst (λ changes. AreReplaced old (map replacement_of changes) new) c.deref.ensures.value
    c.in-None.ensures in
    let out = ap encode_utf8_all c.from_string.ensures ∙ encodes-chars _ (IsUtf8-string_bytes c.args.run.out) in
    let err = ap encode_utf8_all c.from_string-in-None.ensures ∙ (encodes-chars _ (IsUtf8-string_bytes c.in_ok-err.err)
    ∙ (c.in_ok-err.ensures plan.items has.items ∙ λ i. sheet_text (has.form i) (has.all i) plan.items)) in
    carried_whole options plan c.args.run old new _ has replaced refl out err
