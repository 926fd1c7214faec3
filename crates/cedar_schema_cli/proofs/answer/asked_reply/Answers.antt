use Rattle.std.proofs.Common.{sym, subst, map, string_bytes}
use Rattle.std.proofs.lemmas.Result.{IfOk-weaker}
use Rattle.cedar_runs.specs.Reports.{report_of}
use Rattle.cedar_runs.specs.Runs.{device}
use Rattle.cedar_schema_cli_words.specs.Words.{asks}
use Rattle.cedar_schema_cli_inputs.specs.Inputs.{IsStandardGiven}
use Rattle.cedar_schema_cli_check.specs.Checks.{IsCheckReport}
use Rattle.cedar_schema_cli_format.specs.Formats.{IsFormatReport}
use Rattle.cedar_schema_cli.specs.Runs.{IsReportOn, check, format}
use Rattle.cedar_schema_cli.proofs.answer.asked_reply.Goals as goal

pub returns-in-Check-clause-report : goal.returns-in-Check-clause-report
returns-in-Check-clause-report g c =
    let old = g.F.Files.files c.args.files.now in
    let new = g.F.Files.files c.check_reply.new.files in
    let source = device g.S.Source.left g.S.Source.faults c.args.source.now c.read_standard.new.source in
    let asked = c.args.asked.now in
    let names = c.as_slice-names.ensures.value in
    let given = subst (λ items. IsStandardGiven (map string_bytes items) source c.in_ok-standard.standard) names
    c.in_ok-standard.ensures.given in
    IfOk-weaker c.check_reply.result _ _ (λ reply is.
    subst (λ command. IsReportOn old new source (asks command asked.options (map string_bytes asked.names.items))
    (report_of reply)) (sym c.in-Check.is)
    (check given (subst (λ items. IsCheckReport old c.in_ok-standard.standard asked.options (map string_bytes items)
    (report_of reply)) names is) c.check_reply.ensures.same)) c.check_reply.ensures.report

pub returns-clause-report : goal.returns-clause-report
returns-clause-report g c =
    let old = g.F.Files.files c.args.files.now in
    let new = g.F.Files.files c.format_reply.new.files in
    let source = device g.S.Source.left g.S.Source.faults c.args.source.now c.read_standard.new.source in
    let asked = c.args.asked.now in
    let names = c.as_slice-names.ensures.value in
    let given = subst (λ items. IsStandardGiven (map string_bytes items) source c.in_ok-standard.standard) names
    c.in_ok-standard.ensures.given in
    IfOk-weaker c.format_reply.result _ _ (λ reply is.
    subst (λ command. IsReportOn old new source (asks command asked.options (map string_bytes asked.names.items))
    (report_of reply)) (sym c.in-Format.is)
    (format given (subst (λ items. IsFormatReport old c.in_ok-standard.standard asked.options (map string_bytes items)
    new (report_of reply)) names is))) c.format_reply.ensures.report
