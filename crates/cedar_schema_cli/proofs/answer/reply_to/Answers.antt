use Rattle.std.proofs.Common.{◌∙◌, ap, refl, sym, subst}
use Rattle.std.proofs.lemmas.Result.{IfOk-weaker}
use Rattle.cedar_runs.specs.Reports.{report_of}
use Rattle.cedar_runs.specs.Runs.{device}
use Rattle.cedar_schema_cli_words.specs.Readings.{reading_of, reading_of_fault}
use Rattle.cedar_schema_cli_inputs.proofs.Keeping.{keeps_all}
use Rattle.cedar_schema_cli.specs.Runs.{IsReportOn, wrong}
use Rattle.cedar_schema_cli.proofs.answer.reply_to.Goals as goal

pub returns-in-Wrong-clause-report : goal.returns-in-Wrong-clause-report
returns-in-Wrong-clause-report g c =
    let files = g.F.Files.files c.args.files.now in
    let source = device g.S.Source.left g.S.Source.faults c.args.source.now c.args.source.now in
    let fault = c.in-Wrong.fault in
    IfOk-weaker c.usage_reply.result _ _ (λ reply is.
    subst (λ reading. IsReportOn files files source reading (report_of reply))
    (ap reading_of (sym c.in-Wrong.is) ∙ c.in_ok-asked.ensures)
    (subst (IsReportOn files files source (reading_of_fault fault)) (sym is)
    (wrong fault refl (keeps_all files)))) c.usage_reply.ensures
