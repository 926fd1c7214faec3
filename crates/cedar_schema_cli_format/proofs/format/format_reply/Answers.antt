use Rattle.std.proofs.lemmas.Result.{IfOk-weaker}
use Rattle.cedar_runs.specs.Reports.{report_of}
use Rattle.cedar_schema_cli_format.proofs.Carried.{carried_before}
use Rattle.cedar_schema_cli_format.proofs.format.format_reply.Goals as goal

pub returns-clause-report : goal.returns-clause-report
returns-clause-report g c =
    let all = c.in_ok-run.ensures.takes in
    let files = g.F.Files.files in
    IfOk-weaker c.carry_out.result _ _ (λ reply carried. record {
      plan = all.plan;
      planned = all.planned;
      carried = carried_before c.args.options.now all.plan (files c.args.files.now) (files c.take_all.new.files)
          (files c.carry_out.new.files) (report_of reply) c.take_all.ensures.same carried;
    }) (c.carry_out.ensures.report c.args.options.now all.plan all.has)
