use Rattle.std.proofs.Common.{inl, inr, arith}
use Rattle.std.proofs.lemmas.Result.{IfOk-weaker}
use Rattle.cedar_runs.specs.Reports.{report_of, too_long_report}
use Rattle.cedar_schema_c.specs.Answers.{IsTwoInputsReport, too_long}
use Rattle.cedar_schema_c.proofs.Said.{so}
use Rattle.cedar_schema_c.proofs.two_texts.reply_of_two.Goals as goal

pub returns-then-first-gt-MAX_INPUT : goal.returns-then-first-gt-MAX_INPUT
returns-then-first-gt-MAX_INPUT g c =
    so (IsTwoInputsReport g.T.TwoTexts.answers c.args.first.now c.args.second.now) c.too_long.result too_long_report
    (record {
      table = c.in_ok-table.table;
      standard = c.in_ok-table.ensures;
      says = too_long (inl (omega (arith, c.if-first-gt-MAX_INPUT.true)));
    }) c.too_long.ensures

pub returns-then-second-gt-MAX_INPUT : goal.returns-then-second-gt-MAX_INPUT
returns-then-second-gt-MAX_INPUT g c =
    so (IsTwoInputsReport g.T.TwoTexts.answers c.args.first.now c.args.second.now) c.too_long-then-second-gt-MAX_INPUT.result too_long_report
    (record {
      table = c.in_ok-table.table;
      standard = c.in_ok-table.ensures;
      says = too_long (inr (omega (arith, c.if-second-gt-MAX_INPUT.true)));
    }) c.too_long-then-second-gt-MAX_INPUT.ensures

pub returns : goal.returns
returns g c =
    IfOk-weaker c.reply_of_both.result _ _ (λ reply h.
    record { table = c.in_ok-table.table; standard = c.in_ok-table.ensures; says = h }) c.reply_of_both.ensures
