use Rattle.std.proofs.Common.{subst}
use Rattle.std.proofs.lemmas.Result.{IfOk-weaker}
use Rattle.cedar_runs.specs.Reports.{report_of, not_text_report}
use Rattle.cedar_schema_c.specs.Answers.{IsTwoTextsReport, not_text, answered}
use Rattle.cedar_schema_c.proofs.Said.{so}
use Rattle.cedar_schema_c.proofs.two_texts.reply_of_both.Goals as goal

pub returns-in_default : goal.returns-in_default
returns-in_default g c =
    so (IsTwoTextsReport (g.T.TwoTexts.answers c.args.table.now) c.args.first.now c.args.second.now) c.not_text.result
    not_text_report (not_text c.requires.first c.requires.second (λ u w. c.in_default.ensures.cases.0 u))
    c.not_text.ensures

pub returns-in_default-from_utf8 : goal.returns-in_default-from_utf8
returns-in_default-from_utf8 g c =
    so (IsTwoTextsReport (g.T.TwoTexts.answers c.args.table.now) c.args.first.now c.args.second.now)
    c.not_text-in_default-from_utf8.result not_text_report
    (not_text c.requires.first c.requires.second (λ u w. c.in_default-from_utf8.ensures.cases.0 w))
    c.not_text-in_default-from_utf8.ensures

pub returns : goal.returns
returns g c =
    IfOk-weaker c.reply.result _ _ (λ reply h.
    answered c.requires.first c.requires.second c.in-Ok.ensures.cases.1 c.in-Ok-from_utf8.ensures.cases.1
    (subst (λ t. g.T.TwoTexts.answers c.args.table.now t c.args.second.now (report_of reply)) c.in-Ok.ensures.cases.0
    (subst (λ t. g.T.TwoTexts.answers c.args.table.now c.in-Ok.one.now t (report_of reply)) c.in-Ok-from_utf8.ensures.cases.0
    h))) c.reply.ensures
