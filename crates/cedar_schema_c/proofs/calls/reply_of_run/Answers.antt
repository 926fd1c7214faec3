use Rattle.std.proofs.Common.{[], ap, ◌∙◌, subst, map}
use Rattle.std.specs.String.{string_bytes}
use Rattle.std.proofs.lemmas.Result.{IfOk-weaker}
use Rattle.cedar_runs.specs.Reports.{report_of}
use Rattle.cedar_schema_core.specs.Plan.{IsPlan}
use Rattle.cedar_schema_c.specs.Answers.{texts, no_texts}
use Rattle.cedar_schema_c.proofs.NoWords.{none_asked}
use Rattle.cedar_schema_c.proofs.calls.reply_of_run.Goals as goal

pub returns-in-Some : goal.returns-in-Some
returns-in-Some c =
    let found = rw c.in-Some.is at c.in_ok-texts.ensures in
    IfOk-weaker c.reply_of_words.result _ _
    (λ reply h. texts found.0 (subst (λ ws. IsPlan ws c.args.bytes.now (report_of reply))
    (ap (map string_bytes) c.deref.ensures.value ∙ found.1) h)) c.reply_of_words.ensures

pub returns-in-None : goal.returns-in-None
returns-in-None c =
    let none = rw c.in-None.is at c.in_ok-texts.ensures in
    IfOk-weaker c.usage_reply.result _ _ (λ reply h. no_texts none h)
    (c.usage_reply.ensures [] c.args.bytes.now none_asked)
