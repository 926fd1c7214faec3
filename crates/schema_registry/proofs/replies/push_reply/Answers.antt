use Rattle.std.proofs.Common.{◌++◌, ap, sym, ◌∙◌, subst}
use Rattle.std.specs.Prelude.{codes}
use Rattle.std.proofs.lemmas.Result.{on_ok_weaker}
use Rattle.cedar_schema_core.specs.Meanings.{TextMeaning, IsValid}
use Rattle.schema_registry.specs.Replies.{entry_line}
use Rattle.schema_registry.specs.Submissions.{IsNoted, not_text, refused, entered}
use Rattle.schema_registry.proofs.replies.push_reply.Goals as goal

pub returns-in_default : goal.returns-in_default
returns-in_default c =
    on_ok_weaker c.push_text.result (λ e. (
      codes "not text",
      not_text c.in_default.ensures.cases.0,
      e ∙ ap (λ t. c.args.out.now ++ t) c.in_ok-message.ensures,
    )) c.push_text.ensures.ok

pub returns-in-Ok-submit : goal.returns-in-Ok-submit
returns-in-Ok-submit c =
    let old = c.args.registry.now in
    let h = c.in-Ok-submit.ensures.entered in
    let means = subst (λ t. TextMeaning t old.table h.0) c.in-Ok.ensures.cases.0 h.1 in
    on_ok_weaker c.push_entry.result (λ e. (
      entry_line c.in-Ok-submit.id,
      entered c.in-Ok.ensures.cases.1 h.0 means c.in-Ok-submit.id c.submit.new.self c.submit.ensures.table h.2,
      e,
    )) c.push_entry.ensures

pub returns-in_ok-message-in-Err-Refused : goal.returns-in_ok-message-in-Err-Refused
returns-in_ok-message-in-Err-Refused c =
    let old = c.args.registry.now in
    let why = rw c.in-Err-Refused.field-0-is at c.in-Err-Refused.ensures.refused in
    let invalid = subst (λ t. IsValid t old.table → ⊥) c.in-Ok.ensures.cases.0 why.2 in
    on_ok_weaker c.push_text-in-Err-Refused.result (λ e. (
      codes "refused",
      subst (λ r. IsNoted old c.args.message.now r (codes "refused")) (sym c.in-Err-Refused.ensures.unchanged)
          (refused c.in-Ok.ensures.cases.1 invalid),
      e ∙ ap (λ t. c.args.out.now ++ t) c.in_ok-message-in-Err-Refused.ensures,
    )) c.push_text-in-Err-Refused.ensures.ok
