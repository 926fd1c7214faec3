use Rattle.std.proofs.Common.{Some, None, subst}
use Rattle.schema_inclusion_values.specs.Seen.{schema_value}
use Rattle.schema_inclusion_check.specs.Subjects.{subject}
use Rattle.schema_inclusion_texts.specs.Inclusions.{IsInclusionAnswer, IsInclusionRefusal, value_found}
use Rattle.schema_inclusion.specs.Plans.{IsTextsReport, compared, old_refused, new_refused, done_report, refused_report}
use Rattle.schema_inclusion.proofs.Plans.{so}
use Rattle.schema_inclusion.proofs.run.texts_reply.Goals as goal

pub returns-in-Ok-Yes : goal.returns-in-Ok-Yes
returns-in-Ok-Yes c =
    let old = c.args.old.now in
    let new = c.args.new.now in
    let table = c.args.table.now in
    so (IsTextsReport table old new) c.included_reply.result (done_report None)
    (compared None (subst (λ a. IsInclusionAnswer old new table (value_found a)) c.in-Ok-Yes.field-0-is
    c.in-Ok-Yes.ensures)) c.included_reply.ensures

pub returns-in-Ok-No : goal.returns-in-Ok-No
returns-in-Ok-No c =
    let old = c.args.old.now in
    let new = c.args.new.now in
    let table = c.args.table.now in
    let found = schema_value c.in-Ok-No.value in
    so (IsTextsReport table old new) c.lost_reply.result (done_report (Some (subject found)))
    (compared (Some found) (subst (λ a. IsInclusionAnswer old new table (value_found a)) c.in-Ok-No.field-0-is
    c.in-Ok-No.ensures)) c.lost_reply.ensures

pub returns-in-Err-Old : goal.returns-in-Err-Old
returns-in-Err-Old c =
    let old = c.args.old.now in
    let new = c.args.new.now in
    let table = c.args.table.now in
    let error = c.in-Err-Old.error in
    let why = subst (IsInclusionRefusal old new table) c.in-Err-Old.field-0-is c.in-Err-Old.ensures in
    so (IsTextsReport table old new) c.refused_reply.result (refused_report error)
    (old_refused error why.0 why.1) c.refused_reply.ensures

pub returns-in-Err-New : goal.returns-in-Err-New
returns-in-Err-New c =
    let old = c.args.old.now in
    let new = c.args.new.now in
    let table = c.args.table.now in
    let error = c.in-Err-New.error in
    let why = subst (IsInclusionRefusal old new table) c.in-Err-New.field-0-is c.in-Err-New.ensures in
    so (IsTextsReport table old new) c.refused_reply-in-Err-New.result (refused_report error)
    (new_refused error why.0 why.1 why.2) c.refused_reply-in-Err-New.ensures
