use Rattle.std.proofs.Common.{arith, ◌+◌, drop, Some, None, ◌∙◌, sym, ap, subst}
use Rattle.std.specs.Option.{option_map}
use Rattle.std.specs.declared.cmp.Ordering.TheVariants.{Greater}
use Rattle.std.proofs.lemmas.Result.{IfOk-weaker}
use Rattle.schema_inclusion_values.specs.Seen.{value_of, entries_value}
use Rattle.schema_inclusion_values.specs.Values.{Rec}
use Rattle.schema_inclusion_types.specs.Kinds.{plain_attrs, kind_type}
use Rattle.schema_inclusion_check.specs.Raw.{raw_meaning}
use Rattle.schema_inclusion_reasons.specs.FirstMisfit.{misfit, named_misfit, behind_name, required_or}
use Rattle.schema_inclusion_reasons.specs.FirstReason.{has_id}
use Rattle.schema_inclusion_explain.specs.Walks.{with_attribute, Goes}
use Rattle.schema_inclusion_explain.proofs.Walks.{record_stands, attribute_step, ended, compared, goes_along}
use Rattle.schema_inclusion_explain.proofs.misfits.+misfit.Goals as goal

pub kind_misfit-returns-in-Rec : goal.kind_misfit-returns-in-Rec
kind_misfit-returns-in-Rec t c =
    let f = misfit (has_id (raw_meaning c.args.schema.now.entities.now c.args.schema.now.actions.now))
    (kind_type c.args.kind.now) in
    IfOk-weaker c.record_misfit.result _ _
    (λ r e. e ∙ (ap (λ es. f (Rec (entries_value es))) c.as_slice-in-Rec.ensures
    ∙ ap f (sym (ap value_of c.in-Rec.is ∙ record_stands c.in-Rec.entries))))
    c.record_misfit.ensures

pub named_misfit-returns-in-Some : goal.named_misfit-returns-in-Some
named_misfit-returns-in-Some t c =
    let h = has_id (raw_meaning c.args.schema.now.entities.now c.args.schema.now.actions.now) in
    let xs = c.args.attrs.now in
    let es = c.args.entries.now in
    let l = c.loop-attr in
    let d = c.attr-item.result in
    let fs = plain_attrs (drop (l.attr-index + 1) xs) in
    let all = named_misfit h (with_attribute d fs) (entries_value (drop l.next es)) in
    let rest = named_misfit h fs (entries_value (drop c.in_ok-place.place es)) in
    let goes : Goes all rest (Some c.in-Some.found) =
    subst (λ o. Goes all rest o) c.in-Some.is (c.in_ok-place.ensures.value fs) in
    sym (ap (option_map behind_name) (l.invariant.rest
    ∙ attribute_step h xs l.attr-index d l.next es c.loop-attr-test.true c.attr-item.is) ∙ goes)

pub named_misfit-loop-attr-preserved : goal.named_misfit-loop-attr-preserved
named_misfit-loop-attr-preserved t c =
    let h = has_id (raw_meaning c.args.schema.now.entities.now c.args.schema.now.actions.now) in
    let xs = c.args.attrs.now in
    let es = c.args.entries.now in
    let l = c.loop-attr in
    let d = c.attr-item.result in
    let fs = plain_attrs (drop (l.attr-index + 1) xs) in
    let all = named_misfit h (with_attribute d fs) (entries_value (drop l.next es)) in
    let rest = named_misfit h fs (entries_value (drop c.in_ok-place.place es)) in
    let goes : Goes all rest None = subst (λ o. Goes all rest o) c.in_default.is (c.in_ok-place.ensures.value fs) in
    record {
      within = c.in_ok-place.ensures.place;
      rest = l.invariant.rest
          ∙ (attribute_step h xs l.attr-index d l.next es c.loop-attr-test.true c.attr-item.is ∙ goes);
    }

pub step-returns-then-next-entries-clause-value : goal.step-returns-then-next-entries-clause-value
step-returns-then-next-entries-clause-value t c =
    let h = has_id (raw_meaning c.args.schema.now.entities.now c.args.schema.now.actions.now) in
    let a = c.args.attr.now in
    let es = c.args.entries.now in
    let next = c.args.next in
    IfOk-weaker c.absent.result _ _
    (λ r e fs.
    let later = named_misfit h fs (entries_value (drop next es)) in
    goes_along h es (named_misfit h (with_attribute a fs) (entries_value (drop next es)))
    (required_or a.1.1 a.0 later) (named_misfit h fs (entries_value (drop r.0 es))) r.1
    (ended h es next a fs (omega arith))
    (subst (λ k. Goes (required_or a.1.1 a.0 later) (named_misfit h fs (entries_value (drop k es))) r.1)
    (sym e.0) (e.1 later)))
    c.absent.ensures.value

pub step-returns-in-Greater-clause-value : goal.step-returns-in-Greater-clause-value
step-returns-in-Greater-clause-value t c =
    let h = has_id (raw_meaning c.args.schema.now.entities.now c.args.schema.now.actions.now) in
    let a = c.args.attr.now in
    let es = c.args.entries.now in
    let next = c.args.next in
    let d = c.index-entries-next.result in
    IfOk-weaker c.absent-in-Greater.result _ _
    (λ r e fs.
    let later = named_misfit h fs (entries_value (drop next es)) in
    goes_along h es (named_misfit h (with_attribute a fs) (entries_value (drop next es)))
    (required_or a.1.1 a.0 later) (named_misfit h fs (entries_value (drop r.0 es))) r.1
    (compared h es next d a fs (omega arith) c.index-entries-next.is Greater
    (sym c.cmp.ensures ∙ c.in-Greater.is))
    (subst (λ k. Goes (required_or a.1.1 a.0 later) (named_misfit h fs (entries_value (drop k es))) r.1)
    (sym e.0) (e.1 later)))
    c.absent-in-Greater.ensures.value
