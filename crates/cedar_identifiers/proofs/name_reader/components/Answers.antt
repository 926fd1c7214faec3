use Rattle.std.proofs.lemmas.Result.{err_from_is_err_and}
use Rattle.cedar_identifiers.proofs.Components.{component_more, component_refused}
use Rattle.cedar_identifiers.proofs.name_reader.components.Goals as goal

pub loop-word-preserved : goal.loop-word-preserved
loop-word-preserved c =
    component_more c.args.kind c.loop-word.ids.items _ c.in_ok-component.field-0 c.in-Some.word _ _ c.args.words.items
    c.loop-word.invariant c.in-Some.ensures.steps.0 c.in_ok-push.ensures.items
    c.in_ok-component.ensures.0 c.in_ok-component.ensures.1

pub returns-in_err-component-clause-err : goal.returns-in_err-component-clause-err
returns-in_err-component-clause-err c =
    let p = err_from_is_err_and c.from_residual.result c.from_residual.ensures.1 in
    rw (p.1, p.2, c.in_err-component.ensures.0)
    (component_refused c.args.kind c.loop-word.ids.items c.in-Some.word _ _ c.args.words.items c.loop-word.invariant
    c.in-Some.ensures.steps.0 c.in_err-component.ensures.1)
