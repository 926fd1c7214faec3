use Rattle.std.proofs.Common.{◌≡◌, [], arith, subst, All}
use Rattle.std.proofs.lemmas.List.{take_all}
use Rattle.std.proofs.lemmas.List.Elements.{All-more}
use Rattle.schema_build_types.specs.Content.{action_content}
use Rattle.schema_build_types.specs.Lacks.{context_lacks}
use Rattle.schema_build_recovered.proofs.whole.actions_are_whole.Goals as goal

pub loop-entry-preserved : goal.loop-entry-preserved
loop-entry-preserved c =
    All-more (λ a. context_lacks (action_content a).context
    ≡ []) c.args.actions.now c.loop-entry.entry-index c.entry-item.result
    c.loop-entry-test.true c.loop-entry.invariant
    (subst (λ a. context_lacks (action_content a).context ≡ []) c.entry-item.is
    (c.is_whole_action.ensures c.if-not-is_whole_action.false))

pub returns : goal.returns
returns c h =
    subst (All (λ a. context_lacks (action_content a).context ≡ []))
    (take_all c.loop-entry.entry-index c.args.actions.now
    (omega (arith, c.loop-entry-test.false))) c.loop-entry.invariant
