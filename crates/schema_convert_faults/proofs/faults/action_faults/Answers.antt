use Rattle.std.proofs.Common.{refl, ap, ◌∙◌, ◌++◌}
use Rattle.std.specs.Option.{option_to_list}
use Rattle.schema_convert_faults.specs.Faults.{action_fault, action_faults}
use Rattle.schema_convert_openings.proofs.Gathered.{consed, more_at, over_at}
use Rattle.schema_convert_faults.proofs.faults.action_faults.Goals as goal

pub loop-decl-preserved : goal.loop-decl-preserved
loop-decl-preserved c =
    more_at action_faults (λ d. option_to_list (action_fault d.item.node)) refl
    (λ x xs. consed (action_fault x.item.node) (action_faults xs)) _ _ c.args.decls.now c.loop-decl.decl-index
    c.decl-item.result _ c.loop-decl.invariant c.loop-decl-test.true c.decl-item.is
    (c.in_ok-push_fault.ensures ∙ ap (λ o. c.loop-decl.faults.items ++ option_to_list o) c.in_ok-fault.ensures)

pub returns : goal.returns
returns c = over_at action_faults (λ d. option_to_list (action_fault d.item.node)) refl
    (λ x xs. consed (action_fault x.item.node) (action_faults xs)) _ c.args.decls.now c.loop-decl.decl-index _
    c.loop-decl.invariant c.loop-decl-test.false
