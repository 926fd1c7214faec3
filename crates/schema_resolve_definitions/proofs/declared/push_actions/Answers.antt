use Rattle.cedar_identifiers.specs.Names.{components_of}
use Rattle.cedar_names.specs.Definitions.{action_of}
use Rattle.schema_resolve_definitions.specs.Declarations.{action_type}
use Rattle.schema_resolve_definitions.proofs.Sets.{next_pushed, all_pushed}
use Rattle.schema_resolve_definitions.proofs.declared.push_actions.Goals as goal

pub loop-id-preserved : goal.loop-id-preserved
loop-id-preserved c =
    next_pushed action_of (λ e. (components_of (action_type c.args.ns.now), e.0)) c.args.actions.now
    c.loop-id.id-index c.loop-id-item.result c.args.names.now.items c.loop-id.names.items _ c.in_ok-action.field-0
    c.loop-id-test.true c.loop-id-item.is c.loop-id.invariant c.in_ok-push.ensures.items (c.in_ok-action.ensures)

pub returns : goal.returns
returns c = all_pushed action_of (λ e. (components_of (action_type c.args.ns.now), e.0)) c.args.actions.now
    c.loop-id.id-index c.args.names.now.items c.loop-id.names.items c.loop-id-test.false c.loop-id.invariant
