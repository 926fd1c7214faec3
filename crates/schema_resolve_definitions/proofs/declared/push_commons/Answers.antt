use Rattle.std.proofs.Common.{ap}
use Rattle.cedar_identifiers.specs.Names.{components_of}
use Rattle.schema_resolve_definitions.specs.Declarations.{declared_name}
use Rattle.schema_resolve_definitions.proofs.Sets.{next_pushed, all_pushed}
use Rattle.schema_resolve_definitions.proofs.declared.push_commons.Goals as goal

pub loop-id-preserved : goal.loop-id-preserved
loop-id-preserved c =
    next_pushed components_of (λ e. components_of (declared_name c.args.ns.now e.0.id.id)) c.args.commons.now
    c.loop-id.id-index c.loop-id-item.result c.args.names.now.items c.loop-id.names.items _
    c.in_ok-declared_name.field-0 c.loop-id-test.true c.loop-id-item.is c.loop-id.invariant c.in_ok-push.ensures.items
    (ap components_of c.in_ok-declared_name.ensures)

pub returns : goal.returns
returns c = all_pushed components_of (λ e. components_of (declared_name c.args.ns.now e.0.id.id)) c.args.commons.now
    c.loop-id.id-index c.args.names.now.items c.loop-id.names.items c.loop-id-test.false c.loop-id.invariant
