use Rattle.std.proofs.Common.{ap}
use Rattle.schema_resolve_definitions.specs.Tests.{tests_of}
use Rattle.schema_resolve_targets.proofs.gather.gather_undefined_alone.Goals as goal

pub returns-clause-types : goal.returns-clause-types
returns-clause-types c = rw (← (ap tests_of c.in_ok-defs.ensures)) c.gather_undefined.ensures.types

pub returns-clause-actions : goal.returns-clause-actions
returns-clause-actions c = rw (← (ap tests_of c.in_ok-defs.ensures)) c.gather_undefined.ensures.actions
