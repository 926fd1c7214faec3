use Rattle.schema_resolve_definitions.specs.Tests.{tests_of}
use Rattle.schema_build_hierarchy.proofs.ParentsDeclared.{actions_declared}
use Rattle.schema_build_hierarchy.proofs.laws.action_parents_are_declared.Goals as goal

pub returns : goal.returns
returns g c = actions_declared c.args.fragment.now g.table (tests_of c.args.defs.now) c.requires
