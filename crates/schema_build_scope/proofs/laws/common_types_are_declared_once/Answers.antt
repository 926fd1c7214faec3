use Rattle.schema_build_scope.specs.FragmentScope.{fragment_scope}
use Rattle.schema_build_scope.proofs.Apart.{declared_once}
use Rattle.schema_build_scope.proofs.Found.{fragment_apart}
use Rattle.schema_build_scope.proofs.laws.common_types_are_declared_once.Goals as goal

pub returns : goal.returns
returns c =
    declared_once (fragment_scope c.args.fragment.now c.args.table.now)
    (fragment_apart c.args.fragment.now c.args.table.now)
