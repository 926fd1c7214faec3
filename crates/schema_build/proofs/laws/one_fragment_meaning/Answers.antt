use Rattle.schema_build_scope.specs.FragmentScope.{fragment_scope}
use Rattle.schema_build.proofs.Meanings.{one_meaning}
use Rattle.schema_build.proofs.laws.one_fragment_meaning.Goals as goal

pub returns : goal.returns
returns c f table m n first second =
    one_meaning f table (c.types_stand_for_one.ensures (fragment_scope f table) first.once) m n first second
