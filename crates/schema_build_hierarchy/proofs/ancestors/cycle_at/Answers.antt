use Rattle.std.proofs.Common.{ap}
use Rattle.std.proofs.lemmas.Result.{IfOk-weaker}
use Rattle.schema_build_checks.specs.DeclaredAt.{at_of}
use Rattle.schema_build_hierarchy.specs.Rows.{IsCycleOf}
use Rattle.schema_build_hierarchy.proofs.ancestors.cycle_at.Goals as goal

pub returns : goal.returns
returns c =
    IfOk-weaker c.new.result _ (IsCycleOf (at_of c.args.uid.now))
    (λ told same. (record { uid = c.in_ok-uid.uid }, same, ap at_of c.in_ok-uid.ensures)) c.new.ensures
