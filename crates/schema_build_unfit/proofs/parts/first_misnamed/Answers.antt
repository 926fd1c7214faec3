use Rattle.cedar_identifiers.specs.Names.{components_of}
use Rattle.cedar_names.specs.CanonicalText.{basename}
use Rattle.std.proofs.Common.{codes}
use Rattle.schema_build_unfit.specs.Parts.{IsMisnamed}
use Rattle.schema_build_unfit.proofs.Misnamed.{differs, first_at}
use Rattle.schema_build_unfit.proofs.parts.first_misnamed.Goals as goal

pub returns-then-not-is_action_type : goal.returns-then-not-is_action_type
returns-then-not-is_action_type c =
    let a = c.loop-uid-item.result in (
      a.1,
      first_at IsMisnamed c.args.actions.now c.loop-uid.uid-index a c.loop-uid-test.true c.loop-uid-item.is
          c.loop-uid.invariant
          (differs (basename (components_of a.0.ty.name)) (codes "Action") c.is_action_type.result
          c.is_action_type.ensures c.if-not-is_action_type.true),
    )
