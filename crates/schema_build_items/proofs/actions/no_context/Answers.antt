use Rattle.std.proofs.Common.{ap}
use Rattle.std.proofs.lemmas.Result.{IfOk-weaker}
use Rattle.schema_build_errors.specs.declared.shape_errors.ContextOrShape.TheVariants.{ActionContext}
use Rattle.schema_build_items.specs.NoRecord.{IsContextError}
use Rattle.schema_build_items.proofs.actions.no_context.Goals as goal

pub returns : goal.returns
returns c =
    IfOk-weaker c.new.result _ (IsContextError c.args.uid.now)
    (λ told same. (
      record { ctx_or_shape = ActionContext c.in_ok-clone_in.field-0 },
      same,
      ap ActionContext c.in_ok-clone_in.ensures,
    )) c.new.ensures
