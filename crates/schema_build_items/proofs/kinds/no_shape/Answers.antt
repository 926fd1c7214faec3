use Rattle.std.proofs.Common.{ap}
use Rattle.std.proofs.lemmas.Result.{IfOk-weaker}
use Rattle.schema_build_errors.specs.declared.shape_errors.ContextOrShape.TheVariants.{EntityTypeShape}
use Rattle.schema_build_items.specs.NoRecord.{IsShapeError}
use Rattle.schema_build_items.proofs.kinds.no_shape.Goals as goal

pub returns : goal.returns
returns c =
    IfOk-weaker c.new.result _ (IsShapeError c.args.name.now)
    (λ told same. (
      record { ctx_or_shape = EntityTypeShape c.in_ok-clone_in.field-0 },
      same,
      ap EntityTypeShape c.in_ok-clone_in.ensures,
    )) c.new.ensures
