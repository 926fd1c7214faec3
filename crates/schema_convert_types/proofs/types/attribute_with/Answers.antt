use Rattle.schema_convert_types.proofs.TypeSteps.{attribute_made}
use Rattle.schema_convert_types.proofs.types.attribute_with.Goals as goal

pub returns : goal.returns
returns c = λ made. attribute_made c.args.attribute.now c.args.ty _ _ made c.in_ok-annotations.ensures
    c.in_ok-name.ensures
