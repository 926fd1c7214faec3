use Rattle.std.proofs.Common.{◌∙◌}
use Rattle.schema_build_recovered.proofs.sets.EntityUIDRecover.recovered.Goals as goal

pub returns : goal.returns
returns c = record {
  written = c.in_ok-ty.ty;
  type_is = c.with_type.ensures.ty;
  type_name = c.in_ok-ty.ensures;
  id = c.with_type.ensures.id ∙ c.in_ok-id.ensures;
}
