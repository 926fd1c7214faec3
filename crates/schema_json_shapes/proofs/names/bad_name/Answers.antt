use Rattle.std.proofs.Common.{inl, inr}
use Rattle.schema_json_shapes.specs.declared.shape_fault.ShapeFault.TheVariants.{BadName}
use Rattle.schema_json_shapes.specs.Walk.{kind_of}
use Rattle.schema_json_shapes.proofs.names.bad_name.Goals as goal

pub returns-in-Ok : goal.returns-in-Ok
returns-in-Ok c = inr (inl (record {
  cause = c.args.fault;
  told = λ i. BadName (c.in-Ok.ensures.0 i) (c.in-Ok.ensures.1 i) c.args.fault;
  is_cause = c.requires;
  no_want = c.in_default.not-Memory;
  no_name = λ n. c.in_default.not-Memory
      (c.one_reading.ensures.no_fault (kind_of c.args.role) n.0 c.args.fault n.1 c.requires);
}))
