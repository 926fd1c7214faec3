use Rattle.std.proofs.Common.{rules, ◌≡◌}
use Rattle.schema_build_errors.specs.declared.schema_error.SchemaError.TheVariants.{Memory}
use Rattle.schema_build_parts.specs.BuildFaults.{BuildFault}
use Rattle.cedar_schema_core.proofs.Unbuilt.{no_memory}
use Rattle.cedar_schema_core.proofs.recover.build.Goals as goal

pub returns-in-Err : goal.returns-in-Err
returns-in-Err c =
    let other : c.in-Err.error ≡ Memory → ⊥ = search rules in
    record {
      built = tt;
      faultless = tt;
      refused = no_memory (BuildFault c.args.fragment c.args.table.now) c.in-Err.error c.in-Err.ensures.fault other;
    }
