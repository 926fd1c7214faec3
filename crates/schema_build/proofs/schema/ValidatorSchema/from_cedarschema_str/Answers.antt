use Rattle.std.proofs.Common.{rules}
use Rattle.schema_build.proofs.schema.ValidatorSchema.from_cedarschema_str.Goals as goal

pub returns : goal.returns
returns c = search rules

pub returns-in-Err-Memory : goal.returns-in-Err-Memory
returns-in-Err-Memory c = search rules

pub returns-in-Ok : goal.returns-in-Ok
returns-in-Ok c = search rules

pub returns-in_err-fragment : goal.returns-in_err-fragment
returns-in_err-fragment c = search rules
