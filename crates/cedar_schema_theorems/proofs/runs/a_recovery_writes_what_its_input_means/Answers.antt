use Rattle.cedar_schema_theorems.proofs.runs.a_recovery_writes_what_its_input_means.Goals as goal

pub returns : goal.returns
returns g c = c.run_tool.ensures.headline
