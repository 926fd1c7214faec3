use Rattle.cedar_schema_core_faults.proofs.told.push_help.Goals as goal

pub returns-in_ok-around-in-Some : goal.returns-in_ok-around-in-Some
returns-in_ok-around-in-Some c = rw (c.in-Some.is, ← c.in_ok-around-in-Some.ensures) c.push_text.ensures.ok
