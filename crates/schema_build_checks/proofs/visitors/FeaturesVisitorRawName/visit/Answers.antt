use Rattle.schema_build_checks.proofs.visitors.FeaturesVisitorRawName.visit.Goals as goal

-- src/visitors.rt:62:5
pub returns-in-OpenRecord-clause-taken : goal.returns-in-OpenRecord-clause-taken
returns-in-OpenRecord-clause-taken c = tt
