use Rattle.std.proofs.Common.{[], subst}
use Rattle.schema_build_types.specs.Lacks as lack
use Rattle.schema_build_recovered_types.specs.FirstLacks.{IsFirstLack}
use Rattle.schema_build_recovered.proofs.NoLack.{none_first}
use Rattle.schema_build_recovered.proofs.text.refusal.Goals as goal

pub returns-in-UnknownElement-clause-named : goal.returns-in-UnknownElement-clause-named
returns-in-UnknownElement-clause-named c lacks h = subst (IsFirstLack lacks) c.in-UnknownElement.is h

pub returns-in-UnknownElement-clause-memory : goal.returns-in-UnknownElement-clause-memory
returns-in-UnknownElement-clause-memory c h =
    let first = subst (IsFirstLack []) c.in-UnknownElement.is h in
    absurd (none_first lack.UnknownElement first.0 first.1)

pub returns-in-JoinedEntities-clause-named : goal.returns-in-JoinedEntities-clause-named
returns-in-JoinedEntities-clause-named c lacks h = subst (IsFirstLack lacks) c.in-JoinedEntities.is h

pub returns-in-JoinedEntities-clause-memory : goal.returns-in-JoinedEntities-clause-memory
returns-in-JoinedEntities-clause-memory c h =
    let first = subst (IsFirstLack []) c.in-JoinedEntities.is h in
    absurd (none_first lack.JoinedEntities first.0 first.1)

pub returns-in-Unsupported-clause-named : goal.returns-in-Unsupported-clause-named
returns-in-Unsupported-clause-named c lacks h = subst (IsFirstLack lacks) c.in-Unsupported.is h

pub returns-in-Unsupported-clause-memory : goal.returns-in-Unsupported-clause-memory
returns-in-Unsupported-clause-memory c h =
    let first = subst (IsFirstLack []) c.in-Unsupported.is h in
    absurd (none_first lack.Unsupported first.0 first.1)
