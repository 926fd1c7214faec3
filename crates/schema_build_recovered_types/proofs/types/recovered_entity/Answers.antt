use Rattle.std.proofs.Common.{[], refl, sym, ap, subst}
use Rattle.schema_build_types.specs.Content as said
use Rattle.schema_build_types.specs.Lacks.{type_lacks}
use Rattle.schema_build_text.specs.Readings.{first_name}
use Rattle.schema_build_recovered_types.specs.RecoveredTypes.{IsWritten}
use Rattle.schema_build_recovered_types.proofs.types.recovered_entity.Goals as goal

pub returns-in_ok-type_name-in-Some-clause-recovered : goal.returns-in_ok-type_name-in-Some-clause-recovered
returns-in_ok-type_name-in-Some-clause-recovered c = (
  c.in_ok-type_name-in-Some.type_name,
  refl,
  subst (λ n. IsWritten n c.in_ok-type_name-in-Some.type_name) (sym (ap first_name c.in-Some.ensures))
      c.in_ok-type_name-in-Some.ensures,
)

pub returns-in_ok-type_name-in-Some-clause-whole : goal.returns-in_ok-type_name-in-Some-clause-whole
returns-in_ok-type_name-in-Some-clause-whole c = ap (λ ns. type_lacks (said.Entity ns)) c.in-Some.ensures

pub returns-in-None-clause-lack : goal.returns-in-None-clause-lack
returns-in-None-clause-lack c = ([], ap (λ ns. type_lacks (said.Entity ns)) c.in-None.ensures.3)
