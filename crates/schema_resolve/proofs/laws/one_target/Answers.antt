use Rattle.cedar_identifiers.specs.Names.{components_of}
use Rattle.schema_resolve_targets.specs.Targets.{is_defined}
use Rattle.schema_resolve.proofs.First.{first_found, found_first, first_is_one}
use Rattle.schema_resolve.proofs.laws.one_target.Goals as goal

pub returns-clause-found : goal.returns-clause-found
returns-clause-found c = λ t r name. (
  found_first (λ p. is_defined t r.reference_type (components_of p)) r.possibilities name,
  first_found (λ p. is_defined t r.reference_type (components_of p)) r.possibilities name,
)

pub returns-clause-one : goal.returns-clause-one
returns-clause-one c = λ t r a b.
    first_is_one (λ p. is_defined t r.reference_type (components_of p)) r.possibilities a b
