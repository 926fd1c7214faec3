use Rattle.std.proofs.Common.{map}
use Rattle.cedar_identifiers.specs.Names.{components_of}
use Rattle.cedar_names.specs.CanonicalText.{namespace}
use Rattle.cedar_names.specs.Definitions.{same_name}
use Rattle.schema_build_types.specs.Content.{entity_content}
use Rattle.schema_build_types.specs.Lacks.{entity_lacks}
use Rattle.schema_build_text.specs.Readings.{entity_reading}
use Rattle.schema_build_recovered.specs.Places.{words_of}
use Rattle.schema_build_recovered.specs.Recovered.{IsRecoveredEntity}
use Rattle.schema_build_recovered.proofs.Gathered.{IsGathered}
use Rattle.schema_build_recovered.proofs.namespaces.recovered_entity_types.Given as goal

abbrev pub invariant-loop-at : goal.invariant-loop-at
invariant-loop-at l =
    IsGathered (λ e. same_name (words_of l.home.words) (namespace (components_of e.0.name)))
    (λ e. entity_reading (entity_content e)) IsRecoveredEntity (λ e. entity_lacks (entity_content e))
    (map (λ x. x.now) l.entities.items) l.at l.rows.items
