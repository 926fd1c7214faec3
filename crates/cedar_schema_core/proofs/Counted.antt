-- A built schema has as many items as the meaning that it stands for.
use Rattle.std.proofs.Common.{◌≡◌, List, length, sym, ap, ◌∙◌}
use Rattle.std.proofs.lemmas.List.{length-map}
use Rattle.cedar_identifiers.specs.declared.name.Name.{Name}
use Rattle.cedar_names.specs.Meaning.{SchemaMeaning}
use Rattle.cedar_names.specs.declared.entity_uid.EntityUID.{EntityUID}
use Rattle.schema_build_types.specs.declared.entity_type.ValidatorEntityType.{ValidatorEntityType}
use Rattle.schema_build_types.specs.declared.action.ValidatorActionId.{ValidatorActionId}
use Rattle.schema_build_types.specs.Standing.{SchemaStandsFor}

module _ (entities : List (Name × ValidatorEntityType)) (actions : List (EntityUID × ValidatorActionId))
    (m : SchemaMeaning)
    (stands : SchemaStandsFor entities actions m) where
  pub entities_counted : length entities ≡ length m.entities
  entities_counted = sym (length-map entities _) ∙ ap (λ c. length c.entities) stands ∙ length-map m.entities _

  pub actions_counted : length actions ≡ length m.actions
  actions_counted = sym (length-map actions _) ∙ ap (λ c. length c.actions) stands ∙ length-map m.actions _
