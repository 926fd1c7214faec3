use Rattle.std.proofs.lemmas.Bool.{and_from}
use Rattle.schema_json.proofs.Erased.{bool_same, option_placeless}
use Rattle.schema_json.specs.declared.entity_type.EntityTypeKind.TheVariants.{Standard, Enum}
use Rattle.schema_json.proofs.placeless.declared_types_see_no_place.Goals as goal

pub returns-clause-common_types : goal.returns-clause-common_types
returns-clause-common_types g c a =
    and_from _ _ (c.types_see_no_place.ensures.types a.ty) (c.ordered.ensures.equivalence.refl a.annotations)

pub returns-clause-shapes : goal.returns-clause-shapes
returns-clause-shapes g c a = c.types_see_no_place.ensures.types a.0

pub returns-clause-standard : goal.returns-clause-standard
returns-clause-standard g c a =
    and_from _ _ (c.ordered-3.ensures.equivalence.refl a.member_of_types)
    (and_from _ _ (returns-clause-shapes g c a.shape) (option_placeless _ _ c.types_see_no_place.ensures.types a.tags))

pub returns-clause-kinds : goal.returns-clause-kinds
returns-clause-kinds g c (Standard a) = returns-clause-standard g c a
returns-clause-kinds g c (Enum choices) = c.ordered-2.ensures.equivalence.refl choices

pub returns-clause-entity_types : goal.returns-clause-entity_types
returns-clause-entity_types g c a =
    and_from _ _ (returns-clause-kinds g c a.kind)
    (and_from _ _ (bool_same a.external) (c.ordered.ensures.equivalence.refl a.annotations))
