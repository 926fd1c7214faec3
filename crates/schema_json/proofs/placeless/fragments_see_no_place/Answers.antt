use Rattle.std.proofs.lemmas.Bool.{and_from}
use Rattle.schema_json.proofs.Erased.{bool_same, option_placeless, entries_placeless}
use Rattle.schema_json.specs.Places.{erased_common_type, erased_entity_type, erased_action_type, erased_namespace}
use Rattle.schema_json.specs.contracts.common_type.CommonTypePartialEq.TheImpl as common_type
use Rattle.schema_json.specs.contracts.entity_type.EntityTypePartialEq.TheImpl as entity_type
use Rattle.schema_json.specs.contracts.action_type.ActionTypePartialEq.TheImpl as action_type
use Rattle.schema_json.specs.contracts.fragment.NamespaceDefinitionPartialEq.TheImpl as namespace
use Rattle.schema_json.proofs.placeless.fragments_see_no_place.Goals as goal

pub returns-clause-applies_to : goal.returns-clause-applies_to
returns-clause-applies_to g c a =
    and_from _ _ (c.ordered-2.ensures.equivalence.refl a.resource_types)
    (and_from _ _ (c.ordered-2.ensures.equivalence.refl a.principal_types)
    (c.declared_types_see_no_place.ensures.shapes a.context))

pub returns-clause-action_types : goal.returns-clause-action_types
returns-clause-action_types g c a =
    and_from _ _ (c.ordered-3.ensures.equivalence.refl a.attributes)
    (and_from _ _ (option_placeless _ _ (returns-clause-applies_to g c) a.applies_to)
    (and_from _ _ (c.ordered-4.ensures.equivalence.refl a.member_of)
    (and_from _ _ (bool_same a.external) (c.ordered.ensures.equivalence.refl a.annotations))))

pub returns-clause-namespaces : goal.returns-clause-namespaces
returns-clause-namespaces g c a =
    let common = entries_placeless (common_type.ghosts g.row.N g.N.PartialEq g.N.PartialEq-dict).eq erased_common_type
    c.ordered-6.ensures.equivalence c.declared_types_see_no_place.ensures.common_types a.common_types in
    let entities = entries_placeless (entity_type.ghosts g.row.N g.N.PartialEq g.N.PartialEq-dict).eq
    erased_entity_type c.ordered-7.ensures.equivalence c.declared_types_see_no_place.ensures.entity_types
    a.entity_types in
    let actions = entries_placeless
    (action_type.ghosts g.row.N g.N.NameText g.N.NameText-dict g.N.PartialEq g.N.PartialEq-dict).eq erased_action_type
    c.ordered-5.ensures.equivalence (returns-clause-action_types g c) a.actions in
    and_from _ _ common (and_from _ _ entities
    (and_from _ _ actions (c.ordered.ensures.equivalence.refl a.annotations)))

pub returns-clause-fragments : goal.returns-clause-fragments
returns-clause-fragments g c a =
    entries_placeless (namespace.ghosts g.row.N g.N.NameText g.N.NameText-dict g.N.PartialEq g.N.PartialEq-dict).eq
    erased_namespace c.ordered-8.ensures.equivalence (returns-clause-namespaces g c) a.0
