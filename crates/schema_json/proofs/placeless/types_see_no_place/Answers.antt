use Rattle.schema_json.proofs.Erased.{type_placeless, variant_placeless, record_placeless, attribute_placeless}
use Rattle.schema_json.proofs.placeless.types_see_no_place.Goals as goal

pub returns-clause-types : goal.returns-clause-types
returns-clause-types g c = type_placeless g.row.N g.N.PartialEq g.N.PartialEq-dict
    (record { laws = g.met.N.PartialEq.laws }) g.met.N.Eq.laws.refl c.ordered.ensures.equivalence.refl
    c.ordered-2.ensures.equivalence.refl

pub returns-clause-shapes : goal.returns-clause-shapes
returns-clause-shapes g c = variant_placeless g.row.N g.N.PartialEq g.N.PartialEq-dict
    (record { laws = g.met.N.PartialEq.laws }) g.met.N.Eq.laws.refl c.ordered.ensures.equivalence.refl
    c.ordered-2.ensures.equivalence.refl

pub returns-clause-records : goal.returns-clause-records
returns-clause-records g c = record_placeless g.row.N g.N.PartialEq g.N.PartialEq-dict
    (record { laws = g.met.N.PartialEq.laws }) g.met.N.Eq.laws.refl c.ordered.ensures.equivalence.refl
    c.ordered-2.ensures.equivalence.refl

pub returns-clause-attributes : goal.returns-clause-attributes
returns-clause-attributes g c =
    attribute_placeless g.row.N g.N.PartialEq g.N.PartialEq-dict (record { laws = g.met.N.PartialEq.laws })
    g.met.N.Eq.laws.refl c.ordered.ensures.equivalence.refl c.ordered-2.ensures.equivalence.refl
