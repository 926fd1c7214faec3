-- Each type in a settled meaning has a value.
use Rattle.std.proofs.Common.{List, [], ◌∷◌, Option, Some, None}
use Rattle.std.specs.List.{AllByRecursion}
use Rattle.cedar_names.specs.Meaning.{PlainType, Attributes, no_more, attribute, EntityMeaning, ActionMeaning}
use Rattle.cedar_names.specs.Meaning.{SchemaMeaning}
use Rattle.schema_inclusion_values.specs.Settled.{IsOrdered, AreOrdered, IsKnown, AreKnown, AreTagsKnown}
use Rattle.schema_inclusion_values.specs.Settled.{IsSettledEntity, IsSettledAction, IsSettled}
use Rattle.laws_inclusion.specs.Inhabited.{Throughout, ThroughoutFields, HasValue, HaveValues, HasValues}

module _ (m : SchemaMeaning) (one : (t : PlainType) → IsOrdered t → IsKnown m t → HasValue m t) where
  mutual
    throughout : (t : PlainType) → IsOrdered t → IsKnown m t → Throughout (HasValue m) t
    throughout PlainType.Bool o k = one PlainType.Bool o k
    throughout PlainType.Long o k = one PlainType.Long o k
    throughout PlainType.String o k = one PlainType.String o k
    throughout (PlainType.Ext n) o k = one (PlainType.Ext n) o k
    throughout (PlainType.Entity n) o k = one (PlainType.Entity n) o k
    throughout (PlainType.Set t) o k = (one (PlainType.Set t) o k, throughout t o k)
    throughout (PlainType.Rec fs) o k = (one (PlainType.Rec fs) o k, throughout_fields fs o.1 k)

    throughout_fields : (fs : Attributes) → AreOrdered fs → AreKnown m fs → ThroughoutFields (HasValue m) fs
    throughout_fields no_more o k = tt
    throughout_fields (attribute n r t fs) o k = (throughout t o.0 k.0, throughout_fields fs o.1 k.1)

  of_tags : (t : Option PlainType) → AreTagsKnown m t → HaveValues m t
  of_tags None h = tt
  of_tags (Some t) h = throughout t h.0 h.1

  of_entities : (es : List EntityMeaning) → AllByRecursion (IsSettledEntity m) es
      → AllByRecursion (λ e. Throughout (HasValue m) (PlainType.Rec e.attributes) × HaveValues m e.tags) es
  of_entities [] h = tt
  of_entities (e ∷ es) h = (
    (throughout (PlainType.Rec e.attributes) h.0.ordered h.0.attributes, of_tags e.tags h.0.tags),
    of_entities es h.1,
  )

  of_actions : (xs : List ActionMeaning) → AllByRecursion (IsSettledAction m) xs
      → AllByRecursion (λ a. Throughout (HasValue m) (PlainType.Rec a.context)) xs
  of_actions [] h = tt
  of_actions (a ∷ xs) h = (throughout (PlainType.Rec a.context) h.0.ordered h.0.context, of_actions xs h.1)

  pub valued : IsSettled m → HasValues m
  valued s = (of_entities m.entities s.entities, of_actions m.actions s.actions)
