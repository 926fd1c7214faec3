-- Between two meanings, nothing is lost, or the first that is.
use Rattle.std.proofs.Common.{◌≡◌, List, [], ◌∷◌, Option, Some, None}
use Rattle.std.specs.Prelude.{option_map}
use Rattle.std.specs.List.{AllByRecursion}
use Rattle.cedar_names.specs.Meaning.{PlainType, EntityMeaning, ActionMeaning, SchemaMeaning}
use Rattle.schema_inclusion_values.specs.Values.{Has}
use Rattle.schema_inclusion_values.specs.Checks.{some_value}
use Rattle.schema_inclusion_values.specs.Ids.{AnyOf, Fits, HasChoices, some_id}
use Rattle.schema_inclusion_values.specs.Admits.{EntityValue, RequestValue, ActionIn, SchemaValue, an_entity, a_request}
use Rattle.schema_inclusion_values.specs.Admits.{an_action, IsEntityOf, IsRequestOf, Admits, Before, IsLost}
use Rattle.schema_inclusion_values.specs.Admits.{IsInclusion, name_order, action_order}
use Rattle.schema_inclusion_values.specs.Whole.{IsWholeType, IsWholeEntity, IsWholeAction, IsWhole, entity_name}
use Rattle.schema_inclusion_values.specs.Whole.{action_name}
use Rattle.schema_inclusion_values.specs.Lost.{or_else, first_of_each, lost_entity, lost_request, lost_action, lost}
use Rattle.schema_inclusion_values.proofs.Values.{has_some}
use Rattle.schema_inclusion_values.proofs.Lost.{formed}
use Rattle.schema_inclusion_values.proofs.Walks.{OneLost, FirstLost, first_lost}
use Rattle.schema_inclusion_values.proofs.Entities.{name_total, entity_lost}
use Rattle.schema_inclusion_values.proofs.Requests.{action_total, request_lost, action_lost}

all_of : {X : Type 0} (P Q : X → Type 0) → ((x : X) → P x → Q x) → (xs : List X) → AllByRecursion P xs
    → AllByRecursion Q xs
all_of P Q f [] h = tt
all_of P Q f (x ∷ xs) h = (f x h.0, all_of P Q f xs h.1)

pub choices_of : (m : SchemaMeaning) → IsWhole m → HasChoices m
choices_of m w = all_of (IsWholeEntity m) _ (λ e h. h.choices) m.entities w.entities

pub type_has_value : (m : SchemaMeaning) → IsWhole m → (t : PlainType) → IsWholeType m t
    → Has (Fits m) t (some_value (some_id m) t)
type_has_value m w t h = has_some (Fits m) (some_id m) t (formed m t (choices_of m w) h.0 h.1)

module _ (old new : SchemaMeaning) (wo : IsWhole old) (wn : IsWhole new) where
  abbrev OldEntity : EntityMeaning → EntityValue → Type 0
  OldEntity e x = IsEntityOf old e e.is_external e.choices x

  abbrev OldAction : ActionMeaning → ActionIn → Type 0
  OldAction a x = AnyOf (λ b. b ≡ x.ancestor) a.ancestors

  abbrev Entities : Option EntityValue → Type 0
  Entities = FirstLost name_order name_total entity_name (λ x. x.ty) OldEntity
      (λ x. Admits new (an_entity x)) old.entities

  abbrev Requests : Option RequestValue → Type 0
  Requests = FirstLost action_order action_total action_name (λ x. x.action) (IsRequestOf old)
      (λ x. Admits new (a_request x)) old.actions

  abbrev Actions : Option ActionIn → Type 0
  Actions = FirstLost action_order action_total action_name (λ x. x.action) OldAction
      (λ x. Admits new (an_action x)) old.actions

  entities : Entities (first_of_each (lost_entity old new) old.entities)
  entities = first_lost name_order name_total entity_name (λ x. x.ty) OldEntity (λ x. Admits new (an_entity x))
      (lost_entity old new) old.entities wo.entities_rise
      (all_of (IsWholeEntity old) (λ e. OneLost name_order name_total entity_name (λ x. x.ty) OldEntity
      (λ x. Admits new (an_entity x)) e (lost_entity old new e))
      (λ e h. entity_lost old new (choices_of old wo) e h wn) old.entities wo.entities)

  requests : Requests (first_of_each (lost_request old new) old.actions)
  requests = first_lost action_order action_total action_name (λ x. x.action) (IsRequestOf old)
      (λ x. Admits new (a_request x)) (lost_request old new) old.actions wo.actions_rise
      (all_of (IsWholeAction old) (λ a. OneLost action_order action_total action_name (λ x. x.action) (IsRequestOf old)
      (λ x. Admits new (a_request x)) a (lost_request old new a))
      (λ a h. request_lost old new (choices_of old wo) a h wn) old.actions wo.actions)

  actions : Actions (first_of_each (lost_action old new) old.actions)
  actions = first_lost action_order action_total action_name (λ x. x.action) OldAction (λ x. Admits new (an_action x))
      (lost_action old new) old.actions wo.actions_rise
      (all_of (IsWholeAction old) (λ a. OneLost action_order action_total action_name (λ x. x.action) OldAction
      (λ x. Admits new (an_action x)) a (lost_action old new a))
      (λ a h. action_lost old new (choices_of old wo) a h wn) old.actions wo.actions)

  none_lost : Entities None → Requests None → Actions None → (x : SchemaValue) → Admits old x → Admits new x
  none_lost e r a (an_entity x) h = e x h
  none_lost e r a (a_request x) h = r x h
  none_lost e r a (an_action x) h = a x h

  entity_first : (w : EntityValue) → Entities (Some w) → (y : SchemaValue) → Before y (an_entity w) → IsLost old new y
      → ⊥
  entity_first w e (an_entity x) b l = l.1 (e.2 x b l.0)
  entity_first w e (a_request x) b l = b
  entity_first w e (an_action x) b l = b

  request_first : (w : RequestValue) → Entities None → Requests (Some w) → (y : SchemaValue) → Before y (a_request w)
      → IsLost old new y → ⊥
  request_first w e r (an_entity x) b l = l.1 (e x l.0)
  request_first w e r (a_request x) b l = l.1 (r.2 x b l.0)
  request_first w e r (an_action x) b l = b

  action_first : (w : ActionIn) → Entities None → Requests None → Actions (Some w) → (y : SchemaValue)
      → Before y (an_action w) → IsLost old new y → ⊥
  action_first w e r a (an_entity x) b l = l.1 (e x l.0)
  action_first w e r a (a_request x) b l = l.1 (r x l.0)
  action_first w e r a (an_action x) b l = l.1 (a.2 x b l.0)

  of_kinds : (e : Option EntityValue) (r : Option RequestValue) (a : Option ActionIn) → Entities e → Requests r
      → Actions a
      → IsInclusion old new (or_else (option_map an_entity e)
      (or_else (option_map a_request r) (option_map an_action a)))
  of_kinds None None None e r a = none_lost e r a
  of_kinds (Some w) r a e hr ha = ((e.0, e.1), entity_first w e)
  of_kinds None (Some w) a e r ha = ((r.0, r.1), request_first w e r)
  of_kinds None None (Some w) e r a = ((a.0, a.1), action_first w e r a)

  pub is_inclusion : IsInclusion old new (lost old new)
  is_inclusion = of_kinds (first_of_each (lost_entity old new) old.entities)
      (first_of_each (lost_request old new) old.actions) (first_of_each (lost_action old new) old.actions) entities
      requests actions
