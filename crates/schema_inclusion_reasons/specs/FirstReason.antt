-- For private clauses: the first reason.
use Rattle.std.specs.Prelude.{◌+◌, ℕ, ◌||◌, Bool, true, false, cond, List, [], ◌∷◌, Option, Some, None, option_map}
use Rattle.std.specs.List.{list_any, find}
use Rattle.cedar_names.specs.Definitions.{same_name}
use Rattle.cedar_names.specs.Meaning.{PlainType, EntityMeaning, ActionMeaning, SchemaMeaning}
use Rattle.schema_inclusion_values.specs.Values.{Text, Name, Entries, no_entries, entry}
use Rattle.schema_inclusion_values.specs.Values as values
use Rattle.schema_inclusion_values.specs.Ids.{has_text}
use Rattle.schema_inclusion_values.specs.Admits.{Action, EntityValue, RequestValue, ActionIn, SchemaValue, an_entity}
use Rattle.schema_inclusion_values.specs.Admits.{a_request, an_action}
use Rattle.schema_inclusion_values.specs.Whole.{action_name}
use Rattle.schema_inclusion_values.specs.Lost.{or_else, same_key}
use Rattle.schema_inclusion_reasons.specs.Reasons.{Reason, type_gone, choice_gone, in_attributes, tags_gone, in_tags}
use Rattle.schema_inclusion_reasons.specs.Reasons.{parent_type_gone, parent_gone, action_gone, principal_gone}
use Rattle.schema_inclusion_reasons.specs.Reasons.{resource_gone, in_context, ancestor_gone}
use Rattle.schema_inclusion_reasons.specs.FirstMisfit.{misfit, tags_misfit}

-- whether the choices, where there are choices, have the id
abbrev pub takes : Option (List Text) → Text → Bool
takes None id = true
takes (Some choices) id = has_text choices id

abbrev pub entity_takes : Option EntityMeaning → Text → Bool
entity_takes None id = false
entity_takes (Some e) id = takes e.choices id

abbrev pub is_found : {A : Type 0} → Option A → Bool
is_found None = false
is_found (Some a) = true

-- the reason, unless this holds
abbrev pub unless : Bool → Reason → Option Reason
unless true r = None
unless false r = Some r

module _ (m : SchemaMeaning) where
  abbrev pub entity_named : Name → Option EntityMeaning
  entity_named ty = find (λ e. same_name e.name ty) m.entities

  abbrev pub action_named : Action → Option ActionMeaning
  action_named a = find (λ b. same_key (action_name b) a) m.actions

  -- whether the type has the id
  abbrev pub has_id : Name → Text → Bool
  has_id ty id = entity_takes (entity_named ty) id || is_found (action_named (ty, id))

  -- ---- entities

  abbrev pub tags_reason : Option PlainType → Entries → Option Reason
  tags_reason None no_entries = None
  tags_reason None (entry n v es) = Some tags_gone
  tags_reason (Some t) tags = option_map (λ f. in_tags f.0 f.1) (tags_misfit has_id t tags)

  -- of the parent at the place i
  abbrev pub parent_reason : List Name → ℕ → Name × Text → Option Reason
  parent_reason ancestors i p = cond (list_any (same_name p.0) ancestors)
      (unless (has_id p.0 p.1) (parent_gone i p.0 p.1)) (Some (parent_type_gone i p.0))

  abbrev pub parents_reason : List Name → ℕ → List (Name × Text) → Option Reason
  parents_reason ancestors i [] = None
  parents_reason ancestors i (p ∷ ps) = or_else (parent_reason ancestors i p) (parents_reason ancestors (i + 1) ps)

  abbrev pub entity_reason : EntityMeaning → EntityValue → Option Reason
  entity_reason e x = or_else (unless (takes e.choices x.id) (choice_gone x.id))
      (or_else (option_map (λ f. in_attributes f.0 f.1)
      (misfit has_id (PlainType.Rec e.attributes) (values.Rec x.attributes)))
      (or_else (tags_reason e.tags x.tags) (parents_reason e.ancestors 0 x.parents)))

  abbrev pub entity_reason_by : Option EntityMeaning → EntityValue → Option Reason
  entity_reason_by None x = Some (type_gone x.ty)
  entity_reason_by (Some e) x = cond e.is_external (Some (type_gone x.ty)) (entity_reason e x)

  -- ---- requests and actions

  abbrev pub request_reason : ActionMeaning → RequestValue → Option Reason
  request_reason a x = or_else (unless (list_any (same_name x.principal) a.principals) (principal_gone x.principal))
      (or_else (unless (list_any (same_name x.resource) a.resources) (resource_gone x.resource))
      (option_map (λ f. in_context f.0 f.1) (misfit has_id (PlainType.Rec a.context) (values.Rec x.context))))

  abbrev pub request_reason_by : Option ActionMeaning → RequestValue → Option Reason
  request_reason_by None x = Some (action_gone x.action)
  request_reason_by (Some a) x = cond a.is_external (Some (action_gone x.action)) (request_reason a x)

  abbrev pub action_reason_by : Option ActionMeaning → ActionIn → Option Reason
  action_reason_by None x = Some (action_gone x.action)
  action_reason_by (Some a) x = unless (list_any (same_key x.ancestor) a.ancestors) (ancestor_gone x.ancestor)

  -- why the meaning does not admit the value, if it does not
  abbrev pub first_reason : SchemaValue → Option Reason
  first_reason (an_entity x) = entity_reason_by (entity_named x.ty) x
  first_reason (a_request x) = request_reason_by (action_named x.action) x
  first_reason (an_action x) = action_reason_by (action_named x.action) x
