-- The first reason is the same in whatever order the lists of a meaning stand.
use Rattle.std.proofs.Common.{◌≡◌, ◌+◌, ℕ, Bool, true, false, cond, ◌||◌, List, [], ◌∷◌, Option, Some, None, refl}
use Rattle.std.proofs.Common.{sym, ap, ◌∙◌}
use Rattle.std.specs.List.{list_any}
use Rattle.std.specs.Option.{option_map}
use Rattle.cedar_names.specs.CanonicalText.{in_order}
use Rattle.cedar_names.specs.Definitions.{same_name}
use Rattle.cedar_names.proofs.Defined.{equal_names, name_itself}
use Rattle.cedar_names.specs.Meaning.{PlainType, EntityMeaning, ActionMeaning, SchemaMeaning}
use Rattle.schema_inclusion_values.specs.Values.{Text, Name, Entries, no_entries, entry}
use Rattle.schema_inclusion_values.specs.Values as values
use Rattle.schema_inclusion_values.specs.Admits.{Action, EntityValue, RequestValue, ActionIn, SchemaValue, an_entity}
use Rattle.schema_inclusion_values.specs.Admits.{a_request, an_action}
use Rattle.schema_inclusion_values.specs.Lost.{or_else, same_key}
use Rattle.schema_inclusion_values.specs.Whole.{action_name}
use Rattle.schema_inclusion_values.proofs.Lost.{listed_any, any_listed}
use Rattle.schema_inclusion_values.proofs.Requests.{equal_keys, key_itself}
use Rattle.schema_inclusion_check.specs.Ordered.{actions_once, entity_in_order, action_in_order, meaning_in_order}
use Rattle.schema_inclusion_reasons.specs.Reasons.{type_gone, choice_gone, in_attributes, in_tags}
use Rattle.schema_inclusion_reasons.specs.Reasons.{parent_type_gone, parent_gone, action_gone, principal_gone}
use Rattle.schema_inclusion_reasons.specs.Reasons.{resource_gone, in_context, ancestor_gone}
use Rattle.schema_inclusion_reasons.specs.FirstMisfit.{misfit, tags_misfit}
use Rattle.schema_inclusion_reasons.specs.FirstReason.{takes, entity_takes, is_found, unless, entity_named}
use Rattle.schema_inclusion_reasons.specs.FirstReason.{action_named}
use Rattle.schema_inclusion_reasons.specs.FirstReason.{has_id, tags_reason, parents_reason}
use Rattle.schema_inclusion_reasons.specs.FirstReason.{entity_reason, entity_reason_by, request_reason}
use Rattle.schema_inclusion_reasons.specs.FirstReason.{request_reason_by, action_reason_by, first_reason}
use Rattle.schema_inclusion_explain.proofs.Keyed.{find_map}
use Rattle.schema_inclusion_explain.proofs.Membership.{names_in, names_out, actions_in, actions_out}

-- two tests that hold alike are one
alike : (b c : Bool) → (b ≡ true → c ≡ true) → (c ≡ true → b ≡ true) → b ≡ c
alike true true f g = refl
alike true false f g = sym (f refl)
alike false true f g = g refl
alike false false f g = refl

names_same : (n : Name) (ns : List Name) → list_any (same_name n) (in_order ns) ≡ list_any (same_name n) ns
names_same n ns = alike (list_any (same_name n) (in_order ns)) (list_any (same_name n) ns)
    (λ h. any_listed same_name equal_names name_itself n ns (names_out (λ y. y ≡ n) ns
    (listed_any same_name equal_names name_itself n (in_order ns) h)))
    (λ h. any_listed same_name equal_names name_itself n (in_order ns) (names_in (λ y. y ≡ n) ns
    (listed_any same_name equal_names name_itself n ns h)))

actions_same : (a : Action) (xs : List Action) → list_any (same_key a) (actions_once xs) ≡ list_any (same_key a) xs
actions_same a xs = alike (list_any (same_key a) (actions_once xs)) (list_any (same_key a) xs)
    (λ h. any_listed same_key equal_keys key_itself a xs (actions_out (λ y. y ≡ a) xs
    (listed_any same_key equal_keys key_itself a (actions_once xs) h)))
    (λ h. any_listed same_key equal_keys key_itself a (actions_once xs) (actions_in (λ y. y ≡ a) xs
    (listed_any same_key equal_keys key_itself a xs h)))

module _ (m : SchemaMeaning) where
  abbrev o : SchemaMeaning
  o = meaning_in_order m

  entity_same : (ty : Name) → entity_named o ty ≡ option_map entity_in_order (entity_named m ty)
  entity_same ty = sym (find_map entity_in_order (λ e. same_name e.name ty) (λ e. same_name e.name ty) (λ e. refl)
      m.entities)

  action_same : (a : Action) → action_named o a ≡ option_map action_in_order (action_named m a)
  action_same a = sym (find_map action_in_order (λ b. same_key (action_name b) a) (λ b. same_key (action_name b) a)
      (λ b. refl) m.actions)

  takes_same : (e : Option EntityMeaning) (id : Text) → entity_takes (option_map entity_in_order e) id
      ≡ entity_takes e id
  takes_same None id = refl
  takes_same (Some e) id = refl

  found_same : (a : Option ActionMeaning) → is_found (option_map action_in_order a) ≡ is_found a
  found_same None = refl
  found_same (Some a) = refl

  id_same : (ty : Name) (id : Text) → has_id o ty id ≡ has_id m ty id
  id_same ty id = λ i. (ap (λ e. entity_takes e id) (entity_same ty) ∙ takes_same (entity_named m ty) id) i
      || (ap is_found (action_same (ty, id)) ∙ found_same (action_named m (ty, id))) i

  ids_same : has_id o ≡ has_id m
  ids_same = λ i ty id. id_same ty id i

  tags_same : (t : Option PlainType) (tags : Entries) → tags_reason o t tags ≡ tags_reason m t tags
  tags_same None no_entries = refl
  tags_same None (entry n v es) = refl
  tags_same (Some t) tags = λ i. option_map (λ f. in_tags f.0 f.1) (tags_misfit (ids_same i) t tags)

  parents_same : (above : List Name) (ps : List (Name × Text)) (k : ℕ)
      → parents_reason o (in_order above) k ps ≡ parents_reason m above k ps
  parents_same above [] k = refl
  parents_same above (p ∷ ps) k = λ i. or_else (cond (names_same p.0 above i)
      (unless (id_same p.0 p.1 i) (parent_gone k p.0 p.1)) (Some (parent_type_gone k p.0)))
      (parents_same above ps (k + 1) i)

  of_entity_same : (e : EntityMeaning) (x : EntityValue)
      → entity_reason o (entity_in_order e) x ≡ entity_reason m e x
  of_entity_same e x = λ i. or_else (unless (takes e.choices x.id) (choice_gone x.id))
      (or_else (option_map (λ f. in_attributes f.0 f.1)
      (misfit (ids_same i) (PlainType.Rec e.attributes) (values.Rec x.attributes)))
      (or_else (tags_same e.tags x.tags i) (parents_same e.ancestors x.parents 0 i)))

  by_entity_same : (e : Option EntityMeaning) (x : EntityValue)
      → entity_reason_by o (option_map entity_in_order e) x ≡ entity_reason_by m e x
  by_entity_same None x = refl
  by_entity_same (Some e) x = ap (cond e.is_external (Some (type_gone x.ty))) (of_entity_same e x)

  of_request_same : (a : ActionMeaning) (x : RequestValue)
      → request_reason o (action_in_order a) x ≡ request_reason m a x
  of_request_same a x = λ i. or_else (unless (names_same x.principal a.principals i) (principal_gone x.principal))
      (or_else (unless (names_same x.resource a.resources i) (resource_gone x.resource))
      (option_map (λ f. in_context f.0 f.1)
      (misfit (ids_same i) (PlainType.Rec a.context) (values.Rec x.context))))

  by_request_same : (a : Option ActionMeaning) (x : RequestValue)
      → request_reason_by o (option_map action_in_order a) x ≡ request_reason_by m a x
  by_request_same None x = refl
  by_request_same (Some a) x = ap (cond a.is_external (Some (action_gone x.action))) (of_request_same a x)

  by_action_same : (a : Option ActionMeaning) (x : ActionIn)
      → action_reason_by o (option_map action_in_order a) x ≡ action_reason_by m a x
  by_action_same None x = refl
  by_action_same (Some a) x = ap (λ b. unless b (ancestor_gone x.ancestor)) (actions_same x.ancestor a.ancestors)

  pub reason_same : (x : SchemaValue) → first_reason o x ≡ first_reason m x
  reason_same (an_entity x) = ap (λ e. entity_reason_by o e x) (entity_same x.ty)
      ∙ by_entity_same (entity_named m x.ty) x
  reason_same (a_request x) = ap (λ a. request_reason_by o a x) (action_same x.action)
      ∙ by_request_same (action_named m x.action) x
  reason_same (an_action x) = ap (λ a. action_reason_by o a x) (action_same x.action)
      ∙ by_action_same (action_named m x.action) x
