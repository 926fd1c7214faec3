-- For private clauses: the first value that is lost.
use Rattle.std.specs.Prelude.{Bool, true, false, cond, ◌&&◌, List, [], ◌∷◌, Option, Some, None, option_map}
use Rattle.std.specs.List.{list_any, find}
use Rattle.std.specs.Str.{bytes_eq}
use Rattle.cedar_names.specs.Definitions.{same_name}
use Rattle.cedar_names.specs.Meaning.{PlainType, Attributes, EntityMeaning, ActionMeaning, SchemaMeaning}
use Rattle.schema_inclusion_values.specs.Values.{Text, Name, Val, Entries, no_entries, entry}
use Rattle.schema_inclusion_values.specs.Values as values
use Rattle.schema_inclusion_values.specs.Checks.{some_value, some_entries, lost_value}
use Rattle.schema_inclusion_values.specs.Ids.{has_text, first_id, some_id, lost_id, lost_of}
use Rattle.schema_inclusion_values.specs.Admits.{Action, EntityValue, RequestValue, ActionIn, SchemaValue, an_entity}
use Rattle.schema_inclusion_values.specs.Admits.{a_request, an_action}
use Rattle.schema_inclusion_values.specs.Whole.{action_name}

abbrev pub or_else : {A : Type 0} → Option A → Option A → Option A
or_else None more = more
or_else (Some a) more = Some a

abbrev pub first_of_each : {A B : Type 0} → (A → Option B) → List A → Option B
first_of_each f [] = None
first_of_each f (x ∷ xs) = or_else (f x) (first_of_each f xs)

-- whether two actions are the same
abbrev pub same_key : Action → Action → Bool
same_key a b = same_name a.0 b.0 && bytes_eq a.1 b.1

-- the first of the old ones that is none of the new
abbrev pub lost_member : {A : Type 0} → (A → A → Bool) → List A → List A → Option A
lost_member same old new = find (λ a. cond (list_any (same a) new) false true) old

abbrev pub entries_of : Val → Entries
entries_of (values.Rec es) = es
entries_of _ = no_entries

abbrev pub one_tag : Val → Entries
one_tag v = entry [] v no_entries

-- the id that goes first, where the choices do not have it
abbrev pub first_refused : Text → Option (List Text) → Option Text
first_refused id None = None
first_refused id (Some choices) = cond (has_text choices id) None (Some id)

module _ (old new : SchemaMeaning) where
  abbrev pub lost_type : PlainType → PlainType → Option Val
  lost_type = lost_value (some_id old) (lost_of old new)

  abbrev pub lost_entries : Attributes → Attributes → Option Entries
  lost_entries os ns = option_map entries_of (lost_type (PlainType.Rec os) (PlainType.Rec ns))

  -- tags that the new type of tags does not take
  abbrev pub lost_tags : Option PlainType → Option PlainType → Option Entries
  lost_tags None u = None
  lost_tags (Some t) None = Some (one_tag (some_value (some_id old) t))
  lost_tags (Some t) (Some u) = option_map one_tag (lost_type t u)

  -- a parent whose type is no ancestor any more, or whose id does not fit any more
  abbrev pub lost_parent : List Name → List Name → Option (Name × Text)
  lost_parent [] ns = None
  lost_parent (a ∷ os) ns = cond (list_any (same_name a) ns) (or_else (option_map (λ id. (a, id)) (lost_of old new a))
      (lost_parent os ns)) (Some (a, some_id old a))

  -- ---- entities: an id that goes first, attributes, tags, a parent, another id

  abbrev pub with_id : EntityMeaning → Text → EntityValue
  with_id e id = record {
    ty = e.name;
    id = id;
    attributes = some_entries (some_id old) e.attributes;
    tags = no_entries;
    parents = [];
  }

  abbrev pub lost_entity_between : EntityMeaning → EntityMeaning → Option EntityValue
  lost_entity_between o n =
      let some = with_id o (first_id o.choices) in
      or_else (option_map (λ id. with_id o id) (first_refused (first_id o.choices) n.choices))
      (or_else (option_map (λ es. record some { attributes = es }) (lost_entries o.attributes n.attributes))
      (or_else (option_map (λ es. record some { tags = es }) (lost_tags o.tags n.tags))
      (or_else (option_map (λ p. record some { parents = p ∷ [] }) (lost_parent o.ancestors n.ancestors))
      (option_map (λ id. with_id o id) (lost_id o.choices n.choices)))))

  -- an entity of the old type that the new type, if there is one, does not admit
  abbrev pub lost_entity_to : EntityMeaning → Option EntityMeaning → Option EntityValue
  lost_entity_to o None = Some (with_id o (first_id o.choices))
  lost_entity_to o (Some n) = cond n.is_external (Some (with_id o (first_id o.choices))) (lost_entity_between o n)

  abbrev pub lost_entity : EntityMeaning → Option EntityValue
  lost_entity o = cond o.is_external None (lost_entity_to o (find (λ e. same_name e.name o.name) new.entities))

  -- ---- requests: a principal, a resource, or the context

  abbrev pub request_with : ActionMeaning → Name → Name → Entries → RequestValue
  request_with o p r es = record { action = action_name o; principal = p; resource = r; context = es }

  abbrev pub some_context : ActionMeaning → Entries
  some_context o = some_entries (some_id old) o.context

  abbrev pub lost_request_between : ActionMeaning → ActionMeaning → Name → Name → Option RequestValue
  lost_request_between o n p r =
      or_else (option_map (λ q. request_with o q r (some_context o)) (lost_member same_name o.principals n.principals))
      (or_else (option_map (λ q. request_with o p q (some_context o)) (lost_member same_name o.resources n.resources))
      (option_map (λ es. request_with o p r es) (lost_entries o.context n.context)))

  abbrev pub lost_request_to : ActionMeaning → Name → Name → Option ActionMeaning → Option RequestValue
  lost_request_to o p r None = Some (request_with o p r (some_context o))
  lost_request_to o p r (Some n) = cond n.is_external (Some (request_with o p r (some_context o)))
      (lost_request_between o n p r)

  -- a request of the old action that the new action, if there is one, does not admit
  abbrev pub lost_request_of : ActionMeaning → Option ActionMeaning → List Name → List Name → Option RequestValue
  lost_request_of o found (p ∷ ps) (r ∷ rs) = lost_request_to o p r found
  lost_request_of o found _ _ = None

  abbrev pub new_action : ActionMeaning → Option ActionMeaning
  new_action o = find (λ a. same_key (action_name a) (action_name o)) new.actions

  abbrev pub lost_request : ActionMeaning → Option RequestValue
  lost_request o = cond o.is_external None (lost_request_of o (new_action o) o.principals o.resources)

  -- ---- ancestors of actions

  -- the ancestors of an action, if there is one
  abbrev pub ancestors_of : Option ActionMeaning → List Action
  ancestors_of None = []
  ancestors_of (Some a) = a.ancestors

  abbrev pub lost_action : ActionMeaning → Option ActionIn
  lost_action o = option_map (λ b. record { action = action_name o; ancestor = b })
      (lost_member same_key o.ancestors (ancestors_of (new_action o)))

  -- ---- all of them

  -- the first value that is lost: of entity types, then requests, then ancestors of actions
  abbrev pub lost : Option SchemaValue
  lost = or_else (option_map an_entity (first_of_each lost_entity old.entities))
      (or_else (option_map a_request (first_of_each lost_request old.actions))
      (option_map an_action (first_of_each lost_action old.actions)))
