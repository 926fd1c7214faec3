-- What is gathered of references that mean nothing.
use Rattle.std.specs.Prelude.{◌≡◌, ℕ, List, ◌++◌, map, Option}
use Rattle.cedar_identifiers.specs.declared.name_text.NameText as named
use Rattle.cedar_identifiers.specs.declared.conditional_name.ConditionalName.{ConditionalName}
use Rattle.schema_json.specs.declared.action_type.ActionEntityUID.{ActionEntityUID}
use Rattle.schema_resolve_targets.specs.declared.gather.Gatherer.{Gatherer}
use Rattle.schema_resolve_targets.specs.Undefined.{Undefined, types_among, actions_among}

-- references to actions, by their ids and types
abbrev pub uids : {G : named.Ghosts ConditionalName} → List (ActionEntityUID ConditionalName G)
    → List (List ℕ × Option ConditionalName)
uids actions = map (λ a. let uid : List ℕ × Option ConditionalName = (a.id, a.ty) in uid) actions

-- these are found besides, behind what was found
pub record Gathers (found : List Undefined) (before after : Gatherer) : Type 0 where
  pub defs : after.defs.now ≡ before.defs.now
  pub types : after.types.items ≡ before.types.items ++ types_among found
  pub actions : uids after.actions.items ≡ uids before.actions.items ++ actions_among found
