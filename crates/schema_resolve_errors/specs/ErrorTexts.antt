-- What the errors of resolution say, advise and point to.
use Rattle.std.specs.Prelude.{ℕ, List, [], ◌∷◌, ◌++◌, map, codes, Option, Some, None}
use Rattle.std.specs.Option.{option_map}
use Rattle.cedar_data.specs.declared.loc.Loc.{Loc}
use Rattle.cedar_data.specs.Rows.{joined_by, and_list, by_number}
use Rattle.cedar_identifiers.specs.Names.{components_of, name_text}
use Rattle.cedar_data.specs.declared.label.Label.{Label}
use Rattle.cedar_identifiers.specs.declared.internal_name.InternalName.{InternalName}
use Rattle.cedar_identifiers.specs.declared.conditional_name.ConditionalName.{ConditionalName}
use Rattle.cedar_identifiers.specs.declared.name_text.NameText as named
use Rattle.schema_json.specs.Actions.{action_uid_text}
use Rattle.schema_json.specs.declared.action_type.ActionEntityUID.{ActionEntityUID}
use Rattle.std.specs.List.{flat_map}
use Rattle.schema_resolve_errors.specs.Gathered.{if_there}
use Rattle.schema_resolve_errors.specs.declared.resolve_error.ResolveError.{ResolveError}
use Rattle.schema_resolve_errors.specs.declared.resolve_error.ResolveError.TheVariants.{TypeNotDefined}
use Rattle.schema_resolve_errors.specs.declared.resolve_error.ResolveError.TheVariants.{ActionNotDefined, Memory}

-- a reference as it was written
abbrev pub written_components : ConditionalName → List (List ℕ)
written_components c = components_of c.raw.name

abbrev pub type_texts : List ConditionalName → List (List ℕ)
type_texts names = map (λ c. name_text (written_components c)) names

abbrev pub action_texts : {G : named.Ghosts ConditionalName} → List (ActionEntityUID ConditionalName G)
    → List (List ℕ)
action_texts uids = map (λ a. action_uid_text (option_map written_components a.ty) a.id) uids

abbrev pub unresolved_text : List (List ℕ) → List ℕ
unresolved_text texts = by_number (codes "failed to resolve type: ") (codes "failed to resolve types: ") texts
    ++ joined_by (codes ", ") texts

abbrev pub undeclared_text : List (List ℕ) → List ℕ
undeclared_text texts = by_number (codes "undeclared action: ") (codes "undeclared actions: ") texts ++ and_list texts

abbrev pub resolve_error_text : ResolveError → List ℕ
resolve_error_text (TypeNotDefined e) = unresolved_text (type_texts e.undefined_types)
resolve_error_text (ActionNotDefined e) = undeclared_text (action_texts e.0)
resolve_error_text Memory = codes "out of memory"

abbrev pub undeclared_actions_help : List ℕ
undeclared_actions_help = codes "any actions appearing as parents need to be declared as actions"

abbrev pub resolve_error_help : ResolveError → Option (List ℕ)
resolve_error_help (ActionNotDefined e) = Some undeclared_actions_help
resolve_error_help _ = None

-- the label of a place, which says nothing
abbrev pub label_at : Loc → List Label
label_at span = record { span = span; text = None } ∷ []

-- the place of a name, where it has one
abbrev pub name_labels : InternalName → List Label
name_labels name = if_there label_at name.loc

abbrev pub type_labels : List ConditionalName → List Label
type_labels names = flat_map (λ c. name_labels c.raw.name) names

-- the places of the types
abbrev pub action_labels : {G : named.Ghosts ConditionalName} → List (ActionEntityUID ConditionalName G) → List Label
action_labels uids = flat_map (λ a. if_there (λ c. name_labels c.raw.name) a.ty) uids

abbrev pub resolve_error_labels : ResolveError → List Label
resolve_error_labels (TypeNotDefined e) = type_labels e.undefined_types
resolve_error_labels (ActionNotDefined e) = action_labels e.0
resolve_error_labels Memory = []
