-- References that mean nothing, and the errors that name them.
use Rattle.std.proofs.Common.{◌≡◌, ℕ, ◌<◌, ◌≢◌, List, [], ◌∷◌, Option, length, ap, ◌∙◌, arith}
use Rattle.cedar_identifiers.specs.declared.conditional_name.ConditionalName.{ConditionalName}
use Rattle.cedar_identifiers.specs.declared.name_text.NameText as named
use Rattle.schema_json.specs.declared.action_type.ActionEntityUID.{ActionEntityUID}
use Rattle.schema_resolve_targets.specs.Gathered.{uids}
use Rattle.schema_resolve_targets.specs.Undefined.{Undefined, types_among, actions_among}
use Rattle.schema_build_errors.specs.declared.schema_error.SchemaError.TheVariants.{TypeNotDefined, ActionNotDefined}
use Rattle.schema_build_checks.specs.Rows.{Never}
use Rattle.schema_build_scope.specs.UndefinedRows.{NamesTypes, NamesActions}

pub never_types : (found : List Undefined) → types_among found ≡ [] → Never (NamesTypes found)
never_types found none (TypeNotDefined e) h = h.1 none
never_types found none _ h = h

pub never_actions : (found : List Undefined) → actions_among found ≡ [] → Never (NamesActions found)
never_actions found none (ActionNotDefined e) h = h.1 none
never_actions found none _ h = h

pub uids_not_empty : {G : named.Ghosts ConditionalName} (xs : List (ActionEntityUID ConditionalName G))
    (ys : List (List ℕ × Option ConditionalName)) → uids xs ≡ ys → 0 < length xs → ys ≢ []
uids_not_empty [] ys same some none = omega arith
uids_not_empty (x ∷ xs) ys same some none =
    let h : uids (x ∷ xs) ≡ [] = same ∙ none in cc

-- a list that is not empty is not the empty one
pub not_empty : {A : Type 0} (xs ys : List A) → xs ≡ ys → 0 < length xs → ys ≢ []
not_empty xs ys same some none = let e : length xs ≡ 0 = ap length (same ∙ none) in omega arith
