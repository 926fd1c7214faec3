-- How the code spells what is declared, one name after another.
use Rattle.std.specs.Prelude.{◌≡◌, ℕ, Bool, true, false, nat_eq, ◌⊎◌, List, [], ◌∷◌, ◌++◌, if◌then◌else◌, Option}
use Rattle.std.specs.Prelude.{None, Some, codes}
use Rattle.std.specs.List.{flat_map, starts_with}
use Rattle.std.specs.Str.{chars}
use Rattle.cedar_identifiers.specs.Names.{components_of, name_text}
use Rattle.cedar_identifiers.specs.declared.internal_name.InternalName.{InternalName}
use Rattle.cedar_identifiers.specs.declared.name_text.NameText as named
use Rattle.cedar_identifiers.specs.declared.reference_type.ReferenceType.{ReferenceType}
use Rattle.cedar_names.specs.CanonicalText.{attribute_name}
use Rattle.cedar_names.specs.Definitions.{same_name}
use Rattle.schema_json.specs.declared.fragment.Fragment.{Fragment}
use Rattle.schema_json.specs.declared.fragment.NamespaceDefinition.{NamespaceDefinition}
use Rattle.schema_resolve_definitions.specs.Tests.{Tests}
use Rattle.schema_resolve_lookup.specs.Sought.{namespace_words}
use Rattle.schema_resolve_targets.specs.Targets.{is_defined}
use Rattle.schema_syntax_tokens.specs.Forms.{IsWord}
use Rattle.schema_assist_places.specs.declared.role.Role.{Role}
use Rattle.schema_assist_places.specs.declared.role.Role.TheVariants.{TypePath, EntityPath, ContextPath, ActionRef}
use Rattle.schema_assist_offers.specs.Offers.{kind_for}

-- a word, or nothing
abbrev pub IsWordOrNothing : List ℕ → Type 0
IsWordOrNothing front = (front ≡ []) ⊎ IsWord front

-- the words of a namespace, of which the empty one has none
abbrev pub words_in : Option InternalName → List (List ℕ)
words_in None = []
words_in (Some ns) = components_of ns

abbrev pub is_outer : List (List ℕ) → Bool
is_outer [] = true
is_outer (word ∷ words) = false

-- the text, where it begins so
abbrev pub kept : List ℕ → List ℕ → List (List ℕ)
kept front s = if starts_with nat_eq s front then s ∷ [] else []

-- what is asked: what is defined, the namespace around the place, and what the names begin with
pub record Question : Type 0 where
  pub tests : Tests
  pub ns : List (List ℕ)
  pub front : List ℕ

-- a word that is declared in a namespace, as it is spelled
abbrev pub spelled : Question → ReferenceType → List (List ℕ) → List ℕ → List (List ℕ)
spelled q kind before word =
    if same_name before q.ns then kept q.front word
    else (if is_outer before
    then (if is_defined q.tests kind (q.ns ++ word ∷ []) then [] else kept q.front word)
    else kept q.front (name_text (before ++ word ∷ [])))

-- the type of the actions, as it is spelled
abbrev pub spelled_type : {A : Type 0} → Question → List (List ℕ) → List A → List (List ℕ)
spelled_type q before [] = []
spelled_type q before (a ∷ actions) = spelled q (kind_for TypePath) before (codes "Action")

-- an action that is declared in a namespace, as its id is written
abbrev pub spelled_action : Question → List (List ℕ) → List ℕ → List (List ℕ)
spelled_action q before id =
    if same_name before q.ns then kept q.front (chars (attribute_name id))
    else (if is_outer before
    then (if q.tests.is_action (q.ns ++ codes "Action" ∷ [], id) then [] else kept q.front (chars (attribute_name id)))
    else [])

module _ {N : Type 0} {G : named.Ghosts N} where
  abbrev pub entities_spelled : Question → ReferenceType → List (List ℕ) → NamespaceDefinition N G → List (List ℕ)
  entities_spelled q kind before n = flat_map (λ e. spelled q kind before e.0.id.text) n.entity_types

  abbrev pub commons_spelled : Question → ReferenceType → List (List ℕ) → NamespaceDefinition N G → List (List ℕ)
  commons_spelled q kind before n = flat_map (λ e. spelled q kind before e.0.id.id.text) n.common_types

  abbrev pub actions_spelled : Question → List (List ℕ) → NamespaceDefinition N G → List (List ℕ)
  actions_spelled q before n = flat_map (λ e. spelled_action q before e.0) n.actions

  -- what a namespace of these words declares for a role, as it is spelled
  abbrev pub spelled_in : Question → Role → List (List ℕ) → NamespaceDefinition N G → List (List ℕ)
  spelled_in q TypePath before n = entities_spelled q (kind_for TypePath) before n
      ++ (commons_spelled q (kind_for TypePath) before n ++ spelled_type q before n.actions)
  spelled_in q EntityPath before n = entities_spelled q (kind_for EntityPath) before n
  spelled_in q ContextPath before n = commons_spelled q (kind_for ContextPath) before n
  spelled_in q ActionRef before n = actions_spelled q before n

  -- all that a fragment declares for a role, as it is spelled
  abbrev pub all_spelled : Question → Role → Fragment N G → List (List ℕ)
  all_spelled q role f = flat_map (λ e. spelled_in q role (namespace_words e.0) e.1) f.0
