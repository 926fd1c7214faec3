-- A schema of which each item lacks nothing lacks nothing, and so does what is built for a meaning.
use Rattle.std.proofs.Common.{◌≡◌, Bool, true, false, List, [], ◌∷◌, ◌++◌, map, cond, refl, Option, None, Some}
use Rattle.std.proofs.Common.{All}
use Rattle.std.specs.List.{filter, flat_map}
use Rattle.std.specs.Option.{option_map}
use Rattle.std.proofs.lemmas.List.Elements.{All-head, All-tail, All-nil, All-cons, All-map}
use Rattle.cedar_identifiers.specs.declared.name.Name.{Name}
use Rattle.cedar_names.specs.CanonicalText.{namespace}
use Rattle.cedar_names.specs.Definitions.{same_name}
use Rattle.cedar_names.specs.Meaning.{PlainType, Attributes, no_more, attribute, EntityMeaning, ActionMeaning}
use Rattle.cedar_names.specs.Meaning.{SchemaMeaning}
use Rattle.cedar_names.specs.Meaning as plain
use Rattle.cedar_names.specs.declared.entity_uid.EntityUID.{EntityUID}
use Rattle.schema_build_types.specs.declared.entity_type.ValidatorEntityType.{ValidatorEntityType}
use Rattle.schema_build_types.specs.declared.action.ValidatorActionId.{ValidatorActionId}
use Rattle.schema_build_types.specs.Content.{EntityContent, ActionContent, SchemaContent, content, entity_content}
use Rattle.schema_build_types.specs.Content.{action_content}
use Rattle.schema_build_types.specs.Lacks.{type_lacks, attribute_lacks, context_lacks, tag_lacks, entity_lacks}
use Rattle.schema_build_types.specs.Lacks.{Lack, namespace_lacks, schema_lacks}
use Rattle.schema_build_types.specs.Standing.{as_built, attributes_as_built, entity_as_built, action_as_built}
use Rattle.schema_build_types.specs.Standing.{schema_as_built}

none_of : {X Y : Type 0} (f : X → List Y) (p : X → Bool) (xs : List X) → All (λ x. f x ≡ []) xs
    → flat_map f (filter p xs) ≡ []
none_of f p [] all = refl
none_of f p (x ∷ xs) all = by (p x) (none_of f p xs (All-tail (λ x. f x ≡ []) x xs all))
  where
    by : (b : Bool) → flat_map f (filter p xs) ≡ [] → flat_map f (cond b (x ∷ filter p xs) (filter p xs)) ≡ []
    by true more = (λ i. All-head (λ x. f x ≡ []) x xs all i ++ more i)
    by false more = more

none_anywhere : {X Y : Type 0} (f : X → List Y) → ((x : X) → f x ≡ []) → (xs : List X) → flat_map f xs ≡ []
none_anywhere f none [] = refl
none_anywhere f none (x ∷ xs) = λ i. none x i ++ none_anywhere f none xs i

-- what lacks nothing, item by item
pub none_lacks : (c : SchemaContent) → All (λ e. entity_lacks e ≡ []) c.entities
    → All (λ (a : ActionContent). context_lacks a.context ≡ []) c.actions → schema_lacks c ≡ []
none_lacks c entities actions = none_anywhere (namespace_lacks c) (λ n. λ i.
    none_of entity_lacks (λ (e : EntityContent). same_name n (namespace e.name)) c.entities entities i
    ++ none_of (λ (a : ActionContent). context_lacks a.context)
    (λ (a : ActionContent). same_name n (namespace a.ty)) c.actions actions i) _

pub items_whole : (entities : List (Name × ValidatorEntityType)) (actions : List (EntityUID × ValidatorActionId))
    → All (λ e. entity_lacks (entity_content e) ≡ []) entities
    → All (λ a. context_lacks (action_content a).context ≡ []) actions → schema_lacks (content entities actions) ≡ []
items_whole entities actions ones others = none_lacks (content entities actions)
    (All-map (λ e. entity_lacks e ≡ []) entity_content entities ones)
    (All-map (λ (a : ActionContent). context_lacks a.context ≡ []) action_content actions others)

mutual
  type_built : (p : PlainType) → type_lacks (as_built p) ≡ []
  type_built plain.Bool = refl
  type_built plain.Long = refl
  type_built plain.String = refl
  type_built (plain.Set p) = type_built p
  type_built (plain.Rec ps) = attributes_built ps
  type_built (plain.Entity n) = refl
  type_built (plain.Ext w) = refl

  attributes_built : (ps : Attributes) → attribute_lacks (attributes_as_built ps) ≡ []
  attributes_built no_more = refl
  attributes_built (attribute name required p ps) = λ i. type_built p i ++ attributes_built ps i

tags_built : (t : Option PlainType) → tag_lacks (option_map as_built t) ≡ []
tags_built None = refl
tags_built (Some p) = type_built p

entities_built : (es : List EntityMeaning) → All (λ e. entity_lacks e ≡ []) (map entity_as_built es)
entities_built [] = All-nil (λ e. entity_lacks e ≡ [])
entities_built (e ∷ es) = All-cons (λ e. entity_lacks e ≡ []) (entity_as_built e) (map entity_as_built es)
    (λ i. attributes_built e.attributes i ++ tags_built e.tags i) (entities_built es)

actions_built : (uids : List ActionMeaning)
    → All (λ (a : ActionContent). context_lacks a.context ≡ []) (map action_as_built uids)
actions_built [] = All-nil (λ (a : ActionContent). context_lacks a.context ≡ [])
actions_built (a ∷ uids) =
    All-cons (λ (a : ActionContent). context_lacks a.context ≡ []) (action_as_built a) (map action_as_built uids)
    (attributes_built a.context) (actions_built uids)

-- a schema that stands for a meaning lacks nothing
pub built_whole : (m : SchemaMeaning) → schema_lacks (schema_as_built m) ≡ []
built_whole m = none_lacks (schema_as_built m) (entities_built m.entities) (actions_built m.actions)

-- where nothing is lacking, nothing is named
pub none_first : (x : Lack) (more : List Lack) → [] ≡ x ∷ more → ⊥
none_first x more h = absurd (cc)
