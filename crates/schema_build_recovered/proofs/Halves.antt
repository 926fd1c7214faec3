-- The items of a namespace are those of it among the items whose namespaces are below another, or are not.
use Rattle.std.proofs.Common.{◌≡◌, ℕ, Bool, true, false, List, [], ◌∷◌, ◌++◌, map, cond, refl, ap, sym, ◌∙◌}
use Rattle.std.proofs.Common.{subst, Option}
use Rattle.std.specs.List.{filter, flat_map, AllByRecursion, AllZip}
use Rattle.std.proofs.lemmas.List.Folds.{flat_map-map}
use Rattle.cedar_data.specs.Text.{text_cmp}
use Rattle.cedar_data.proofs.Lists.{map-map}
use Rattle.cedar_identifiers.specs.Names.{components_of}
use Rattle.cedar_identifiers.specs.declared.name.Name.{Name}
use Rattle.cedar_identifiers.specs.declared.name_text.NameText as named
use Rattle.cedar_identifiers.specs.declared.raw_name.RawName.{RawName}
use Rattle.cedar_names.specs.CanonicalText.{namespace}
use Rattle.cedar_names.specs.Definitions.{same_name}
use Rattle.cedar_names.specs.Meaning.{EntityMeaning, ActionMeaning}
use Rattle.cedar_names.specs.declared.entity_uid.EntityUID.{EntityUID}
use Rattle.cedar_names.proofs.Defined.{equal_names}
use Rattle.schema_json.specs.declared.fragment.NamespaceDefinition.{NamespaceDefinition}
use Rattle.schema_build_types.specs.Content.{entity_content, action_content, content}
use Rattle.schema_build_types.specs.Content.{EntityContent, ActionContent}
use Rattle.schema_build_types.specs.Lacks.{Lack, entity_lacks, context_lacks, namespace_lacks}
use Rattle.schema_build_types.specs.declared.entity_type.ValidatorEntityType.{ValidatorEntityType}
use Rattle.schema_build_types.specs.declared.action.ValidatorActionId.{ValidatorActionId}
use Rattle.schema_build_text.specs.Readings.{schema_reading, entity_reading, action_reading}
use Rattle.schema_build_text.proofs.InOrder.{entity_named, action_named}
use Rattle.schema_build_recovered.specs.Places.{on_side}
use Rattle.schema_build_recovered.specs.Recovered.{IsMapOf, IsRecoveredEntity, IsRecoveredAction, IsRecoveredNamespace}

-- what passes a test is among what passes a test that follows
kept : {X Y : Type 0} (f : X → Y) (p : Y → Bool) (q : X → Bool) → ((x : X) → p (f x) ≡ true → q x ≡ true)
    → (xs : List X) → filter p (map f (filter q xs)) ≡ filter p (map f xs)
kept f p q h [] = refl
kept f p q h (x ∷ xs) = by (q x) refl (p (f x)) refl (kept f p q h xs)
  where
    by : (b : Bool) → q x ≡ b → (a : Bool) → p (f x) ≡ a → filter p (map f (filter q xs)) ≡ filter p (map f xs)
        → filter p (map f (cond b (x ∷ filter q xs) (filter q xs)))
        ≡ cond a (f x ∷ filter p (map f xs)) (filter p (map f xs))
    by true e a g more =
        ap (λ t. cond t (f x ∷ filter p (map f (filter q xs))) (filter p (map f (filter q xs)))) g
        ∙ ap (λ l. cond a (f x ∷ l) l) more
    by false e true g more = absurd (let no : q x ≡ true = h x g in cc)
    by false e false g more = more

-- what is read of those that pass
pub read_of : {X Y : Type 0} (f : X → Y) (p : Y → Bool) (q : X → Bool) → ((x : X) → p (f x) ≡ q x)
    → (xs : List X) → filter p (map f xs) ≡ map f (filter q xs)
read_of f p q h [] = refl
read_of f p q h (x ∷ xs) =
    ap (λ b. cond b (f x ∷ filter p (map f xs)) (filter p (map f xs))) (h x) ∙ by (q x) (read_of f p q h xs)
  where
    by : (b : Bool) → filter p (map f xs) ≡ map f (filter q xs)
        → cond b (f x ∷ filter p (map f xs)) (filter p (map f xs)) ≡ map f (cond b (x ∷ filter q xs) (filter q xs))
    by true more = ap (λ l. f x ∷ l) more
    by false more = more

abbrev pub entity_key : Name × ValidatorEntityType → List (List ℕ)
entity_key e = namespace (components_of e.0.name)

abbrev pub action_key : EntityUID × ValidatorActionId → List (List ℕ)
action_key a = namespace (components_of a.0.ty.name)

-- the items of a namespace, and what they lack
pub home_entities : (n : List (List ℕ)) (entities : List (Name × ValidatorEntityType))
    → filter (λ (e : EntityMeaning). same_name n (namespace e.name)) (map entity_reading (map entity_content entities))
    ≡ map (λ e. entity_reading (entity_content e)) (filter (λ e. same_name n (entity_key e)) entities)
home_entities n entities =
    let p = λ (e : EntityMeaning). same_name n (namespace e.name) in
    ap (filter p) (map-map entity_reading entity_content entities)
    ∙ read_of (λ e. entity_reading (entity_content e)) p (λ e. same_name n (entity_key e))
    (λ e. ap (λ k. same_name n (namespace k)) (entity_named e.0 e.1)) entities

pub home_actions : (n : List (List ℕ)) (actions : List (EntityUID × ValidatorActionId))
    → filter (λ (a : ActionMeaning). same_name n (namespace a.ty)) (map action_reading (map action_content actions))
    ≡ map (λ a. action_reading (action_content a)) (filter (λ a. same_name n (action_key a)) actions)
home_actions n actions =
    let p = λ (a : ActionMeaning). same_name n (namespace a.ty) in
    ap (filter p) (map-map action_reading action_content actions)
    ∙ read_of (λ a. action_reading (action_content a)) p (λ a. same_name n (action_key a))
    (λ a. ap (λ k. same_name n (namespace k)) (action_named a.0 a.1)) actions

abbrev pub entities_lack : List (List ℕ) → List (Name × ValidatorEntityType) → List Lack
entities_lack n entities =
    flat_map (λ e. entity_lacks (entity_content e)) (filter (λ e. same_name n (entity_key e)) entities)

abbrev pub actions_lack : List (List ℕ) → List (EntityUID × ValidatorActionId) → List Lack
actions_lack n actions =
    flat_map (λ a. context_lacks (action_content a).context) (filter (λ a. same_name n (action_key a)) actions)

pub home_lacks : (n : List (List ℕ)) (entities : List (Name × ValidatorEntityType))
    (actions : List (EntityUID × ValidatorActionId))
    → namespace_lacks (content entities actions) n ≡ entities_lack n entities ++ actions_lack n actions
home_lacks n entities actions =
    let one = read_of entity_content (λ (e : EntityContent). same_name n (namespace e.name))
    (λ e. same_name n (entity_key e)) (λ e. ap (λ k. same_name n (namespace k)) (entity_named e.0 e.1)) entities in
    let two = read_of action_content (λ (a : ActionContent). same_name n (namespace a.ty))
    (λ a. same_name n (action_key a)) (λ a. ap (λ k. same_name n (namespace k)) (action_named a.0 a.1)) actions in
    let left = ap (flat_map entity_lacks) one
    ∙ flat_map-map entity_lacks entity_content (filter (λ e. same_name n (entity_key e)) entities) in
    let right = ap (flat_map (λ (a : ActionContent). context_lacks a.context)) two
    ∙ flat_map-map (λ (a : ActionContent). context_lacks a.context) action_content
    (filter (λ a. same_name n (action_key a)) actions) in
    λ i. left i ++ right i

-- a namespace on one side of the pivot has its items on this side, and lacks there what it lacks
module _ (below : Bool) (pivot n : List (List ℕ)) (on : on_side below pivot n ≡ true) where
  entity_on : (e : Name × ValidatorEntityType) → same_name n (namespace (entity_content e).name) ≡ true
      → on_side below pivot (entity_key e) ≡ true
  entity_on e h =
      subst (λ k. on_side below pivot k ≡ true)
      (equal_names n (namespace (entity_content e).name) h ∙ ap namespace (entity_named e.0 e.1)) on

  action_on : (a : EntityUID × ValidatorActionId) → same_name n (namespace (action_content a).ty) ≡ true
      → on_side below pivot (action_key a) ≡ true
  action_on a h =
      subst (λ k. on_side below pivot k ≡ true)
      (equal_names n (namespace (action_content a).ty) h ∙ ap namespace (action_named a.0 a.1)) on

  module _ (entities : List (Name × ValidatorEntityType)) (actions : List (EntityUID × ValidatorActionId))
      (some_entities : List (Name × ValidatorEntityType)) (some_actions : List (EntityUID × ValidatorActionId))
      (entities_are : some_entities ≡ filter (λ e. on_side below pivot (entity_key e)) entities)
      (actions_are : some_actions ≡ filter (λ a. on_side below pivot (action_key a)) actions) where
    pub same_lacks : namespace_lacks (content some_entities some_actions) n
        ≡ namespace_lacks (content entities actions) n
    same_lacks =
        let p = λ (e : EntityContent). same_name n (namespace e.name) in
        let q = λ (a : ActionContent). same_name n (namespace a.ty) in
        let one = ap (λ l. filter p (map entity_content l)) entities_are
        ∙ kept entity_content p (λ e. on_side below pivot (entity_key e)) entity_on entities in
        let two = ap (λ l. filter q (map action_content l)) actions_are
        ∙ kept action_content q (λ a. on_side below pivot (action_key a)) action_on actions in
        λ i. flat_map entity_lacks (one i) ++ flat_map (λ a. context_lacks a.context) (two i)

    same_entities : filter (λ (e : EntityMeaning). same_name n (namespace e.name))
        (map entity_reading (map entity_content some_entities))
        ≡ filter (λ (e : EntityMeaning). same_name n (namespace e.name))
        (map entity_reading (map entity_content entities))
    same_entities =
        let p = λ (e : EntityMeaning). same_name n (namespace e.name) in
        ap (filter p) (map-map entity_reading entity_content some_entities)
        ∙ ap (λ l. filter p (map (λ e. entity_reading (entity_content e)) l)) entities_are
        ∙ kept (λ e. entity_reading (entity_content e)) p (λ e. on_side below pivot (entity_key e)) entity_on entities
        ∙ sym (ap (filter p) (map-map entity_reading entity_content entities))

    same_actions : filter (λ (a : ActionMeaning). same_name n (namespace a.ty))
        (map action_reading (map action_content some_actions))
        ≡ filter (λ (a : ActionMeaning). same_name n (namespace a.ty)) (map action_reading (map action_content actions))
    same_actions =
        let p = λ (a : ActionMeaning). same_name n (namespace a.ty) in
        ap (filter p) (map-map action_reading action_content some_actions)
        ∙ ap (λ l. filter p (map (λ a. action_reading (action_content a)) l)) actions_are
        ∙ kept (λ a. action_reading (action_content a)) p (λ a. on_side below pivot (action_key a)) action_on actions
        ∙ sym (ap (filter p) (map-map action_reading action_content actions))

    pub same_namespace : {G : named.Ghosts RawName} (x : Option Name × NamespaceDefinition RawName G)
        → IsRecoveredNamespace (schema_reading (content some_entities some_actions)) n x
        → IsRecoveredNamespace (schema_reading (content entities actions)) n x
    same_namespace x r = record {
      name = r.name;
      common_types = r.common_types;
      entity_types = subst (λ l. IsMapOf (λ a b. text_cmp a.id.text b.id.text) IsRecoveredEntity l x.1.entity_types)
          same_entities r.entity_types;
      actions = subst (λ l. IsMapOf text_cmp IsRecoveredAction l x.1.actions) same_actions r.actions;
      annotations = r.annotations;
    }

-- for all namespaces of a side
module _ {X : Type 0} (P : X → Type 0) where
  pub zip_same : {Y : Type 0} (R S : X → Y → Type 0) → ((x : X) → P x → (y : Y) → R x y → S x y)
      → (xs : List X) (ys : List Y)
      → AllByRecursion P xs → AllZip R xs ys → AllZip S xs ys
  zip_same R S f [] [] a z = tt
  zip_same R S f [] (y ∷ ys) a z = z
  zip_same R S f (x ∷ xs) [] a z = z
  zip_same R S f (x ∷ xs) (y ∷ ys) a z = (f x a.0 y z.0, zip_same R S f xs ys a.1 z.1)

  pub flat_alike : {A : Type 0} (f g : X → List A) → ((x : X) → P x → f x ≡ g x) → (xs : List X) → AllByRecursion P xs
      → flat_map f xs ≡ flat_map g xs
  flat_alike f g h [] a = refl
  flat_alike f g h (x ∷ xs) a = λ i. h x a.0 i ++ flat_alike f g h xs a.1 i

pub zip_append : {X Y : Type 0} (R : X → Y → Type 0) (xs us : List X) (ys vs : List Y) → AllZip R xs ys → AllZip R us vs
    → AllZip R (xs ++ us) (ys ++ vs)
zip_append R [] us [] vs z w = w
zip_append R [] us (y ∷ ys) vs z w = absurd z
zip_append R (x ∷ xs) us [] vs z w = absurd z
zip_append R (x ∷ xs) us (y ∷ ys) vs z w = (z.0, zip_append R xs us ys vs z.1 w)
