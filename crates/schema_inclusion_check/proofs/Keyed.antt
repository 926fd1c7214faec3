-- Entries by what they mean: the one of a name, and the walk along them.
use Rattle.std.proofs.Common.{◌≡◌, ℕ, ◌+◌, ◌<◌, Bool, true, false, cond, ◌&&◌, List, [], ◌∷◌, map, length, drop}
use Rattle.std.proofs.Common.{get_or, Option}
use Rattle.std.proofs.Common.{Some, None, refl, sym, ap, ◌∙◌}
use Rattle.std.specs.declared.cmp.Ordering.{Ordering}
use Rattle.std.specs.List.{find}
use Rattle.std.specs.Option.{option_map}
use Rattle.std.specs.Ordering.{is_eq, ordering_then}
use Rattle.std.specs.Cmp.Lexicographic.{slice_cmp}
use Rattle.cedar_data.specs.Text.{text_cmp}
use Rattle.cedar_data.proofs.Orders.{is_eq_then}
use Rattle.cedar_identifiers.specs.Names.{components_of}
use Rattle.cedar_identifiers.specs.declared.name.Name.{Name}
use Rattle.cedar_names.specs.Definitions.{same_name, action_of}
use Rattle.cedar_names.specs.Meaning.{EntityMeaning, ActionMeaning, SchemaMeaning}
use Rattle.cedar_names.specs.declared.entity_uid.EntityUID.{EntityUID}
use Rattle.schema_build_types.specs.declared.entity_type.ValidatorEntityType.{ValidatorEntityType}
use Rattle.schema_build_types.specs.declared.entity_type.ValidatorEntityTypeKind.{ValidatorEntityTypeKind}
use Rattle.schema_build_types.specs.declared.entity_type.ValidatorEntityTypeKind.TheVariants as kind
use Rattle.schema_build_types.specs.declared.action.ValidatorActionId.{ValidatorActionId}
use Rattle.schema_build_types.specs.declared.action.ValidatorActionKind.{ValidatorActionKind}
use Rattle.schema_build_types.specs.declared.action.ValidatorActionKind.TheVariants as action
use Rattle.schema_build_text.proofs.Rowed.{dropped}
use Rattle.schema_inclusion_values.specs.Admits.{Action, ActionIn}
use Rattle.schema_inclusion_values.specs.Lost.{or_else, first_of_each, same_key, lost_entity, lost_entity_to}
use Rattle.schema_inclusion_values.specs.Lost.{lost_request, lost_request_of, new_action, lost_action, lost_member}
use Rattle.schema_inclusion_values.specs.Lost.{ancestors_of}
use Rattle.schema_inclusion_values.specs.Ids.{action_ids}
use Rattle.schema_inclusion_values.specs.Whole.{action_name}
use Rattle.schema_inclusion_types.proofs.Ties.{names_tie, texts_tie}
use Rattle.schema_inclusion_check.specs.Raw.{raw_names, raw_kind, raw_entity, raw_applies, raw_action}

-- ---- names of what is meant

raw_named : (n : List (List ℕ)) (above : List (List (List ℕ))) (k : ValidatorEntityTypeKind)
    → (raw_kind n above k).name ≡ n
raw_named n above (kind.Standard attributes more tags) = refl
raw_named n above (kind.Enum choices) = refl
raw_named n above kind.External = refl

pub entity_named : (e : Name × ValidatorEntityType) → (raw_entity e).name ≡ components_of e.0.name
entity_named e = raw_named (components_of e.0.name) (raw_names e.1.ancestors) e.1.kind

applies_named : (a : Action) (above : List Action) (k : ValidatorActionKind) → action_name (raw_applies a above k) ≡ a
applies_named a above (action.Defined principals resources context) = refl
applies_named a above action.External = refl

action_named : (a : EntityUID × ValidatorActionId) → action_name (raw_action a) ≡ action_of a.0
action_named a = applies_named (action_of a.0) (map action_of a.1.ancestors) a.1.kind

pub uid_named : (d : EntityUID × ValidatorActionId) (u : EntityUID) → u ≡ d.0
    → action_name (raw_action d) ≡ action_of u
uid_named d u q = action_named d ∙ ap action_of (sym q)

-- one action, and those behind it
pub ids_step : (n : List (List ℕ)) (xs : List (EntityUID × ValidatorActionId)) (i : ℕ)
    (d : EntityUID × ValidatorActionId)
    → i < length xs → d ≡ get_or xs i d → (u : EntityUID) → u ≡ d.0 → (b : Bool)
    → same_name (components_of u.ty.name) n ≡ b → action_ids n (map raw_action (drop i xs))
    ≡ cond b (u.eid.0 ∷ action_ids n (map raw_action (drop (i + 1) xs))) (action_ids n (map raw_action (drop
    (i + 1) xs)))
ids_step n xs i d h e u q b is =
    let rest = action_ids n (map raw_action (drop (i + 1) xs)) in
    let named = uid_named d u q in
    ap (λ l. action_ids n (map raw_action l)) (dropped xs i d h e)
    ∙ (λ k. cond ((ap (λ a. same_name a.0 n) named ∙ is) k) (ap (λ a. a.1) named k ∷ rest) rest)

-- ---- what is found under a name

pub find_map : {X Y : Type 0} (f : X → Y) (p : Y → Bool) (q : X → Bool) → ((x : X) → p (f x) ≡ q x) → (xs : List X)
    → option_map f (find q xs) ≡ find p (map f xs)
find_map f p q same [] = refl
find_map f p q same (x ∷ xs) = by (q x) refl (find_map f p q same xs)
  where
    by : (b : Bool) → q x ≡ b → option_map f (find q xs) ≡ find p (map f xs)
        → option_map f (cond (q x) (Some x) (find q xs)) ≡ cond (p (f x)) (Some (f x)) (find p (map f xs))
    by true e rest = ap (λ b. option_map f (cond b (Some x) (find q xs))) e
        ∙ ap (λ b. cond b (Some (f x)) (find p (map f xs))) (sym (same x ∙ e))
    by false e rest = ap (λ b. option_map f (cond b (Some x) (find q xs))) e
        ∙ (rest ∙ ap (λ b. cond b (Some (f x)) (find p (map f xs))) (sym (same x ∙ e)))

module _ (C : Name → Name → Ordering)
    (goes : (a b : Name) → C a b ≡ slice_cmp text_cmp (components_of a.name) (components_of b.name)) where
  pub entity_found : (d : Name × ValidatorEntityType) (es : List (Name × ValidatorEntityType))
      → option_map raw_entity (find (λ e. is_eq (C e.0 d.0)) es)
      ≡ find (λ e. same_name e.name (raw_entity d).name) (map raw_entity es)
  entity_found d es = find_map raw_entity (λ e. same_name e.name (raw_entity d).name) (λ e. is_eq (C e.0 d.0))
      (λ e. (λ i. same_name (entity_named e i) (entity_named d i))
      ∙ (sym (names_tie (components_of e.0.name) (components_of d.0.name)) ∙ ap is_eq (sym (goes e.0 d.0)))) es

  pub entity_sought : (q : Name) (es : List (Name × ValidatorEntityType))
      → option_map raw_entity (find (λ e. is_eq (C e.0 q)) es)
      ≡ find (λ e. same_name e.name (components_of q.name)) (map raw_entity es)
  entity_sought q es = find_map raw_entity (λ e. same_name e.name (components_of q.name)) (λ e. is_eq (C e.0 q))
      (λ e. (λ i. same_name (entity_named e i) (components_of q.name))
      ∙ (sym (names_tie (components_of e.0.name) (components_of q.name)) ∙ ap is_eq (sym (goes e.0 q)))) es

  module _ (U : EntityUID → EntityUID → Ordering)
      (by_both : (a b : EntityUID) → U a b ≡ ordering_then (C a.ty b.ty) (text_cmp a.eid.0 b.eid.0)) where
    pub action_found : (d : EntityUID × ValidatorActionId) (xs : List (EntityUID × ValidatorActionId))
        → option_map raw_action (find (λ a. is_eq (U a.0 d.0)) xs)
        ≡ find (λ a. same_key (action_name a) (action_name (raw_action d))) (map raw_action xs)
    action_found d xs = find_map raw_action (λ a. same_key (action_name a) (action_name (raw_action d)))
        (λ a. is_eq (U a.0 d.0))
        (λ a. (λ i. same_key (action_named a i) (action_named d i))
        ∙ ((λ i. sym (names_tie (components_of a.0.ty.name) (components_of d.0.ty.name)) i
        && sym (texts_tie a.0.eid.0 d.0.eid.0) i)
        ∙ (sym (is_eq_then (slice_cmp text_cmp (components_of a.0.ty.name) (components_of d.0.ty.name))
        (text_cmp a.0.eid.0 d.0.eid.0))
        ∙ ap is_eq (ap (λ r. ordering_then r (text_cmp a.0.eid.0 d.0.eid.0)) (sym (goes a.0.ty d.0.ty))
        ∙ sym (by_both a.0 d.0))))) xs

-- ---- one entry, and those behind it

pub each_step : {X Y B : Type 0} (f : Y → Option B) (g : X → Y) (xs : List X) (i : ℕ) (d : X) → i < length xs
    → d ≡ get_or xs i d → (o : Option B) → f (g d) ≡ o
    → first_of_each f (map g (drop i xs)) ≡ or_else o (first_of_each f (map g (drop (i + 1) xs)))
each_step f g xs i d h e o is = ap (λ l. first_of_each f (map g l)) (dropped xs i d h e)
    ∙ ap (λ x. or_else x (first_of_each f (map g (drop (i + 1) xs)))) is

module _ {X Y B V : Type 0} (s : B → V) (f : Y → Option B) (g : X → Y) where
  nothing_there : (o : Option B) → None ≡ option_map s o → o ≡ None
  nothing_there None h = refl
  nothing_there (Some b) h = absurd (cc)

  -- one that gives nothing
  pub each_skip : (xs : List X) (i : ℕ) (d : X) → i < length xs → d ≡ get_or xs i d
      → None ≡ option_map s (f (g d))
      → first_of_each f (map g (drop i xs)) ≡ first_of_each f (map g (drop (i + 1) xs))
  each_skip xs i d h e none = each_step f g xs i d h e None (nothing_there (f (g d)) none)

  hit_by : (v : V) (o rest : Option B) → Some v ≡ option_map s o → Some v ≡ option_map s (or_else o rest)
  hit_by v None rest h = absurd (cc)
  hit_by v (Some b) rest h = h

  -- one that gives something
  pub each_hit : (xs : List X) (i : ℕ) (d : X) → i < length xs → d ≡ get_or xs i d → (v : V)
      → Some v ≡ option_map s (f (g d)) → Some v ≡ option_map s (first_of_each f (map g (drop i xs)))
  each_hit xs i d h e v some = hit_by v (f (g d)) (first_of_each f (map g (drop (i + 1) xs))) some
      ∙ ap (option_map s) (sym (each_step f g xs i d h e (f (g d)) refl))

-- ---- an entity type, or an action, by what is found under its name

module _ (m n : SchemaMeaning) where
  pub own_entity : (raw o : EntityMeaning) (k : Option EntityMeaning) → o ≡ raw → raw.is_external ≡ false
      → k ≡ find (λ e. same_name e.name raw.name) n.entities → lost_entity_to m n o k ≡ lost_entity m n raw
  own_entity raw o k p own q = (λ i. lost_entity_to m n (p i) (q i))
      ∙ ap (λ b. cond b None (lost_entity_to m n raw (find (λ e. same_name e.name raw.name) n.entities))) (sym own)

  pub other_entity : (raw : EntityMeaning) → raw.is_external ≡ true → None ≡ lost_entity m n raw
  other_entity raw other = ap (λ b. cond b None (lost_entity_to m n raw
      (find (λ e. same_name e.name raw.name) n.entities))) (sym other)

  pub own_action : (raw o : ActionMeaning) (k : Option ActionMeaning) → o ≡ raw → raw.is_external ≡ false
      → k ≡ new_action m n raw → lost_request_of m n o k o.principals o.resources ≡ lost_request m n raw
  own_action raw o k p own q = (λ i. lost_request_of m n (p i) (q i) (p i).principals (p i).resources)
      ∙ ap (λ b. cond b None (lost_request_of m n raw (new_action m n raw) raw.principals raw.resources)) (sym own)

  pub other_action : (raw : ActionMeaning) → raw.is_external ≡ true → None ≡ lost_request m n raw
  other_action raw other =
      ap (λ b. cond b None (lost_request_of m n raw (new_action m n raw) raw.principals raw.resources)) (sym other)

  abbrev below_it : Action → Action → ActionIn
  below_it a b = record { action = a; ancestor = b }

  pub action_under : (raw o : ActionMeaning) (k : Option ActionMeaning) → o ≡ raw → k ≡ new_action m n raw
      → option_map (below_it (action_name o)) (lost_member same_key o.ancestors (ancestors_of m n k))
      ≡ lost_action m n raw
  action_under raw o k p q = λ i. option_map (below_it (action_name (p i)))
      (lost_member same_key (p i).ancestors (ancestors_of m n (q i)))
