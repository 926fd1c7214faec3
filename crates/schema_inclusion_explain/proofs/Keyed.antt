-- Entries by what they mean: the one of a name.
use Rattle.std.proofs.Common.{◌≡◌, ℕ, Bool, true, false, cond, ◌&&◌, List, [], ◌∷◌, map, Some, refl, sym}
use Rattle.std.proofs.Common.{ap}
use Rattle.std.proofs.Common.{◌∙◌}
use Rattle.std.specs.declared.cmp.Ordering.{Ordering}
use Rattle.std.specs.List.{find}
use Rattle.std.specs.Option.{option_map}
use Rattle.std.specs.Ordering.{is_eq, ordering_then}
use Rattle.std.specs.Cmp.Lexicographic.{slice_cmp}
use Rattle.cedar_data.specs.Text.{text_cmp}
use Rattle.cedar_data.proofs.Orders.{is_eq_then}
use Rattle.cedar_identifiers.specs.Names.{components_of}
use Rattle.cedar_identifiers.specs.declared.name.Name.{Name}
use Rattle.cedar_names.specs.Definitions.{same_name, action_of}
use Rattle.cedar_names.specs.declared.entity_uid.EntityUID.{EntityUID}
use Rattle.schema_build_types.specs.declared.entity_type.ValidatorEntityType.{ValidatorEntityType}
use Rattle.schema_build_types.specs.declared.entity_type.ValidatorEntityTypeKind.{ValidatorEntityTypeKind}
use Rattle.schema_build_types.specs.declared.entity_type.ValidatorEntityTypeKind.TheVariants as kind
use Rattle.schema_build_types.specs.declared.action.ValidatorActionId.{ValidatorActionId}
use Rattle.schema_build_types.specs.declared.action.ValidatorActionKind.{ValidatorActionKind}
use Rattle.schema_build_types.specs.declared.action.ValidatorActionKind.TheVariants as action
use Rattle.schema_inclusion_values.specs.Admits.{Action}
use Rattle.schema_inclusion_values.specs.Lost.{same_key}
use Rattle.schema_inclusion_values.specs.Whole.{action_name}
use Rattle.schema_inclusion_types.proofs.Ties.{names_tie, texts_tie}
use Rattle.schema_inclusion_check.specs.Raw.{raw_names, raw_kind, raw_entity, raw_applies, raw_action}

raw_named : (n : List (List ℕ)) (above : List (List (List ℕ))) (k : ValidatorEntityTypeKind)
    → (raw_kind n above k).name ≡ n
raw_named n above (kind.Standard attributes more tags) = refl
raw_named n above (kind.Enum choices) = refl
raw_named n above kind.External = refl

pub entity_named : (e : Name × ValidatorEntityType) → (raw_entity e).name ≡ components_of e.0.name
entity_named e = raw_named (components_of e.0.name) (raw_names e.1.ancestors) e.1.kind

applies_named : (a : Action) (above : List Action) (k : ValidatorActionKind) → action_name (raw_applies a above k) ≡ a
applies_named a above (action.Defined principals resources context) = refl
applies_named a above action.External = refl

pub action_named : (a : EntityUID × ValidatorActionId) → action_name (raw_action a) ≡ action_of a.0
action_named a = applies_named (action_of a.0) (map action_of a.1.ancestors) a.1.kind

pub find_map : {X Y : Type 0} (f : X → Y) (p : Y → Bool) (q : X → Bool) → ((x : X) → p (f x) ≡ q x) → (xs : List X)
    → option_map f (find q xs) ≡ find p (map f xs)
find_map f p q same [] = refl
find_map f p q same (x ∷ xs) = by (q x) refl (find_map f p q same xs)
  where
    by : (b : Bool) → q x ≡ b → option_map f (find q xs) ≡ find p (map f xs)
        → option_map f (cond (q x) (Some x) (find q xs)) ≡ cond (p (f x)) (Some (f x)) (find p (map f xs))
    by true e rest = ap (λ b. option_map f (cond b (Some x) (find q xs))) e
        ∙ ap (λ b. cond b (Some (f x)) (find p (map f xs))) (sym (same x ∙ e))
    by false e rest = ap (λ b. option_map f (cond b (Some x) (find q xs))) e
        ∙ (rest ∙ ap (λ b. cond b (Some (f x)) (find p (map f xs))) (sym (same x ∙ e)))

module _ (C : Name → Name → Ordering)
    (goes : (a b : Name) → C a b ≡ slice_cmp text_cmp (components_of a.name) (components_of b.name)) where
  pub entity_sought : (q : Name) (es : List (Name × ValidatorEntityType))
      → option_map raw_entity (find (λ e. is_eq (C e.0 q)) es)
      ≡ find (λ e. same_name e.name (components_of q.name)) (map raw_entity es)
  entity_sought q es = find_map raw_entity (λ e. same_name e.name (components_of q.name)) (λ e. is_eq (C e.0 q))
      (λ e. (λ i. same_name (entity_named e i) (components_of q.name))
      ∙ (sym (names_tie (components_of e.0.name) (components_of q.name)) ∙ ap is_eq (sym (goes e.0 q)))) es

  module _ (U : EntityUID → EntityUID → Ordering)
      (by_both : (a b : EntityUID) → U a b ≡ ordering_then (C a.ty b.ty) (text_cmp a.eid.0 b.eid.0)) where
    pub action_sought : (q : EntityUID) (xs : List (EntityUID × ValidatorActionId))
        → option_map raw_action (find (λ a. is_eq (U a.0 q)) xs)
        ≡ find (λ a. same_key (action_name a) (action_of q)) (map raw_action xs)
    action_sought q xs = find_map raw_action (λ a. same_key (action_name a) (action_of q))
        (λ a. is_eq (U a.0 q))
        (λ a. (λ i. same_key (action_named a i) (action_of q))
        ∙ ((λ i. sym (names_tie (components_of a.0.ty.name) (components_of q.ty.name)) i
        && sym (texts_tie a.0.eid.0 q.eid.0) i)
        ∙ (sym (is_eq_then (slice_cmp text_cmp (components_of a.0.ty.name) (components_of q.ty.name))
        (text_cmp a.0.eid.0 q.eid.0))
        ∙ ap is_eq (ap (λ r. ordering_then r (text_cmp a.0.eid.0 q.eid.0)) (sym (goes a.0.ty q.ty))
        ∙ sym (by_both a.0 q))))) xs
