-- Why a meaning does not admit a value.
use Rattle.std.specs.Prelude.{◌≡◌, ◌⊎◌, ◌+◌, ◌<◌, ℕ, false, List, [], ◌∷◌, Some, None}
use Rattle.cedar_names.specs.Meaning.{PlainType, EntityMeaning, ActionMeaning, SchemaMeaning}
use Rattle.schema_inclusion_values.specs.Values.{Text, Name, no_entries}
use Rattle.schema_inclusion_values.specs.Values as values
use Rattle.schema_inclusion_values.specs.Ids.{AnyOf, TakesId, Fits}
use Rattle.schema_inclusion_values.specs.Admits.{Action, EntityValue, RequestValue, SchemaValue, an_entity}
use Rattle.schema_inclusion_values.specs.Admits.{a_request, an_action}
use Rattle.schema_inclusion_reasons.specs.Places.{member, Path, PathBefore}
use Rattle.schema_inclusion_reasons.specs.Misfits.{Cause, IsMisfit, IsTagMisfit}

-- Of an entity: there is no entity type of its own; the id is no choice; a misfit in the attributes; there are no tags;
-- a misfit in the tags; the parent at a place is of a type that is no ancestor, or has an id that its type has not.
-- Of a request or an action: there is no such action; the principal or the resource is none of the action's; a misfit
-- in the context; the ancestor is none of the action's.
pub data Reason : Type 0 where
  type_gone : Name → Reason
  choice_gone : Text → Reason
  in_attributes : Path → Cause → Reason
  tags_gone : Reason
  in_tags : Path → Cause → Reason
  parent_type_gone : ℕ → Name → Reason
  parent_gone : ℕ → Name → Text → Reason
  action_gone : Action → Reason
  principal_gone : Name → Reason
  resource_gone : Name → Reason
  in_context : Path → Cause → Reason
  ancestor_gone : Action → Reason

-- P holds of the item at the place i, where the first of these is at the place k
abbrev pub AtItem : {A : Type 0} → (A → Type 0) → ℕ → List A → ℕ → Type 0
AtItem P k [] i = ⊥
AtItem P k (x ∷ xs) i = ((k ≡ i) × P x) ⊎ AtItem P (k + 1) xs i

-- one of these is this one
abbrev pub IsOneOf : {A : Type 0} → A → List A → Type 0
IsOneOf a xs = AnyOf (λ x. x ≡ a) xs

-- of an entity of this type
abbrev pub IsEntityReason : SchemaMeaning → EntityMeaning → EntityValue → Reason → Type 0
IsEntityReason m e x (choice_gone id) = (id ≡ x.id) × (TakesId e.choices id → ⊥)
IsEntityReason m e x (in_attributes p c) = IsMisfit (Fits m) (PlainType.Rec e.attributes) (values.Rec x.attributes) p c
IsEntityReason m e x tags_gone = (e.tags ≡ None) × (x.tags ≡ no_entries → ⊥)
IsEntityReason m e x (in_tags p c) = (t : PlainType) × (e.tags ≡ Some t) × IsTagMisfit (Fits m) t x.tags p c
IsEntityReason m e x (parent_type_gone i n) = (IsOneOf n e.ancestors → ⊥) × AtItem (λ p. p.0 ≡ n) 0 x.parents i
IsEntityReason m e x (parent_gone i n id) = IsOneOf n e.ancestors × (Fits m n id → ⊥)
    × AtItem (λ p. p ≡ (n, id)) 0 x.parents i
IsEntityReason m e x r = ⊥

-- of a request of this action
abbrev pub IsRequestReason : SchemaMeaning → ActionMeaning → RequestValue → Reason → Type 0
IsRequestReason m a x (principal_gone n) = (n ≡ x.principal) × (IsOneOf n a.principals → ⊥)
IsRequestReason m a x (resource_gone n) = (n ≡ x.resource) × (IsOneOf n a.resources → ⊥)
IsRequestReason m a x (in_context p c) = IsMisfit (Fits m) (PlainType.Rec a.context) (values.Rec x.context) p c
IsRequestReason m a x r = ⊥

-- the meaning does not admit the value for this reason
abbrev pub IsReason : SchemaMeaning → SchemaValue → Reason → Type 0
IsReason m (an_entity x) (type_gone n) = (n ≡ x.ty)
    × (AnyOf (λ e. (e.name ≡ n) × (e.is_external ≡ false)) m.entities → ⊥)
IsReason m (an_entity x) r =
    AnyOf (λ e. (e.name ≡ x.ty) × ((e.is_external ≡ false) × IsEntityReason m e x r)) m.entities
IsReason m (a_request x) (action_gone a) = (a ≡ x.action)
    × (AnyOf (λ b. ((b.ty, b.id) ≡ a) × (b.is_external ≡ false)) m.actions → ⊥)
IsReason m (a_request x) r =
    AnyOf (λ a. ((a.ty, a.id) ≡ x.action) × ((a.is_external ≡ false) × IsRequestReason m a x r)) m.actions
IsReason m (an_action x) (action_gone a) = (a ≡ x.action) × (AnyOf (λ b. (b.ty, b.id) ≡ a) m.actions → ⊥)
IsReason m (an_action x) (ancestor_gone b) = (b ≡ x.ancestor)
    × AnyOf (λ a. ((a.ty, a.id) ≡ x.action) × (IsOneOf b a.ancestors → ⊥)) m.actions
IsReason m (an_action x) r = ⊥

-- ---- which reason stands before which

-- the part of a value that the reason is about
abbrev pub part_of : Reason → ℕ
part_of (type_gone n) = 0
part_of (choice_gone id) = 1
part_of (in_attributes p c) = 2
part_of tags_gone = 3
part_of (in_tags p c) = 3
part_of (parent_type_gone i n) = 4
part_of (parent_gone i n id) = 4
part_of (action_gone a) = 0
part_of (principal_gone n) = 1
part_of (resource_gone n) = 2
part_of (in_context p c) = 3
part_of (ancestor_gone a) = 4

-- the place in that part
abbrev pub path_of : Reason → Path
path_of (in_attributes p c) = p
path_of (in_tags p c) = p
path_of (in_context p c) = p
path_of (parent_type_gone i n) = member i ∷ []
path_of (parent_gone i n id) = member i ∷ []
path_of _ = []

-- by the parts of a value, and in one part by their places
abbrev pub ReasonBefore : Reason → Reason → Type 0
ReasonBefore r s = (part_of r < part_of s) ⊎ ((part_of r ≡ part_of s) × PathBefore (path_of r) (path_of s))

-- it is a reason, and none stands before it
abbrev pub IsFirstReason : SchemaMeaning → SchemaValue → Reason → Type 0
IsFirstReason m x r = IsReason m x r × ((s : Reason) → ReasonBefore s r → IsReason m x s → ⊥)
