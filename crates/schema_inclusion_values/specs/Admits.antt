-- The entities, requests and ancestors of actions that a meaning admits, and their order.
use Rattle.std.specs.Prelude.{◌≡◌, Bool, true, false, List, [], Option, Some, None, ⊤, MatchOption}
use Rattle.std.specs.List.{AllByRecursion}
use Rattle.std.specs.Ordering.{ordering_then}
use Rattle.std.specs.declared.cmp.Ordering.{Ordering}
use Rattle.std.specs.declared.cmp.Ordering.TheVariants.{Less}
use Rattle.std.specs.Cmp.Lexicographic.{slice_cmp}
use Rattle.cedar_data.specs.Text.{text_cmp}
use Rattle.cedar_names.specs.Meaning.{PlainType, EntityMeaning, ActionMeaning, SchemaMeaning}
use Rattle.schema_inclusion_values.specs.Values.{Text, Name, Val, Entries, no_entries, AllEntries, Rises, Has}
use Rattle.schema_inclusion_values.specs.Values as values
use Rattle.schema_inclusion_values.specs.Ids.{AnyOf, Fits}

-- its type and its id
abbrev pub Action : Type 0
Action = Name × Text

-- an entity: its type, its id, its attributes, its tags, its parents
pub record EntityValue : Type 0 where
  pub ty : Name
  pub id : Text
  pub attributes : Entries
  pub tags : Entries
  pub parents : List (Name × Text)

-- a request: an action, the types of principal and resource, a context
pub record RequestValue : Type 0 where
  pub action : Action
  pub principal : Name
  pub resource : Name
  pub context : Entries

-- an action with one that is above it
pub record ActionIn : Type 0 where
  pub action : Action
  pub ancestor : Action

-- what a meaning can admit
pub data SchemaValue : Type 0 where
  an_entity : EntityValue → SchemaValue
  a_request : RequestValue → SchemaValue
  an_action : ActionIn → SchemaValue

-- ---- entities

-- no tags, but tags by rising names with values of the type where there is one
abbrev pub HasTags : SchemaMeaning → Option PlainType → Entries → Type 0
HasTags m None tags = tags ≡ no_entries
HasTags m (Some t) tags = Rises tags × AllEntries (λ n v. Has (Fits m) t v) tags

-- the type of each is one of these, and has the id
abbrev pub HasParents : SchemaMeaning → List Name → List (Name × Text) → Type 0
HasParents m ancestors parents = AllByRecursion (λ p. AnyOf (λ a. a ≡ p.0) ancestors × Fits m p.0 p.1) parents

-- of a standard type any id will do; an enum has its choices alone, and an external type nothing
abbrev pub IsEntityOf : SchemaMeaning → EntityMeaning → Bool → Option (List Text) → EntityValue → Type 0
IsEntityOf m e true choices x = ⊥
IsEntityOf m e false None x = Has (Fits m) (PlainType.Rec e.attributes) (values.Rec x.attributes)
    × HasTags m e.tags x.tags × HasParents m e.ancestors x.parents
IsEntityOf m e false (Some choices) x = AnyOf (λ c. c ≡ x.id) choices × (x.attributes ≡ no_entries)
    × (x.tags ≡ no_entries) × (x.parents ≡ [])

-- ---- requests

-- the action is no other schema's, it applies to the principal and the resource, and the context is had
pub record IsRequestOf (m : SchemaMeaning) (a : ActionMeaning) (x : RequestValue) : Type 0 where
  pub own : a.is_external ≡ false
  pub principal : AnyOf (λ p. p ≡ x.principal) a.principals
  pub resource : AnyOf (λ r. r ≡ x.resource) a.resources
  pub context : Has (Fits m) (PlainType.Rec a.context) (values.Rec x.context)

-- the meaning admits it: the entity type, or the action, is one of its own and takes the value
abbrev pub Admits : SchemaMeaning → SchemaValue → Type 0
Admits m (an_entity x) = AnyOf (λ e. (e.name ≡ x.ty) × IsEntityOf m e e.is_external e.choices x) m.entities
Admits m (a_request x) = AnyOf (λ a. ((a.ty, a.id) ≡ x.action) × IsRequestOf m a x) m.actions
Admits m (an_action x) = AnyOf (λ a. ((a.ty, a.id) ≡ x.action) × AnyOf (λ b. b ≡ x.ancestor) a.ancestors) m.actions

-- ---- which stands before which

-- names by their components, each by bytes
abbrev pub name_order : Name → Name → Ordering
name_order = slice_cmp text_cmp

-- actions by their types, then by their ids
abbrev pub action_order : Action → Action → Ordering
action_order a b = ordering_then (name_order a.0 b.0) (text_cmp a.1 b.1)

-- entities by their types, then requests by their actions, then the ancestors of actions by these
abbrev pub Before : SchemaValue → SchemaValue → Type 0
Before (an_entity x) (an_entity y) = name_order x.ty y.ty ≡ Less
Before (an_entity x) _ = ⊤
Before (a_request x) (a_request y) = action_order x.action y.action ≡ Less
Before (a_request x) (an_action y) = ⊤
Before (an_action x) (an_action y) = action_order x.action y.action ≡ Less
Before _ _ = ⊥

-- the old meaning admits it, and the new one does not
abbrev pub IsLost : SchemaMeaning → SchemaMeaning → SchemaValue → Type 0
IsLost old new x = Admits old x × (Admits new x → ⊥)

-- and nothing that stands before it is lost
abbrev pub IsFirstLost : SchemaMeaning → SchemaMeaning → SchemaValue → Type 0
IsFirstLost old new x = IsLost old new x × ((y : SchemaValue) → Before y x → IsLost old new y → ⊥)

-- nothing is lost, or this is the first that is lost
abbrev pub IsInclusion : SchemaMeaning → SchemaMeaning → Option SchemaValue → Type 0
IsInclusion old new found = MatchOption found ((x : SchemaValue) → Admits old x → Admits new x) (IsFirstLost old new)
