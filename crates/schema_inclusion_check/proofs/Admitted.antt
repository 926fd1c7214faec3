-- A meaning admits what it admits with its lists in order.
use Rattle.std.proofs.Common.{◌≡◌, ℕ, Bool, true, false, List, [], ◌∷◌, map, Option, Some, None, inl, inr, refl}
use Rattle.std.proofs.Common.{subst, sym}
use Rattle.std.specs.Prelude.{◌⊎◌, ◌↔◌, MatchOption}
use Rattle.std.specs.List.{AllByRecursion}
use Rattle.cedar_names.specs.CanonicalText.{in_order}
use Rattle.cedar_names.specs.Meaning.{PlainType, EntityMeaning, ActionMeaning, SchemaMeaning}
use Rattle.schema_inclusion_values.specs.Values.{Text, Name, Entries, Rises, AllEntries, Has}
use Rattle.schema_inclusion_values.specs.Values as values
use Rattle.schema_inclusion_values.specs.Ids.{AnyOf, TakesId, Fits}
use Rattle.schema_inclusion_values.specs.Admits.{Action, EntityValue, RequestValue, ActionIn, SchemaValue, an_entity}
use Rattle.schema_inclusion_values.specs.Admits.{a_request, an_action, HasTags, HasParents, IsEntityOf, IsRequestOf}
use Rattle.schema_inclusion_values.specs.Admits.{Admits, Before, IsLost, IsFirstLost, IsInclusion}
use Rattle.schema_inclusion_check.specs.Ordered.{entity_in_order, action_in_order, meaning_in_order}
use Rattle.schema_inclusion_check.proofs.Membership.{names_in, names_out, actions_in, actions_out}

any_map : {A B : Type 0} (P : B → Type 0) (f : A → B) (xs : List A) → AnyOf P (map f xs) ≡ AnyOf (λ x. P (f x)) xs
any_map P f [] = refl
any_map P f (x ∷ xs) = λ i. P (f x) ⊎ any_map P f xs i

any_weaker : {A : Type 0} (P Q : A → Type 0) → ((x : A) → P x → Q x) → (xs : List A) → AnyOf P xs → AnyOf Q xs
any_weaker P Q f [] h = h
any_weaker P Q f (x ∷ xs) (inl p) = inl (f x p)
any_weaker P Q f (x ∷ xs) (inr h) = inr (any_weaker P Q f xs h)

all_weaker : {A : Type 0} (P Q : A → Type 0) → ((x : A) → P x → Q x) → (xs : List A) → AllByRecursion P xs
    → AllByRecursion Q xs
all_weaker P Q f [] h = tt
all_weaker P Q f (x ∷ xs) h = (f x h.0, all_weaker P Q f xs h.1)

module _ (m : SchemaMeaning) where
  abbrev o : SchemaMeaning
  o = meaning_in_order m

  -- ids fit alike
  pub fits_same : Fits o ≡ Fits m
  fits_same = λ i ty id. any_map (λ e. (e.name ≡ ty) × TakesId e.choices id) entity_in_order m.entities i
      ⊎ any_map (λ a. (a.ty ≡ ty) × (a.id ≡ id)) action_in_order m.actions i

  tags_to : (t : Option PlainType) (tags : Entries) → HasTags o t tags → HasTags m t tags
  tags_to None tags h = h
  tags_to (Some t) tags h = subst (λ F. Rises tags × AllEntries (λ n v. Has F t v) tags) fits_same h

  tags_from : (t : Option PlainType) (tags : Entries) → HasTags m t tags → HasTags o t tags
  tags_from None tags h = h
  tags_from (Some t) tags h = subst (λ F. Rises tags × AllEntries (λ n v. Has F t v) tags) (sym fits_same) h

  parents_to : (above : List Name) (ps : List (Name × Text)) → HasParents o (in_order above) ps
      → HasParents m above ps
  parents_to above ps h = all_weaker _ _
      (λ p g. (names_out (λ a. a ≡ p.0) above g.0, subst (λ F. F p.0 p.1) fits_same g.1)) ps h

  parents_from : (above : List Name) (ps : List (Name × Text)) → HasParents m above ps
      → HasParents o (in_order above) ps
  parents_from above ps h = all_weaker _ _
      (λ p g. (names_in (λ a. a ≡ p.0) above g.0, subst (λ F. F p.0 p.1) (sym fits_same) g.1)) ps h

  entity_to : (e : EntityMeaning) (external : Bool) (choices : Option (List Text)) (x : EntityValue)
      → IsEntityOf o (entity_in_order e) external choices x → IsEntityOf m e external choices x
  entity_to e true choices x h = h
  entity_to e false None x h = (
    subst (λ F. Has F (PlainType.Rec e.attributes) (values.Rec x.attributes)) fits_same h.0,
    tags_to e.tags x.tags h.1,
    parents_to e.ancestors x.parents h.2,
  )
  entity_to e false (Some choices) x h = h

  entity_from : (e : EntityMeaning) (external : Bool) (choices : Option (List Text)) (x : EntityValue)
      → IsEntityOf m e external choices x → IsEntityOf o (entity_in_order e) external choices x
  entity_from e true choices x h = h
  entity_from e false None x h = (
    subst (λ F. Has F (PlainType.Rec e.attributes) (values.Rec x.attributes)) (sym fits_same) h.0,
    tags_from e.tags x.tags h.1,
    parents_from e.ancestors x.parents h.2,
  )
  entity_from e false (Some choices) x h = h

  request_to : (a : ActionMeaning) (x : RequestValue) → IsRequestOf o (action_in_order a) x → IsRequestOf m a x
  request_to a x h = record {
    own = h.own;
    principal = names_out (λ p. p ≡ x.principal) a.principals h.principal;
    resource = names_out (λ r. r ≡ x.resource) a.resources h.resource;
    context = subst (λ F. Has F (PlainType.Rec a.context) (values.Rec x.context)) fits_same h.context;
  }

  request_from : (a : ActionMeaning) (x : RequestValue) → IsRequestOf m a x → IsRequestOf o (action_in_order a) x
  request_from a x h = record {
    own = h.own;
    principal = names_in (λ p. p ≡ x.principal) a.principals h.principal;
    resource = names_in (λ r. r ≡ x.resource) a.resources h.resource;
    context = subst (λ F. Has F (PlainType.Rec a.context) (values.Rec x.context)) (sym fits_same) h.context;
  }

  pub admits_to : (x : SchemaValue) → Admits o x → Admits m x
  admits_to (an_entity x) h = any_weaker _ _ (λ e g. (g.0, entity_to e e.is_external e.choices x g.1)) m.entities
      (subst (λ T. T) (any_map (λ e. (e.name ≡ x.ty) × IsEntityOf o e e.is_external e.choices x) entity_in_order
      m.entities) h)
  admits_to (a_request x) h = any_weaker _ _ (λ a g. (g.0, request_to a x g.1)) m.actions
      (subst (λ T. T) (any_map (λ a. ((a.ty, a.id) ≡ x.action) × IsRequestOf o a x) action_in_order m.actions) h)
  admits_to (an_action x) h = any_weaker _ _ (λ a g. (g.0, actions_out (λ b. b ≡ x.ancestor) a.ancestors g.1)) m.actions
      (subst (λ T. T) (any_map (λ a. ((a.ty, a.id) ≡ x.action) × AnyOf (λ b. b ≡ x.ancestor) a.ancestors)
      action_in_order m.actions) h)

  pub admits_from : (x : SchemaValue) → Admits m x → Admits o x
  admits_from (an_entity x) h = subst (λ T. T)
      (sym (any_map (λ e. (e.name ≡ x.ty) × IsEntityOf o e e.is_external e.choices x) entity_in_order m.entities))
      (any_weaker _ _ (λ e g. (g.0, entity_from e e.is_external e.choices x g.1)) m.entities h)
  admits_from (a_request x) h = subst (λ T. T)
      (sym (any_map (λ a. ((a.ty, a.id) ≡ x.action) × IsRequestOf o a x) action_in_order m.actions))
      (any_weaker _ _ (λ a g. (g.0, request_from a x g.1)) m.actions h)
  admits_from (an_action x) h = subst (λ T. T)
      (sym (any_map (λ a. ((a.ty, a.id) ≡ x.action) × AnyOf (λ b. b ≡ x.ancestor) a.ancestors) action_in_order
      m.actions))
      (any_weaker _ _ (λ a g. (g.0, actions_in (λ b. b ≡ x.ancestor) a.ancestors g.1)) m.actions h)

-- so what is lost between two meanings is lost between them in order
module _ (m n : SchemaMeaning) where
  lost_in_order : (x : SchemaValue) → IsLost m n x → IsLost (meaning_in_order m) (meaning_in_order n) x
  lost_in_order x h = (admits_from m x h.0, λ g. h.1 (admits_to n x g))

  lost_as_it_stands : (x : SchemaValue) → IsLost (meaning_in_order m) (meaning_in_order n) x → IsLost m n x
  lost_as_it_stands x h = (admits_to m x h.0, λ g. h.1 (admits_from n x g))

  pub inclusion_in_order : (found : Option SchemaValue) → IsInclusion m n found
      → IsInclusion (meaning_in_order m) (meaning_in_order n) found
  inclusion_in_order None h = λ x g. admits_from n x (h x (admits_to m x g))
  inclusion_in_order (Some x) h =
      (lost_in_order x h.0, λ y before g. h.1 y before (lost_as_it_stands y g))
