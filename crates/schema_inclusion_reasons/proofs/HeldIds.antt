-- Which ids an entity type has, and what is at a name and at an action.
use Rattle.std.proofs.Common.{◌≡◌, Bool, true, false, List, [], ◌∷◌, Option, Some, None, inl, inr, refl, ap}
use Rattle.std.specs.Prelude.{◌⊎◌, ◌||◌, ⊤}
use Rattle.cedar_names.specs.Definitions.{same_name}
use Rattle.cedar_names.proofs.Defined.{equal_names, name_itself}
use Rattle.cedar_names.specs.Meaning.{EntityMeaning, ActionMeaning, SchemaMeaning}
use Rattle.schema_inclusion_values.specs.Values.{Text, Name}
use Rattle.schema_inclusion_values.specs.Ids.{AnyOf, TakesId, Fits}
use Rattle.schema_inclusion_values.specs.Admits.{Action, name_order, action_order}
use Rattle.schema_inclusion_values.specs.Whole.{IsWhole, IsWholeEntity, IsWholeAction, entity_name, action_name}
use Rattle.schema_inclusion_values.specs.Lost.{same_key}
use Rattle.schema_inclusion_values.proofs.Ids.{had_text, not_had}
use Rattle.schema_inclusion_values.proofs.Entities.{name_total}
use Rattle.schema_inclusion_values.proofs.Requests.{action_total, equal_keys, key_itself}
use Rattle.schema_inclusion_values.proofs.Walks.{Stands, stands}
use Rattle.schema_inclusion_reasons.specs.FirstReason.{takes, entity_takes, is_found, entity_named, action_named}
use Rattle.schema_inclusion_reasons.specs.FirstReason.{has_id}

pub any_from : {X : Type 0} (P Q : X → Type 0) → ((x : X) → P x → Q x) → (xs : List X) → AnyOf P xs → AnyOf Q xs
any_from P Q f [] h = absurd h
any_from P Q f (x ∷ xs) (inl h) = inl (f x h)
any_from P Q f (x ∷ xs) (inr h) = inr (any_from P Q f xs h)

pub taken : (choices : Option (List Text)) (id : Text) → takes choices id ≡ true → TakesId choices id
taken None id e = tt
taken (Some cs) id e = had_text cs id e

pub not_taken : (choices : Option (List Text)) (id : Text) → takes choices id ≡ false → TakesId choices id → ⊥
not_taken None id e h = absurd (cc)
not_taken (Some cs) id e h = not_had cs id e h

module _ (m : SchemaMeaning) (w : IsWhole m) where
  -- what stands at the name
  abbrev pub AtName : (EntityMeaning → Type 0) → Name → Option EntityMeaning → Type 0
  AtName P ty = Stands name_order name_total entity_name same_name equal_names name_itself P (IsWholeEntity m) ty
      m.entities

  pub entity_at : (P : EntityMeaning → Type 0) (ty : Name) → AtName P ty (entity_named m ty)
  entity_at P ty = stands name_order name_total entity_name same_name equal_names name_itself P (IsWholeEntity m) ty
      m.entities w.entities_rise w.entities

  -- what stands at the action
  abbrev pub AtAction : (ActionMeaning → Type 0) → Action → Option ActionMeaning → Type 0
  AtAction P a = Stands action_order action_total action_name same_key equal_keys key_itself P (IsWholeAction m) a
      m.actions

  pub action_at : (P : ActionMeaning → Type 0) (a : Action) → AtAction P a (action_named m a)
  action_at P a = stands action_order action_total action_name same_key equal_keys key_itself P (IsWholeAction m) a
      m.actions w.actions_rise w.actions

  -- ---- ids

  abbrev OfType : Name → Text → ActionMeaning → Type 0
  OfType ty id a = (a.ty ≡ ty) × (a.id ≡ id)

  abbrev OfKey : Name → Text → ActionMeaning → Type 0
  OfKey ty id a = (action_name a ≡ (ty, id)) × ⊤

  keyed : (ty : Name) (id : Text) (a : ActionMeaning) → OfType ty id a → OfKey ty id a
  keyed ty id a h = (λ i. (h.0 i, h.1 i), tt)

  typed : (ty : Name) (id : Text) (a : ActionMeaning) → OfKey ty id a → OfType ty id a
  typed ty id a h = (ap (λ k. k.0) h.0, ap (λ k. k.1) h.0)

  abbrev Takes : Name → Text → Type 0
  Takes ty id = AnyOf (λ e. (e.name ≡ ty) × TakesId e.choices id) m.entities

  entity_true : (ty : Name) (id : Text) (found : Option EntityMeaning) → AtName (λ e. TakesId e.choices id) ty found
      → entity_takes found id ≡ true → Takes ty id
  entity_true ty id None at e = absurd (cc)
  entity_true ty id (Some n) at e = at.2 (taken n.choices id e)

  entity_false : (ty : Name) (id : Text) (found : Option EntityMeaning) → AtName (λ e. TakesId e.choices id) ty found
      → entity_takes found id ≡ false → Takes ty id → ⊥
  entity_false ty id None at e h = at h
  entity_false ty id (Some n) at e h = not_taken n.choices id e (at.3 h)

  action_true : (ty : Name) (id : Text) (found : Option ActionMeaning) → AtAction (λ a. ⊤) (ty, id) found
      → is_found found ≡ true → AnyOf (OfType ty id) m.actions
  action_true ty id None at e = absurd (cc)
  action_true ty id (Some n) at e = any_from (OfKey ty id) (OfType ty id) (typed ty id) m.actions (at.2 tt)

  action_false : (ty : Name) (id : Text) (found : Option ActionMeaning) → AtAction (λ a. ⊤) (ty, id) found
      → is_found found ≡ false → AnyOf (OfType ty id) m.actions → ⊥
  action_false ty id None at e h = at (any_from (OfType ty id) (OfKey ty id) (keyed ty id) m.actions h)
  action_false ty id (Some n) at e h = absurd (cc)

  either : (b c : Bool) → (b || c) ≡ true → (b ≡ true) ⊎ (c ≡ true)
  either true c e = inl refl
  either false c e = inr e

  neither : (b c : Bool) → (b || c) ≡ false → (b ≡ false) × (c ≡ false)
  neither true c e = absurd (cc)
  neither false c e = (refl, e)

  pub id_fits : (ty : Name) (id : Text) → has_id m ty id ≡ true → Fits m ty id
  id_fits ty id e = go (either (entity_takes (entity_named m ty) id) (is_found (action_named m (ty, id))) e)
    where
      go : (entity_takes (entity_named m ty) id ≡ true) ⊎ (is_found (action_named m (ty, id)) ≡ true) → Fits m ty id
      go (inl h) = inl (entity_true ty id (entity_named m ty) (entity_at (λ e. TakesId e.choices id) ty) h)
      go (inr h) = inr (action_true ty id (action_named m (ty, id)) (action_at (λ a. ⊤) (ty, id)) h)

  pub id_unfit : (ty : Name) (id : Text) → has_id m ty id ≡ false → Fits m ty id → ⊥
  id_unfit ty id e (inl h) = entity_false ty id (entity_named m ty) (entity_at (λ e. TakesId e.choices id) ty)
      (neither (entity_takes (entity_named m ty) id) (is_found (action_named m (ty, id))) e).0 h
  id_unfit ty id e (inr h) = action_false ty id (action_named m (ty, id)) (action_at (λ a. ⊤) (ty, id))
      (neither (entity_takes (entity_named m ty) id) (is_found (action_named m (ty, id))) e).1 h
