-- A meaning that is settled is whole.
use Rattle.std.proofs.Common.{◌≡◌, ℕ, zero, suc, ◌<◌, Bool, true, false, List, [], ◌∷◌, length, get_or, Option, Some}
use Rattle.std.proofs.Common.{None, inl, inr, sym, subst, arith}
use Rattle.std.specs.Prelude.{◌⊎◌, map, Contains}
use Rattle.std.specs.List.{AllByRecursion}
use Rattle.std.specs.List.Sorted.{IsStrictlySortedBy}
use Rattle.std.specs.declared.cmp.Ordering.{Ordering}
use Rattle.std.specs.declared.cmp.Ordering.TheVariants.{Less}
use Rattle.cedar_data.specs.Text.{text_cmp}
use Rattle.cedar_names.specs.Meaning.{PlainType, Attributes, no_more, attribute, EntityMeaning, ActionMeaning}
use Rattle.cedar_names.specs.Meaning.{SchemaMeaning}
use Rattle.schema_inclusion_values.specs.Values.{Text, Name}
use Rattle.schema_inclusion_values.specs.Formed.{AboveFields, Distinct, DistinctFields}
use Rattle.schema_inclusion_values.specs.Ids.{AnyOf, IsNamed}
use Rattle.schema_inclusion_values.specs.Admits.{name_order, action_order}
use Rattle.schema_inclusion_values.specs.Whole.{Rise, NamesAll, NamesEach, IsWholeType, IsWholeTag, HasParts}
use Rattle.schema_inclusion_values.specs.Whole.{IsWholeEntity, IsWholeAction, IsWhole, entity_name, action_name}
use Rattle.schema_inclusion_values.specs.Settled.{names_of, IsOrdered, AreOrdered, IsDeclared, IsKnown, AreKnown}
use Rattle.schema_inclusion_values.specs.Settled.{AreTagsKnown, HasItsParts, IsSettledEntity, IsSettledAction}
use Rattle.schema_inclusion_values.specs.Settled.{IsSettled}

module _ {X K : Type 0} (key : X → K) where
  any_at : (xs : List X) (k : K) (i : ℕ) → i < length (map key xs) → get_or (map key xs) i k ≡ k
      → AnyOf (λ x. key x ≡ k) xs
  any_at [] k i lt e = absurd (omega (arith, lt))
  any_at (x ∷ xs) k zero lt e = inl e
  any_at (x ∷ xs) k (suc i) lt e = inr (any_at xs k i (omega (arith, lt)) e)

  any_of : (xs : List X) (k : K) → Contains (map key xs) k → AnyOf (λ x. key x ≡ k) xs
  any_of xs k h = any_at xs k h.0 h.1 h.2

  all_keys : (P : K → Type 0) (xs : List X) → AllByRecursion P (map key xs) → AllByRecursion (λ x. P (key x)) xs
  all_keys P [] h = tt
  all_keys P (x ∷ xs) h = (h.0, all_keys P xs h.1)

  rise : (order : K → K → Ordering) (xs : List X) → IsStrictlySortedBy order (map key xs) → Rise order key xs
  unfolding IsStrictlySortedBy
  rise order [] h = tt
  rise order (x ∷ xs) h = (all_keys (λ y. order (key x) y ≡ Less) xs h.0, rise order xs h.1)

above : (n : Text) (fs : Attributes) → AllByRecursion (λ y. text_cmp n y ≡ Less) (names_of fs) → AboveFields n fs
above n no_more h = tt
above n (attribute k r t fs) h = (h.0, above n fs h.1)

mutual
  unfolding IsStrictlySortedBy

  distinct : (t : PlainType) → IsOrdered t → Distinct t
  distinct PlainType.Bool h = tt
  distinct PlainType.Long h = tt
  distinct PlainType.String h = tt
  distinct (PlainType.Ext n) h = tt
  distinct (PlainType.Entity n) h = tt
  distinct (PlainType.Set t) h = distinct t h
  distinct (PlainType.Rec fs) h = distinct_fields fs h.0 h.1

  distinct_fields : (fs : Attributes) → IsStrictlySortedBy text_cmp (names_of fs) → AreOrdered fs → DistinctFields fs
  distinct_fields no_more rises h = tt
  distinct_fields (attribute n r t fs) rises h = (distinct t h.0, above n fs rises.0, distinct_fields fs rises.1 h.1)

module _ (m : SchemaMeaning) where
  declared : (name : Name) → IsDeclared m name → IsNamed m name
  declared name h = inl (any_of (λ e. e.name) m.entities name h)

  known_name : (name : Name) → IsDeclared m name ⊎ Contains (map (λ a. a.ty) m.actions) name → IsNamed m name
  known_name name (inl h) = declared name h
  known_name name (inr h) = inr (any_of (λ a. a.ty) m.actions name h)

  mutual
    names_all : (t : PlainType) → IsKnown m t → NamesAll m t
    names_all PlainType.Bool h = tt
    names_all PlainType.Long h = tt
    names_all PlainType.String h = tt
    names_all (PlainType.Ext n) h = tt
    names_all (PlainType.Entity n) h = known_name n h
    names_all (PlainType.Set t) h = names_all t h
    names_all (PlainType.Rec fs) h = names_each fs h

    names_each : (fs : Attributes) → AreKnown m fs → NamesEach m fs
    names_each no_more h = tt
    names_each (attribute n r t fs) h = (names_all t h.0, names_each fs h.1)

  pub whole_type : (t : PlainType) → IsOrdered t → IsKnown m t → IsWholeType m t
  whole_type t o k = (distinct t o, names_all t k)

  whole_tag : (t : Option PlainType) → AreTagsKnown m t → IsWholeTag m t
  whole_tag None h = tt
  whole_tag (Some t) h = whole_type t h.0 h.1

  parts_of : (e : EntityMeaning) (external : Bool) (choices : Option (List Text)) → HasItsParts external choices e
      → HasParts choices e
  parts_of e true choices h = subst (λ c. HasParts c e) (sym h.2) tt
  parts_of e false None h = tt
  parts_of e false (Some cs) h = h

  all_from : {X : Type 0} (P Q : X → Type 0) → ((x : X) → P x → Q x) → (xs : List X) → AllByRecursion P xs
      → AllByRecursion Q xs
  all_from P Q f [] h = tt
  all_from P Q f (x ∷ xs) h = (f x h.0, all_from P Q f xs h.1)

  whole_entity : (e : EntityMeaning) → IsSettledEntity m e → IsWholeEntity m e
  whole_entity e h = record {
    parts = parts_of e e.is_external e.choices h.parts;
    choices = h.choices;
    ancestors = all_from (IsDeclared m) (IsNamed m) declared e.ancestors h.ancestors;
    attributes = whole_type (PlainType.Rec e.attributes) h.ordered h.attributes;
    tags = whole_tag e.tags h.tags;
  }

  whole_action : (a : ActionMeaning) → IsSettledAction m a → IsWholeAction m a
  whole_action a h = whole_type (PlainType.Rec a.context) h.ordered h.context

  pub whole : IsSettled m → IsWhole m
  whole h = record {
    entities_rise = rise entity_name name_order m.entities h.entities_rise;
    actions_rise = rise action_name action_order m.actions h.actions_rise;
    entities = all_from (IsSettledEntity m) (IsWholeEntity m) whole_entity m.entities h.entities;
    actions = all_from (IsSettledAction m) (IsWholeAction m) whole_action m.actions h.actions;
  }
