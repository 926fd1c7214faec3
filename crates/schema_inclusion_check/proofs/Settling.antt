-- A meaning that is settled with its lists in order is settled as it stands.
use Rattle.std.proofs.Common.{◌≡◌, ℕ, Bool, true, false, List, [], ◌∷◌, map, Contains, Option, Some, None, inl, inr}
use Rattle.std.proofs.Common.{refl}
use Rattle.std.proofs.Common.{subst, sym, ap}
use Rattle.std.specs.Prelude.{◌⊎◌}
use Rattle.std.specs.BTreeSet.{insert_key}
use Rattle.std.specs.Cmp.Lexicographic.{slice_cmp}
use Rattle.std.specs.List.{AllByRecursion}
use Rattle.std.specs.List.Sorted.{IsStrictlySortedBy}
use Rattle.std.specs.Ordering.{match_ordering}
use Rattle.std.specs.declared.cmp.Ordering.{Ordering}
use Rattle.std.specs.declared.cmp.Ordering.TheVariants.{Less, Equal, Greater}
use Rattle.cedar_data.specs.Text.{text_cmp}
use Rattle.cedar_data.proofs.Orders.{texts_exact}
use Rattle.cedar_names.specs.CanonicalText.{in_order}
use Rattle.cedar_names.specs.Meaning.{PlainType, Attributes, no_more, attribute, EntityMeaning, ActionMeaning}
use Rattle.cedar_names.specs.Meaning.{SchemaMeaning}
use Rattle.schema_inclusion_values.specs.Values.{Text, Name}
use Rattle.schema_inclusion_values.specs.Admits.{name_order, action_order}
use Rattle.schema_inclusion_values.specs.Settled.{IsDeclared, IsKnown, AreKnown, AreTagsKnown, HasItsParts, IsOrdered}
use Rattle.schema_inclusion_values.specs.Settled.{IsSettledEntity, IsSettledAction, IsSettled}
use Rattle.schema_inclusion_check.specs.Ordered.{entity_in_order, action_in_order, meaning_in_order}

map_same : {A B K : Type 0} (f : A → B) (g : B → K) (xs : List A) → map g (map f xs) ≡ map (λ x. g (f x)) xs
map_same f g [] = refl
map_same f g (x ∷ xs) = ap (λ l. g (f x) ∷ l) (map_same f g xs)

-- what holds of all in order holds of all
out_of : (P : Name → Type 0) (k : Name) (ks : List Name) → AllByRecursion P (insert_key (slice_cmp text_cmp) ks k)
    → P k × AllByRecursion P ks
out_of P k [] h = h
out_of P k (x ∷ xs) h = by (out_of P k xs) (slice_cmp text_cmp k x) refl h
  where
    by : (AllByRecursion P (insert_key (slice_cmp text_cmp) xs k) → P k × AllByRecursion P xs) → (o : Ordering)
        → slice_cmp text_cmp k x ≡ o
        → AllByRecursion P (match_ordering o (k ∷ x ∷ xs) (x ∷ xs) (x ∷ insert_key (slice_cmp text_cmp) xs k))
        → P k × (P x × AllByRecursion P xs)
    by more Less e h = h
    by more Equal e h = (subst P (sym (texts_exact k x e)) h.0, h)
    by more Greater e h = let rest = more h.1 in (rest.0, (h.0, rest.1))

all_out : (P : Name → Type 0) (ns : List Name) → AllByRecursion P (in_order ns) → AllByRecursion P ns
all_out P [] h = tt
all_out P (n ∷ ns) h = let both = out_of P n (in_order ns) h in (both.0, all_out P ns both.1)

never_empty : (k : Name) (ks : List Name) → insert_key (slice_cmp text_cmp) ks k ≡ [] → ⊥
never_empty k [] h = cc
never_empty k (x ∷ xs) h = by (slice_cmp text_cmp k x) h
  where
    by : (o : Ordering) → match_ordering o (k ∷ x ∷ xs) (x ∷ xs) (x ∷ insert_key (slice_cmp text_cmp) xs k) ≡ [] → ⊥
    by Less h = cc
    by Equal h = cc
    by Greater h = cc

none_out : (ns : List Name) → in_order ns ≡ [] → ns ≡ []
none_out [] h = refl
none_out (n ∷ ns) h = absurd (never_empty n (in_order ns) h)

module _ (m : SchemaMeaning) where
  declared_to : (n : Name) → IsDeclared (meaning_in_order m) n → IsDeclared m n
  declared_to n h = subst (λ l. Contains l n) (map_same entity_in_order (λ e. e.name) m.entities) h

  name_to : (n : Name) → IsDeclared (meaning_in_order m) n
      ⊎ Contains (map (λ a. a.ty) (map action_in_order m.actions)) n
      → IsDeclared m n ⊎ Contains (map (λ a. a.ty) m.actions) n
  name_to n (inl h) = inl (declared_to n h)
  name_to n (inr h) = inr (subst (λ l. Contains l n) (map_same action_in_order (λ a. a.ty) m.actions) h)

  mutual
    known_to : (t : PlainType) → IsKnown (meaning_in_order m) t → IsKnown m t
    known_to PlainType.Bool h = tt
    known_to PlainType.Long h = tt
    known_to PlainType.String h = tt
    known_to (PlainType.Ext n) h = tt
    known_to (PlainType.Entity n) h = name_to n h
    known_to (PlainType.Set t) h = known_to t h
    known_to (PlainType.Rec fs) h = all_known_to fs h

    all_known_to : (fs : Attributes) → AreKnown (meaning_in_order m) fs → AreKnown m fs
    all_known_to no_more h = tt
    all_known_to (attribute n r t fs) h = (known_to t h.0, all_known_to fs h.1)

  tags_known_to : (t : Option PlainType) → AreTagsKnown (meaning_in_order m) t → AreTagsKnown m t
  tags_known_to None h = tt
  tags_known_to (Some t) h = (h.0, known_to t h.1)

  parts_to : (e : EntityMeaning) (external : Bool) (choices : Option (List Text))
      → HasItsParts external choices (entity_in_order e) → HasItsParts external choices e
  parts_to e true choices h = h
  parts_to e false None h = tt
  parts_to e false (Some cs) h = (h.0, h.1, none_out e.ancestors h.2)

  all_weaker : {A : Type 0} (P Q : A → Type 0) → ((x : A) → P x → Q x) → (xs : List A) → AllByRecursion P xs
      → AllByRecursion Q xs
  all_weaker P Q f [] h = tt
  all_weaker P Q f (x ∷ xs) h = (f x h.0, all_weaker P Q f xs h.1)

  entity_to : (e : EntityMeaning) → IsSettledEntity (meaning_in_order m) (entity_in_order e) → IsSettledEntity m e
  entity_to e h = record {
    parts = parts_to e e.is_external e.choices h.parts;
    choices = h.choices;
    ancestors = all_weaker (IsDeclared (meaning_in_order m)) (IsDeclared m) declared_to e.ancestors
        (all_out (IsDeclared (meaning_in_order m)) e.ancestors h.ancestors);
    ordered = h.ordered;
    attributes = all_known_to e.attributes h.attributes;
    tags = tags_known_to e.tags h.tags;
  }

  action_to : (a : ActionMeaning) → IsSettledAction (meaning_in_order m) (action_in_order a) → IsSettledAction m a
  action_to a h = record { ordered = h.ordered; context = all_known_to a.context h.context }

  entities_to : (es : List EntityMeaning) → AllByRecursion (IsSettledEntity (meaning_in_order m))
      (map entity_in_order es)
      → AllByRecursion (IsSettledEntity m) es
  entities_to [] h = tt
  entities_to (e ∷ es) h = (entity_to e h.0, entities_to es h.1)

  actions_to : (xs : List ActionMeaning) → AllByRecursion (IsSettledAction (meaning_in_order m))
      (map action_in_order xs)
      → AllByRecursion (IsSettledAction m) xs
  actions_to [] h = tt
  actions_to (a ∷ xs) h = (action_to a h.0, actions_to xs h.1)

  pub settled_as_it_stands : IsSettled (meaning_in_order m) → IsSettled m
  settled_as_it_stands h = record {
    entities_rise = subst (IsStrictlySortedBy name_order) (map_same entity_in_order (λ e. e.name) m.entities)
        h.entities_rise;
    actions_rise = subst (IsStrictlySortedBy action_order) (map_same action_in_order (λ a. (a.ty, a.id)) m.actions)
        h.actions_rise;
    entities = entities_to m.entities h.entities;
    actions = actions_to m.actions h.actions;
  }
