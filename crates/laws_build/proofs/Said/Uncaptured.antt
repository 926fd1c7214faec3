-- Where nothing is captured, no item beside an action of its namespace holds the type `Action` of the empty namespace.
use Rattle.std.proofs.Common.{◌≡◌, inl, inr, ℕ, true, false, cond, ◌||◌, List, [], ◌∷◌, map, filter, refl, sym, ap}
use Rattle.std.proofs.Common.{◌∙◌}
use Rattle.std.proofs.Common.{subst}
use Rattle.std.specs.List.{list_any}
use Rattle.std.proofs.lemmas.Bool.{or_left, or_right, false_from_ne_true}
use Rattle.cedar_names.specs.CanonicalText.{namespace}
use Rattle.cedar_names.specs.Definitions.{same_name}
use Rattle.cedar_names.specs.Meaning.{EntityMeaning, ActionMeaning, SchemaMeaning}
use Rattle.cedar_names.proofs.Defined.{name_itself}
use Rattle.laws_written.specs.PrintedDecls.{IsSome}
use Rattle.schema_build_types.specs.Content.{ActionContent, SchemaContent}
use Rattle.schema_build_types.specs.Standing.{entity_as_built, action_as_built, schema_as_built, attributes_as_built}
use Rattle.schema_build_text.specs.Captured.{some_hold, tags_hold, item_holds, has_action, captured_in, IsUncaptured}
use Rattle.schema_build_text.specs.Walk.{ItemContent, entity_type, action, namespace_of, items_of, items_in}
use Rattle.schema_build_text.specs.Walk.{namespaces_of}
use Rattle.laws_build.proofs.Said.DeclaredEntities.{in_ordered}
use Rattle.laws_build.proofs.Said.Members.{IsIn, left_to, right_to, map_to, flat_to, filter_to}

module _ (m : SchemaMeaning) (free : IsUncaptured m) where
  abbrev c : SchemaContent
  c = schema_as_built m

  there : (as' : List ActionMeaning) (a : ActionMeaning) (q : List (List ℕ)) → IsIn a as' → namespace a.ty ≡ q
      → list_any (λ (x : ActionContent). same_name q (namespace x.ty)) (map action_as_built as') ≡ true
  there [] a q h e = absurd h
  there (x ∷ as') a q (inl p) e =
      or_left (same_name q (namespace x.ty)) _
      (ap (same_name q) (ap (λ (y : ActionMeaning). namespace y.ty) (sym p) ∙ e) ∙ name_itself q)
  there (x ∷ as') a q (inr h) e = or_right (same_name q (namespace x.ty)) _ (there as' a q h e)

  -- an item of a namespace that has a name and an action holds none
  holds_none : (x : ItemContent) (q : List (List ℕ)) → IsIn x (items_of c) → namespace_of x ≡ q → IsSome q
      → (a : ActionMeaning) → IsIn a m.actions → namespace a.ty ≡ q → item_holds x ≡ false
  holds_none x [] h s some a k e = absurd some
  holds_none x (n ∷ ns) h s some a k e = false_from_ne_true (item_holds x) (λ holds.
      let q : List (List ℕ) = n ∷ ns in
      let own : IsIn x (items_in c q) = filter_to (λ y. same_name q (namespace_of y)) (items_of c) x h
      (ap (same_name q) s ∙ name_itself q) in
      let mine : IsIn x (filter item_holds (items_in c q)) = filter_to item_holds (items_in c q) x own holds in
      let has : has_action c q ≡ true = there m.actions a q k e in
      let here : IsIn x (captured_in c q) =
      subst (λ b. IsIn x (cond b (filter item_holds (items_in c q)) [])) (sym has) mine in
      let among : IsIn q (namespaces_of c) = in_ordered (map namespace_of (items_of c)) q
      (subst (λ p. IsIn p (map namespace_of (items_of c))) s (map_to namespace_of (items_of c) x h)) in
      subst (IsIn x) free (flat_to (captured_in c) (namespaces_of c) q x among here))

  entity_in : (e : EntityMeaning) → IsIn e m.entities → IsIn (entity_type (entity_as_built e)) (items_of c)
  entity_in e h = left_to (map entity_type c.entities) (map action c.actions) (entity_type (entity_as_built e))
      (map_to entity_type c.entities (entity_as_built e) (map_to entity_as_built m.entities e h))

  action_in : (a : ActionMeaning) → IsIn a m.actions → IsIn (action (action_as_built a)) (items_of c)
  action_in a h = right_to (map entity_type c.entities) (map action c.actions) (action (action_as_built a))
      (map_to action c.actions (action_as_built a) (map_to action_as_built m.actions a h))

  pub entity_free : (e : EntityMeaning) → IsIn e m.entities → IsSome (namespace e.name)
      → (a : ActionMeaning) → IsIn a m.actions → namespace a.ty ≡ namespace e.name
      → (some_hold (attributes_as_built e.attributes) || tags_hold (entity_as_built e).tags) ≡ false
  entity_free e h some a k same =
      holds_none (entity_type (entity_as_built e)) (namespace e.name) (entity_in e h) refl some a k same

  pub action_free : (b : ActionMeaning) → IsIn b m.actions → IsSome (namespace b.ty)
      → (a : ActionMeaning) → IsIn a m.actions → namespace a.ty ≡ namespace b.ty
      → some_hold (attributes_as_built b.context) ≡ false
  action_free b h some a k same =
      holds_none (action (action_as_built b)) (namespace b.ty) (action_in b h) refl some a k same
