-- A refusal can be told of each captured item of what a fragment means: it is an entity type or an action of a named
-- namespace.
use Rattle.std.proofs.Common.{◌≡◌, ◌⊎◌, List, [], ◌∷◌, ◌++◌, codes, map, true, false, Bool, if◌then◌else◌, inl, inr}
use Rattle.std.proofs.Common.{refl, sym, ap, ◌∙◌, subst, ℕ, zero, suc, arith}
use Rattle.std.specs.Prelude.{Option, None, Some, filter}
use Rattle.std.specs.List.{AllZip, Contains}
use Rattle.std.proofs.lemmas.List.Elements.{Contains-append_cases}
use Rattle.cedar_data.proofs.Lists.{contains_first, contains_later, contains_unmap, contains_flat}
use Rattle.cedar_identifiers.specs.Names.{components_of}
use Rattle.cedar_identifiers.specs.declared.name.Name.{Name}
use Rattle.cedar_identifiers.specs.declared.raw_name.RawName.{RawName}
use Rattle.cedar_identifiers.specs.declared.unreserved_id.UnreservedId.{UnreservedId}
use Rattle.cedar_names.specs.CanonicalText.{basename, namespace}
use Rattle.cedar_names.specs.Definitions.{same_name}
use Rattle.cedar_names.specs.Meaning.{EntityMeaning, ActionMeaning, SchemaMeaning}
use Rattle.cedar_names.specs.declared.extension_table.ExtensionTable.{ExtensionTable}
use Rattle.cedar_names.proofs.Defined.{equal_names}
use Rattle.schema_json.specs.AsWritten.{as_written}
use Rattle.schema_json.specs.declared.action_type.ActionType.{ActionType}
use Rattle.schema_json.specs.declared.fragment.Fragment.{Fragment}
use Rattle.schema_build_checks.specs.DeclaredAt.{ActionAt}
use Rattle.schema_build_errors.specs.declared.captured.CapturedItem.TheVariants as item
use Rattle.schema_build_errors.specs.declared.captured.ReferenceCaptured.{ReferenceCaptured}
use Rattle.schema_build_hierarchy.specs.Declarations.{Declared, DeclaredEntity, entity_in, action_in, entity_name}
use Rattle.schema_build_hierarchy.specs.Declarations.{action_key, entities_of, actions_of, declared_entities}
use Rattle.schema_build_hierarchy.specs.Declarations.{declared_actions}
use Rattle.schema_build_hierarchy.proofs.ActionTypes.{last_behind}
use Rattle.schema_build_text.specs.Captured.{captured_in, captured_items, has_action, item_holds, IsAbout}
use Rattle.schema_build_text.specs.Walk.{ItemContent, entity_type, action, namespace_of, items_of, items_in}
use Rattle.schema_build_text.specs.Walk.{namespaces_of}
use Rattle.schema_build_types.specs.Content.{SchemaContent}
use Rattle.schema_build_types.specs.Standing.{entity_as_built, action_as_built, schema_as_built}
use Rattle.schema_build.specs.Meaning.{IsEntityMeaning, IsActionMeaning, FragmentMeaning}
use Rattle.laws_build.proofs.Closure.Words.{front, full_name, action_type_full}

-- a list of one item has that alone
alone : {X : Type 0} (y x : X) → Contains (y ∷ []) x → y ≡ x
alone y x (zero, h, e) = e
alone y x (suc k, h, e) = absurd (omega (arith, h))

contains_filter : {X : Type 0} (p : X → Bool) (xs : List X) (x : X) → Contains (filter p xs) x
    → Contains xs x × (p x ≡ true)
contains_filter p [] x c = absurd (omega (arith, c.1))
contains_filter p (y ∷ ys) x c = by (p y) refl (λ d. contains_filter p ys x d) c
  where
    by : (b : Bool) → p y ≡ b → (Contains (filter p ys) x → Contains ys x × (p x ≡ true))
        → Contains (if b then y ∷ filter p ys else filter p ys) x → Contains (y ∷ ys) x × (p x ≡ true)
    by true e later d = elim (Contains-append_cases (y ∷ []) (filter p ys) x d) [
      | inl first ↦ (
        subst (Contains (y ∷ ys)) (alone y x first) (contains_first y ys),
        subst (λ z. p z ≡ true) (alone y x first) e,
      )
      | inr more ↦ (let r = later more in (contains_later y ys x r.0, r.1))
    ]
    by false e later d = let r = later d in (contains_later y ys x r.0, r.1)

-- ---- what is captured stands in a named namespace

record Stands (c : SchemaContent) (x : ItemContent) : Type 0 where
  among : Contains (items_of c) x
  first : List ℕ
  others : List (List ℕ)
  spaced : namespace_of x ≡ first ∷ others

stands_in : (c : SchemaContent) (n : List (List ℕ)) (x : ItemContent) → Contains (captured_in c n) x → Stands c x
stands_in c [] x h = absurd (omega (arith, h.1))
stands_in c (n ∷ ns) x h = by (has_action c (n ∷ ns)) h
  where
    by : (b : Bool) → Contains (if b then filter item_holds (items_in c (n ∷ ns)) else []) x → Stands c x
    by true g =
        let holds = contains_filter item_holds (items_in c (n ∷ ns)) x g in
        let here = contains_filter (λ y. same_name (n ∷ ns) (namespace_of y)) (items_of c) x holds.0 in
        record {
          among = here.0;
          first = n;
          others = ns;
          spaced = sym (equal_names (n ∷ ns) (namespace_of x) here.1);
        }
    by false g = absurd (omega (arith, g.1))

captured_stands : (c : SchemaContent) (x : ItemContent) (others : List ItemContent) → captured_items c ≡ x ∷ others
    → Stands c x
captured_stands c x others e =
    let here : Contains (captured_items c) x = subst (λ l. Contains l x) (sym e) (contains_first x others) in
    let found = contains_flat (captured_in c) (namespaces_of c) x here in
    stands_in c found.0 x found.2

-- ---- what a declaration is called

front_of : (xs : List (List ℕ)) (x : List ℕ) → namespace (xs ++ x ∷ []) ≡ xs
front_of [] x = refl
front_of (y ∷ []) x = refl
front_of (y ∷ z ∷ xs) x = ap (λ l. y ∷ l) (front_of (z ∷ xs) x)

spaced_name : (ns : Option Name) (first : List ℕ) (others : List (List ℕ)) → front ns ≡ first ∷ others
    → (n : Name) × (components_of n.name ≡ front ns)
spaced_name None first others e = absurd (cc)
spaced_name (Some n) first others e = (n, refl)

module _ (f : Fragment RawName as_written) (table : ExtensionTable) where
  abbrev IsCalled : List (List ℕ) → Type 0
  IsCalled name = (ns : Option Name) × (id : UnreservedId) × (name ≡ front ns ++ id.id.text ∷ [])

  entity_called : (d : DeclaredEntity) → Contains (declared_entities f) d → IsCalled (entity_name d)
  entity_called d c =
      let (space, inside, here) = contains_flat entities_of f.0 d c in
      let (e, there, is) = contains_unmap (entity_in space.0) space.1.entity_types d here in
      subst (λ x. IsCalled (entity_name x)) is (space.0, e.0, full_name space.0 e.0.id e.1.loc)

  abbrev IsTyped : List (List ℕ) → Type 0
  IsTyped name = (ns : Option Name) × (name ≡ front ns ++ codes "Action" ∷ [])

  action_typed : (d : Declared ActionAt (ActionType RawName as_written)) → Contains (declared_actions f) d
      → IsTyped (action_key d).0
  action_typed d c =
      let (space, inside, here) = contains_flat actions_of f.0 d c in
      let (e, there, is) = contains_unmap (action_in space.0) space.1.actions d here in
      subst (λ x. IsTyped (action_key x).0) is (space.0, action_type_full space.0)

  entity_of_meaning : (declared : List DeclaredEntity) (entities : List EntityMeaning)
      → ((d : DeclaredEntity) → Contains declared d → Contains (declared_entities f) d)
      → AllZip (IsEntityMeaning f table) declared entities → (e : EntityMeaning) → Contains entities e
      → IsCalled e.name
  entity_of_meaning [] [] kept are e c = absurd (omega (arith, c.1))
  entity_of_meaning [] (x ∷ xs) kept are e c = absurd are
  entity_of_meaning (d ∷ ds) [] kept are e c = absurd are
  entity_of_meaning (d ∷ ds) (x ∷ xs) kept are e c =
      by (λ k. entity_of_meaning ds xs (λ y h. kept y (contains_later d ds y h)) are.1 e k)
      (entity_called d (kept d (contains_first d ds))) are.0 (Contains-append_cases (x ∷ []) xs e c)
    where
      by : (Contains xs e → IsCalled e.name) → IsCalled (entity_name d) → IsEntityMeaning f table d x
          → Contains (x ∷ []) e ⊎ Contains xs e → IsCalled e.name
      by later called is (inl first) = subst (λ z. IsCalled z.name) (alone x e first)
          (called.0, called.1, is.name ∙ called.2)
      by later called is (inr more) = later more

  action_of_meaning : (declared : List (Declared ActionAt (ActionType RawName as_written)))
      (actions : List ActionMeaning) → ((d : Declared ActionAt (ActionType RawName as_written)) → Contains declared d
      → Contains (declared_actions f) d) → AllZip (IsActionMeaning f table) declared actions → (a : ActionMeaning)
      → Contains actions a → IsTyped a.ty
  action_of_meaning [] [] kept are a c = absurd (omega (arith, c.1))
  action_of_meaning [] (x ∷ xs) kept are a c = absurd are
  action_of_meaning (d ∷ ds) [] kept are a c = absurd are
  action_of_meaning (d ∷ ds) (x ∷ xs) kept are a c =
      by (λ k. action_of_meaning ds xs (λ y h. kept y (contains_later d ds y h)) are.1 a k)
      (action_typed d (kept d (contains_first d ds))) are.0 (Contains-append_cases (x ∷ []) xs a c)
    where
      by : (Contains xs a → IsTyped a.ty) → IsTyped (action_key d).0 → IsActionMeaning f table d x
          → Contains (x ∷ []) a ⊎ Contains xs a → IsTyped a.ty
      by later typed is (inl first) = subst (λ z. IsTyped z.ty) (alone x a first)
          (typed.0, ap (λ k. k.0) is.key ∙ typed.1)
      by later typed is (inr more) = later more

  -- ---- the item

  entity_told : (e : EntityMeaning) → IsCalled e.name → (first : List ℕ) (others : List (List ℕ))
      → namespace e.name ≡ first ∷ others
      → (captured : ReferenceCaptured) × IsAbout (entity_type (entity_as_built e)) captured
  entity_told e called first others spaced =
      let space : namespace e.name ≡ front called.0
      = ap namespace called.2 ∙ front_of (front called.0) called.1.id.text in
      let named = spaced_name called.0 first others (sym space ∙ spaced) in (
        record { namespace = named.0; item = item.EntityType called.1 },
        (
          named.1 ∙ sym space,
          sym (last_behind (front called.0) called.1.id.text) ∙ sym (ap basename called.2),
        ),
      )

  action_told : (a : ActionMeaning) → IsTyped a.ty → (first : List ℕ) (others : List (List ℕ))
      → namespace a.ty ≡ first ∷ others
      → (captured : ReferenceCaptured) × IsAbout (action (action_as_built a)) captured
  action_told a typed first others spaced =
      let space : namespace a.ty ≡ front typed.0 = ap namespace typed.1 ∙ front_of (front typed.0) (codes "Action") in
      let named = spaced_name typed.0 first others (sym space ∙ spaced) in
      (record { namespace = named.0; item = item.Action a.id }, (named.1 ∙ sym space, refl))

  item_told : (m : SchemaMeaning) → FragmentMeaning f table m → (x : ItemContent) → Stands (schema_as_built m) x
      → (captured : ReferenceCaptured) × IsAbout x captured
  item_told m means x stands = elim (Contains-append_cases (map entity_type (map entity_as_built m.entities))
      (map action (map action_as_built m.actions)) x stands.among) [
        | inl c ↦
            let (b, there, is) = contains_unmap entity_type (map entity_as_built m.entities) x c in
            let (e, here, built) = contains_unmap entity_as_built m.entities b there in
            let same : entity_type (entity_as_built e) ≡ x = ap entity_type built ∙ is in
            let called = entity_of_meaning means.entities.declared m.entities (λ d h. (means.entities.same d).1 h)
            means.entities.each e here in
            subst (λ y. (captured : ReferenceCaptured) × IsAbout y captured) same
            (entity_told e called stands.first stands.others (ap namespace_of same ∙ stands.spaced))
        | inr c ↦
            let (b, there, is) = contains_unmap action (map action_as_built m.actions) x c in
            let (a, here, built) = contains_unmap action_as_built m.actions b there in
            let same : action (action_as_built a) ≡ x = ap action built ∙ is in
            let typed = action_of_meaning means.actions.declared m.actions (λ d h. (means.actions.same d).1 h)
            means.actions.each a here in
            subst (λ y. (captured : ReferenceCaptured) × IsAbout y captured) same
            (action_told a typed stands.first stands.others (ap namespace_of same ∙ stands.spaced))
      ]

  -- the first captured item can be told
  pub captured_told : (m : SchemaMeaning) → FragmentMeaning f table m → (x : ItemContent) (others : List ItemContent)
      → captured_items (schema_as_built m) ≡ x ∷ others → (captured : ReferenceCaptured) × IsAbout x captured
  captured_told m means x others e =
      item_told m means x (captured_stands (schema_as_built m) x others e)
