-- A fragment that declares just what a closed meaning has is without a build fault.
use Rattle.std.proofs.Common.{◌≡◌, ◌<◌, inl, ℕ, Bool, true, false, not, cond, ◌||◌, List, [], ◌∷◌, ◌++◌, codes}
use Rattle.std.proofs.Common.{length, map, filter, flat_map, Option, Some, None, is_some, Contains, refl, sym, ap, ◌∙◌}
use Rattle.std.proofs.Common.{subst, arith, true≢false, if◌then◌else◌}
use Rattle.std.specs.Option.{option_map, option_to_list}
use Rattle.std.specs.Str.{bytes_eq}
use Rattle.std.specs.declared.cmp.Ordering.{Ordering}
use Rattle.std.proofs.lemmas.List.Elements.{All-contains}
use Rattle.std.proofs.lemmas.Slice.Eq.{bytes_eq-Decides}
use Rattle.std.proofs.lemmas.Bool.{false_from_ne_true}
use Rattle.cedar_data.proofs.Lists.{nothing_is}
use Rattle.cedar_identifiers.specs.Names.{components_of}
use Rattle.cedar_identifiers.specs.declared.internal_name.InternalName.{InternalName}
use Rattle.cedar_identifiers.specs.declared.name.Name.{Name}
use Rattle.cedar_identifiers.specs.declared.raw_name.RawName.{RawName}
use Rattle.cedar_identifiers.specs.declared.reference_type.ReferenceType.{ReferenceType}
use Rattle.cedar_identifiers.specs.declared.reference_type.ReferenceType.TheVariants.{Entity, CommonOrEntity}
use Rattle.cedar_identifiers.specs.declared.unreserved_id.UnreservedId.{UnreservedId}
use Rattle.cedar_names.specs.CanonicalText.{basename}
use Rattle.cedar_names.specs.Meaning.{PlainType, EntityMeaning, SchemaMeaning}
use Rattle.cedar_names.specs.Orders.{names_in_order}
use Rattle.cedar_names.specs.declared.extension_table.ExtensionTable.{ExtensionTable}
use Rattle.schema_json.specs.declared.action_type.ActionType.{ActionType}
use Rattle.schema_json.specs.declared.action_type.ApplySpec.{ApplySpec}
use Rattle.schema_json.specs.declared.entity_type.EntityType.{EntityType}
use Rattle.schema_json.specs.declared.entity_type.EntityTypeKind.{EntityTypeKind}
use Rattle.schema_json.specs.declared.entity_type.EntityTypeKind.TheVariants.{Standard, Enum}
use Rattle.schema_json.specs.declared.fragment.Fragment.{Fragment}
use Rattle.schema_json.specs.Actions.{action_name}
use Rattle.schema_json.specs.AsWritten.{as_written}
use Rattle.laws_written.specs.Meant.{entity_as}
use Rattle.laws_translate.specs.DeclarationsSay.{KindSays}
use Rattle.schema_json_walk.specs.Parts.{Part, type_reference, parent, principal, resource, action_parent}
use Rattle.schema_json_walk.specs.Walk.{each_value, of_common, of_entity, of_action, of_items, of_entry, of_fragment}
use Rattle.schema_resolve_definitions.specs.Declarations.{name_of, declared, action_type}
use Rattle.schema_resolve_definitions.specs.Defined.{defined}
use Rattle.schema_resolve_definitions.specs.Tests.{Tests, tests_of}
use Rattle.schema_resolve_targets.specs.Qualified.{in_namespace, type_in_namespace}
use Rattle.schema_resolve_targets.specs.ReferenceParts.{by_reference}
use Rattle.schema_resolve_targets.specs.Untargeted.{untargeted_in, undefined}
use Rattle.schema_resolve_targets.specs.Targets.{target, action_target, unless}
use Rattle.schema_resolve_targets.specs.Undefined.{types_among, actions_among}
use Rattle.schema_build_errors.specs.declared.schema_error.SchemaError.{SchemaError}
use Rattle.schema_build_errors.specs.declared.schema_error.SchemaError.TheVariants as error
use Rattle.schema_build_errors.specs.declared.shape_errors.ContextOrShape.{ContextOrShape}
use Rattle.schema_build_errors.specs.declared.shape_errors.ContextOrShape.TheVariants.{ActionContext, EntityTypeShape}
use Rattle.schema_build_expand.specs.Expands.{Expands, ExpandsOnce}
use Rattle.schema_build_expand.specs.Scope.{Scope}
use Rattle.schema_build_checks.specs.DeclaredAt.{at_of, actions_at_in_order, declared_at, called_action}
use Rattle.schema_build_checks.specs.DeclaredAt.{called_actions}
use Rattle.schema_build_checks.specs.DeclaredAt.{hiding_common, hiding_entity, hiding_types_in, hiding_types}
use Rattle.schema_build_checks.specs.DeclaredAt.{hiding_action, hiding_actions_in, hiding_actions}
use Rattle.schema_build_checks.specs.DeclaredTwice.{ActionTypeDeclared, TypeHides, ActionHides}
use Rattle.schema_build_checks.specs.Least.{IsFirstLeast}
use Rattle.schema_build_checks.specs.Refusing.{IsAboutFirst}
use Rattle.schema_build_checks.specs.Rows.{Never}
use Rattle.schema_build_checks.specs.WalkFaults.{unknown_extension, unsupported, HasUnknownExtension, HasUnsupported}
use Rattle.schema_build_scope.specs.CycleRow.{HasCommonCycle}
use Rattle.schema_build_scope.specs.FragmentScope.{fragment_scope}
use Rattle.schema_build_scope.specs.UndefinedRows.{HasUndefinedTypes, HasUndefinedActions}
use Rattle.schema_build_hierarchy.specs.Declarations.{DeclaredEntity, entity_in, entity_name, entities_of}
use Rattle.schema_build_hierarchy.specs.Declarations.{declared_entities, action_in, action_key, actions_of}
use Rattle.schema_build_hierarchy.specs.Declarations.{declared_actions}
use Rattle.schema_build_hierarchy.specs.FirstUses.{IsFirstUse, AreFirstUses}
use Rattle.schema_build_hierarchy.specs.Parents.{IsAncestor}
use Rattle.schema_build_hierarchy.specs.Rows.{undeclared_part, undeclared_uses, is_enum, HasUndeclaredEntityTypes}
use Rattle.schema_build_hierarchy.specs.Rows.{HasActionCycle, HasExternalUnderEnum}
use Rattle.schema_build_hierarchy.proofs.ActionTypes.{last_behind}
use Rattle.schema_build_items.specs.ActionKinds.{ApplyMeaning, IsApplyMeaning}
use Rattle.schema_build_items.specs.Kinds.{KindMeaning, IsKindMeaning}
use Rattle.schema_build_items.specs.NoRecord.{IsNoRecord, ShapeIsNoRecord, ContextIsNoRecord, IsLeastShape}
use Rattle.schema_build_items.specs.NoRecord.{IsLeastContext, HasNoRecordShape, HasNoRecordContext}
use Rattle.schema_build_parts.specs.BuildFaults.{BuildFault}
use Rattle.schema_build_parts.proofs.Rows.{never_else}
use Rattle.schema_build.specs.Meaning.{kind_meaning, apply_meaning}
use Rattle.laws_build.specs.Closure.Closed.{IsClosed}
use Rattle.laws_build.specs.Closure.Known.{meant_entities, meant_actions}
use Rattle.laws_build.specs.Said.DeclaredEntries.{IsEntity, DeclaresJust}
use Rattle.laws_build.proofs.Said.Blocks.{Block}
use Rattle.laws_build.proofs.Said.DeclaredEntities.{texts_behind}
use Rattle.laws_build.proofs.Said.Defining.{Key, own, own_entity, own_common, own_action, is_own_entity}
use Rattle.laws_build.proofs.Said.Defining.{is_entity_named, none_common}
use Rattle.laws_build.proofs.Said.EntryMeans.{entity_means, action_means}
use Rattle.laws_build.proofs.Said.Meant.{entity_closed, action_closed, key_found, entity_itself, action_itself}
use Rattle.laws_build.proofs.Said.Meant.{ancestor_is, action_ancestor_is}
use Rattle.laws_build.proofs.Said.Members.{IsIn, in_from, in_to, map_to, flat_to, flat_nothing, append_nothing}
use Rattle.laws_build.proofs.Said.Themselves.{key_there, no_action, apart, not_entity_behind, named_entity}
use Rattle.laws_build.proofs.Said.Themselves.{found_as}
use Rattle.laws_build.proofs.Said.Walking.{entity_gives, action_gives}

pub no_least : {A : Type 0} (order : A → A → Ordering) (xs : List A) (x : A) → xs ≡ [] → IsFirstLeast order xs x → ⊥
no_least order xs x none first = nothing_is first.before x first.behind (sym none ∙ first.among)

pub no_about : {U : Type 0} (about : U → SchemaError → Type 0) (us : List U) → us ≡ [] → Never (IsAboutFirst about us)
no_about about us none e h = subst (λ l. IsAboutFirst about l e) none h

found_none : {A B U : Type 0} (f : A → B) (o : Option A) (b : B) (u : U) → option_map f o ≡ Some b → unless o u ≡ []
found_none f None b u h = absurd (true≢false (sym (ap is_some h)))
found_none f (Some a) b u h = refl

meant_none : {A B C U : Type 0} (f : B → C) (k : A → B) (o : Option A) (c : C) (u : U)
    → option_map f (option_map k o) ≡ Some c → unless o u ≡ []
meant_none f k None c u h = absurd (true≢false (sym (ap is_some h)))
meant_none f k (Some a) c u h = refl

-- the last word of a declared name
base_name : (ns : Option Name) (x : UnreservedId × EntityType RawName)
    → basename (entity_name (entity_in ns x)) ≡ x.0.id.text
base_name None x = refl
base_name (Some n) x = ap basename (texts_behind (n.name.first ∷ n.name.others) x.0.id)
    ∙ last_behind (components_of n.name) x.0.id.text

no_enum_said : (x : Bool) (k : EntityTypeKind RawName) (external : Bool) (choices : Option (List (List ℕ)))
    (e : EntityMeaning) → KindSays x k (entity_as external choices e) → choices ≡ None → is_enum k ≡ false
no_enum_said x (Standard d) external choices e h none = refl
no_enum_said x (Enum ids) true choices e h none = absurd h
no_enum_said x (Enum ids) false None e h none = absurd h
no_enum_said x (Enum ids) false (Some cs) e h none = absurd (true≢false (ap is_some none))

module _ (table : ExtensionTable) (m : SchemaMeaning) (closed : IsClosed table m) (g : Fragment RawName as_written)
    (just : DeclaresJust m g) (once : ExpandsOnce (fragment_scope g table)) where
  abbrev t : Tests
  t = tests_of (defined g table)

  abbrev scope : Scope RawName
  scope = fragment_scope g table

  abbrev mine : Tests
  mine = own m g just

  entity_here : (b : Block) → IsIn b g.0 → (x : UnreservedId × EntityType RawName) → IsIn x b.1.entity_types
      → Contains (declared_entities g) (entity_in b.0 x)
  entity_here b h x k = in_to (declared_entities g) (entity_in b.0 x)
      (flat_to entities_of g.0 b (entity_in b.0 x) h (map_to (entity_in b.0) b.1.entity_types x k))

  action_here : (b : Block) → IsIn b g.0 → (x : List ℕ × ActionType RawName as_written) → IsIn x b.1.actions
      → Contains (declared_actions g) (action_in b.0 x)
  action_here b h x k = in_to (declared_actions g) (action_in b.0 x)
      (flat_to actions_of g.0 b (action_in b.0 x) h (map_to (action_in b.0) b.1.actions x k))

  -- no entity type is called `Action`
  none_called : called_actions g ≡ []
  none_called = flat_nothing (λ (b : Block). flat_map (called_action b.0) b.1.entity_types) g.0
      (λ b h. flat_nothing (called_action b.0) b.1.entity_types (λ x k.
      let of = just.entities (entity_in b.0 x) (entity_here b h x k) in
      let off : bytes_eq x.0.id.text (codes "Action") ≡ false =
      false_from_ne_true (bytes_eq x.0.id.text (codes "Action"))
      (λ hit. no_action table m closed g just of.entry (in_from m.entities of.entry of.among)
      (ap basename (sym of.is.name) ∙ (base_name b.0 x ∙ (bytes_eq-Decides x.0.id.text (codes "Action")).0 hit))) in
      ap (λ c. if c then declared_at b.0 x.0.id x.1.loc ∷ [] else []) off))

  no_action_type : Never (ActionTypeDeclared g)
  no_action_type (error.ActionEntityTypeDeclared e) (name, first, loc) =
      no_least names_in_order (called_actions g) name none_called first
  no_action_type _ h = absurd h

  -- no type hides one of the empty namespace
  none_hides : hiding_types (tests_of (declared g)) g ≡ []
  none_hides = flat_nothing (hiding_types_in (tests_of (declared g))) g.0 by
    where
      by : (b : Block) → IsIn b g.0 → hiding_types_in (tests_of (declared g)) b ≡ []
      by (None, n) h = refl
      by (Some s, n) h =
          append_nothing (flat_map (hiding_common (tests_of (declared g)) (Some s)) n.common_types) _
          (ap (flat_map (hiding_common (tests_of (declared g)) (Some s)))
          (just.no_commons (Some s, n) (in_to g.0 (Some s, n) h)))
          (flat_nothing (hiding_entity (tests_of (declared g)) (Some s)) n.entity_types (λ x k.
          let of = just.entities (entity_in (Some s) x) (entity_here (Some s, n) h x k) in
          let w = x.0.id.text in
          let full : entity_name (entity_in (Some s) x) ≡ components_of s.name ++ w ∷ [] =
          texts_behind (s.name.first ∷ s.name.others) x.0.id in
          let off : mine.is_entity (w ∷ []) ≡ false = false_from_ne_true (mine.is_entity (w ∷ [])) (λ hit.
          true≢false (sym (is_entity_named m g just table (components_of s.name ++ w ∷ [])
          (inl (of.entry, in_from m.entities of.entry of.among, sym of.is.name ∙ full)))
          ∙ not_entity_behind table m closed g just s w (own_entity m g just (w ∷ []) hit))) in
          ap (λ c. if c then declared_at (Some s) x.0.id x.1.loc ∷ [] else [])
          (λ i. own_common m g just (w ∷ []) i || off i)))

  no_type_hides : Never (TypeHides g)
  no_type_hides (error.TypeShadowing e) (first, base) =
      no_least names_in_order (hiding_types (tests_of (declared g)) g) e.shadowing_def none_hides first
  no_type_hides _ h = absurd h

  -- no action hides one of the empty namespace
  none_hidden : hiding_actions (tests_of (declared g)) g ≡ []
  none_hidden = flat_nothing (hiding_actions_in (tests_of (declared g))) g.0 by
    where
      by : (b : Block) → IsIn b g.0 → hiding_actions_in (tests_of (declared g)) b ≡ []
      by (None, n) h = refl
      by (Some s, n) h = flat_nothing (hiding_action (tests_of (declared g)) (Some s)) n.actions (λ x k.
          let of = just.actions (action_in (Some s) x) (action_here (Some s, n) h x k) in
          let plain : List (List ℕ) = codes "Action" ∷ [] in
          let ty : List (List ℕ) = components_of s.name ++ codes "Action" ∷ [] in
          let full : action_key (action_in (Some s) x) ≡ (ty, x.0) =
          λ i. (texts_behind (s.name.first ∷ s.name.others) action_name.first i, x.0) in
          let here : Contains (meant_actions m) (ty, x.0) =
          subst (Contains (meant_actions m)) (sym of.is.key ∙ full)
          (key_there table m closed g just of.entry (in_from m.actions of.entry of.among)) in
          let off : mine.is_action (plain, x.0) ≡ false = false_from_ne_true (mine.is_action (plain, x.0)) (λ hit.
          let b = own_action m g just (plain, x.0) hit in
          let there : Contains (meant_actions m) (plain, x.0) =
          subst (Contains (meant_actions m)) b.2 (key_there table m closed g just b.0 b.1) in
          apart table m closed g just s (codes "Action") (closed.apart.actions ty x.0 here there)) in
          ap (λ c. if c then (record { ty = action_type (Some s); id = x.0; loc = x.1.loc }) ∷ [] else []) off)

  no_action_hides : Never (ActionHides g)
  no_action_hides (error.ActionShadowing e) (first, base) =
      no_least actions_at_in_order (hiding_actions (tests_of (declared g)) g) (at_of e.shadowing_def) none_hidden first
  no_action_hides _ h = absurd h

  -- a walk in which no part that is written of the meaning gives anything
  module _ {U : Type 0} (visit : Option Name → Part RawName → List U)
      (types : (ns : Option Name) (n : RawName) (r : List (List ℕ) × ReferenceType)
      → scope.means (name_of ns) CommonOrEntity n ≡ Some r → visit ns (type_reference CommonOrEntity n) ≡ [])
      (parents : (ns : Option Name) (n : RawName) → Contains (meant_entities m) (components_of n.name)
      → visit ns (parent n) ≡ [])
      (principals : (ns : Option Name) (n : RawName) → Contains (meant_entities m) (components_of n.name)
      → visit ns (principal n) ≡ [])
      (resources : (ns : Option Name) (n : RawName) → Contains (meant_entities m) (components_of n.name)
      → visit ns (resource n) ≡ [])
      (above : (ns : Option Name) (id : List ℕ) (ty : Option RawName) (k : Key) → Contains (meant_actions m) k
      → option_map (λ (n : RawName). components_of n.name) ty ≡ Some k.0 → id ≡ k.1
      → visit ns (action_parent id ty) ≡ []) where
    entity_walked : (b : Block) → IsIn b g.0 → (x : UnreservedId × EntityType RawName) → IsIn x b.1.entity_types
        → of_entity (visit b.0) x.1 ≡ []
    entity_walked b h x k =
        let of = just.entities (entity_in b.0 x) (entity_here b h x k) in
        let among = in_from m.entities of.entry of.among in
        let own = entity_itself table m closed g just of.entry among (entity_in b.0 x) of.is in
        entity_gives (visit b.0) scope (name_of b.0) (types b.0) (λ n. Contains (meant_entities m) n) (parents b.0)
        of.entry (entity_closed table m closed g just of.entry among).ancestors own.ordered own.attributes own.tags x.1
        of.is.kind

    action_walked : (b : Block) → IsIn b g.0 → (x : List ℕ × ActionType RawName as_written) → IsIn x b.1.actions
        → of_action (visit b.0) x.1 ≡ []
    action_walked b h x k =
        let of = just.actions (action_in b.0 x) (action_here b h x k) in
        let among = in_from m.actions of.entry of.among in
        let own = action_itself table m closed g just of.entry among (action_in b.0 x) of.is in
        let c = action_closed table m closed g just of.entry among in
        action_gives (visit b.0) scope (name_of b.0) (types b.0) (λ n. Contains (meant_entities m) n)
        (λ k. Contains (meant_actions m) k) (principals b.0) (resources b.0) (above b.0) of.entry c.ancestors
        c.principals c.resources own.ordered own.context own.applies x.1 of.is.bare of.is.applies

    fragment_gives : of_fragment visit g ≡ []
    fragment_gives = flat_nothing (of_entry visit) g.0 (λ b h.
        append_nothing (each_value (of_common (visit b.0)) b.1.common_types) (of_items (visit b.0) b.1)
        (ap (each_value (of_common (visit b.0))) (just.no_commons b (in_to g.0 b h)))
        (append_nothing (each_value (of_entity (visit b.0)) b.1.entity_types)
        (each_value (of_action (visit b.0)) b.1.actions)
        (flat_nothing (λ x. of_entity (visit b.0) x.1) b.1.entity_types (entity_walked b h))
        (flat_nothing (λ x. of_action (visit b.0) x.1) b.1.actions (action_walked b h))))

  no_unknown : Never (HasUnknownExtension table g)
  no_unknown = no_about _ (of_fragment (λ ns part. unknown_extension table part) g)
      (fragment_gives (λ ns part. unknown_extension table part) (λ ns n r h. refl) (λ ns n h. refl) (λ ns n h. refl)
      (λ ns n h. refl) (λ ns id ty k h e f. refl))

  none_unsupported : Never (HasUnsupported g)
  none_unsupported = no_about _ (of_fragment (λ ns part. unsupported part) g)
      (fragment_gives (λ ns part. unsupported part) (λ ns n r h. refl) (λ ns n h. refl) (λ ns n h. refl)
      (λ ns n h. refl) (λ ns id ty k h e f. refl))

  -- an entity type is found where it is named
  entity_found : (ns : Option Name) (n : RawName) → Contains (meant_entities m) (components_of n.name)
      → option_map components_of (target t (in_namespace (name_of ns) Entity n)) ≡ Some (components_of n.name)
  entity_found ns n h = found_as table m closed g just ns (components_of n.name)
      (named_entity table m closed g just (components_of n.name) h) n refl

  action_found : (ns : Option Name) (id : List ℕ) (ty : Option RawName) (k : Key) → Contains (meant_actions m) k
      → option_map (λ (n : RawName). components_of n.name) ty ≡ Some k.0 → id ≡ k.1
      → option_map (λ (n : InternalName). let a : Key = (components_of n, id) in a)
      (action_target t id (Some (type_in_namespace (name_of ns) id ty))) ≡ Some k
  action_found ns id ty k h e f =
      subst (λ i. option_map (λ (n : InternalName). let a : Key = (components_of n, i) in a)
      (action_target t i (Some (type_in_namespace (name_of ns) i ty))) ≡ Some k) (sym f)
      (key_found table m closed g just ns k h ty e)

  none_undefined : undefined t g ≡ []
  none_undefined = fragment_gives (λ ns. by_reference (untargeted_in t (name_of ns)))
      (λ ns n r h. meant_none _ _ (target t (in_namespace (name_of ns) CommonOrEntity n)) r _ h)
      (λ ns n h. found_none components_of (target t (in_namespace (name_of ns) Entity n)) _ _ (entity_found ns n h))
      (λ ns n h. found_none components_of (target t (in_namespace (name_of ns) Entity n)) _ _ (entity_found ns n h))
      (λ ns n h. found_none components_of (target t (in_namespace (name_of ns) Entity n)) _ _ (entity_found ns n h))
      (λ ns id ty k h e f. found_none _ (action_target t id (Some (type_in_namespace (name_of ns) id ty))) k _
      (action_found ns id ty k h e f))

  no_undefined_types : Never (HasUndefinedTypes g table)
  no_undefined_types (error.TypeNotDefined e) (names, some) = some (ap types_among none_undefined)
  no_undefined_types _ h = absurd h

  no_undefined_actions : Never (HasUndefinedActions g table)
  no_undefined_actions (error.ActionNotDefined e) (names, some) = some (ap actions_among none_undefined)
  no_undefined_actions _ h = absurd h

  -- each name of an entity type is the name of a declared one
  target_declared : (o : Option InternalName) (n : List (List ℕ)) → option_map components_of o ≡ Some n
      → (tests_of (declared g)).is_entity n ≡ true
      → filter (λ p. not ((tests_of (declared g)).is_entity (components_of p))) (option_to_list o) ≡ []
  target_declared None n e h = refl
  target_declared (Some p) n e h =
      let same : components_of p ≡ n = cc in
      ap (λ b. cond (not b) (p ∷ []) []) (ap (tests_of (declared g)).is_entity same ∙ h)

  own_named : (n : List (List ℕ)) → Contains (meant_entities m) n → (tests_of (declared g)).is_entity n ≡ true
  own_named n h =
      let e = named_entity table m closed g just n h in
      subst (λ x. (tests_of (declared g)).is_entity x ≡ true) e.2 (is_own_entity m g just e.0 e.1)

  none_undeclared : undeclared_uses t g ≡ []
  none_undeclared = fragment_gives (undeclared_part t (tests_of (declared g))) (λ ns n r h. refl)
      (λ ns n h. target_declared (target t (in_namespace (name_of ns) Entity n)) (components_of n.name)
      (entity_found ns n h) (own_named (components_of n.name) h))
      (λ ns n h. target_declared (target t (in_namespace (name_of ns) Entity n)) (components_of n.name)
      (entity_found ns n h) (own_named (components_of n.name) h))
      (λ ns n h. target_declared (target t (in_namespace (name_of ns) Entity n)) (components_of n.name)
      (entity_found ns n h) (own_named (components_of n.name) h))
      (λ ns id ty k h e f. refl)

  no_uses : {A : Type 0} (order : A → A → Ordering) (firsts : List A) → 0 < length firsts
      → AreFirstUses order [] firsts → ⊥
  no_uses order [] some firsts = absurd (omega (arith, some))
  no_uses order (x ∷ xs) some firsts =
      let first = All-contains (IsFirstUse order []) (x ∷ xs) x firsts.first (0, omega arith, refl) in
      nothing_is [] x first.0 first.1

  seen_some : {A B : Type 0} (f : A → B) (xs : List A) → 0 < length xs → 0 < length (map f xs)
  seen_some f [] h = absurd (omega (arith, h))
  seen_some f (x ∷ xs) h = omega arith

  no_undeclared : Never (HasUndeclaredEntityTypes t g)
  no_undeclared e (given, is, firsts, some) =
      no_uses names_in_order (map (λ (n : Name). n.name) given.types)
      (seen_some (λ (n : Name). n.name) given.types some)
      (subst (λ uses. AreFirstUses names_in_order uses (map (λ (n : Name). n.name) given.types)) none_undeclared firsts)

  no_common_cycle : Never (HasCommonCycle g table)
  no_common_cycle (error.CycleInCommonTypeReferences e) h =
      let none : Contains [] e.ty =
      subst (λ l. Contains (map (λ (x : _). x.0) l) e.ty) (none_common m g just) h.declared in
      absurd (omega (arith, none.1))
  no_common_cycle _ h = absurd h

  -- what stands for a record stands for nothing else
  only_record : (ns : _) (ty : _) (xs : _) → Expands RawName scope ns ty (PlainType.Rec xs) → IsNoRecord scope ns ty → ⊥
  only_record ns ty xs h (p, expands, none) = none xs (once ns ty p (PlainType.Rec xs) expands h)

  shape_is_record : (ns : _) (kind : EntityTypeKind RawName) (k : KindMeaning) → IsKindMeaning scope ns kind k
      → ShapeIsNoRecord scope ns kind → ⊥
  shape_is_record ns (Standard d) k means none = only_record ns d.shape.0 k.attributes means.0 none
  shape_is_record ns (Enum ids) k means none = none

  context_is_record : (ns : Option Name) (applies : Option (ApplySpec RawName)) (k : ApplyMeaning)
      → IsApplyMeaning t scope ns applies k → ContextIsNoRecord scope (name_of ns) applies → ⊥
  context_is_record ns None k means none = none
  context_is_record ns (Some d) k means none = only_record (name_of ns) d.context.0 k.context means.2 none

  least_shape : (c : ContextOrShape) → IsLeastShape scope g c → ⊥
  least_shape (EntityTypeShape name) (d, same, least) =
      let of = just.entities d least.among in
      let own = entity_itself table m closed g just of.entry (in_from m.entities of.entry of.among) d of.is in
      shape_is_record (name_of d.ns) d.ty.kind (kind_meaning of.entry)
      (entity_means scope (name_of d.ns) d.ty.external d.ty.kind of.entry of.is.kind own).1 least.passes_too
  least_shape (ActionContext uid) h = h

  least_context : (c : ContextOrShape) → IsLeastContext scope g c → ⊥
  least_context (EntityTypeShape name) h = h
  least_context (ActionContext uid) (d, same, least) =
      let of = just.actions d least.among in
      let own = action_itself table m closed g just of.entry (in_from m.actions of.entry of.among) d of.is in
      context_is_record d.ns d.ty.applies_to (apply_meaning of.entry)
      (action_means t scope d.ns d.ty.external d.ty.applies_to d.ty.member_of of.entry of.is.applies own).1
      least.passes_too

  no_shape : Never (HasNoRecordShape g table)
  no_shape (error.ContextOrShapeNotRecord e) h = least_shape e.ctx_or_shape h
  no_shape _ h = absurd h

  no_context : Never (HasNoRecordContext g table)
  no_context (error.ContextOrShapeNotRecord e) h = least_context e.ctx_or_shape h
  no_context _ h = absurd h

  no_action_cycle : Never (HasActionCycle t (declared_actions g))
  no_action_cycle e (d, is, least) = closed.ancestors.no_cycle (action_key d)
      ((action_ancestor_is table m closed g just (action_key d) (action_key d)).0 least.passes_too)

  -- what is above an external entity type is no enum
  no_enum_above : (d p : DeclaredEntity) → Contains (declared_entities g) d → Contains (declared_entities g) p
      → d.ty.external ≡ true → IsAncestor t (declared_entities g) (entity_name d) (entity_name p)
      → is_enum p.ty.kind ≡ false
  no_enum_above d p c k external up =
      let under = (ancestor_is table m closed g just (entity_name d) (entity_name p)).0 up in
      let found = just.each_entity under.0 under.1 in
      let same : found.0 ≡ d = just.entities_once found.0 d found.1 c (found.2.name ∙ under.2) in
      let is : IsEntity under.0 d = subst (IsEntity under.0) same found.2 in
      let own = entity_itself table m closed g just under.0 (in_from m.entities under.0 under.1) d is in
      let outside = (entity_means scope (name_of d.ns) d.ty.external d.ty.kind under.0 is.kind own).0 in
      let of = just.entities p k in
      let none = closed.ancestors.no_enum under.0 of.entry under.1 of.among (sym outside ∙ external)
      (subst (Contains under.0.ancestors) of.is.name under.3) in
      no_enum_said p.ty.external p.ty.kind of.entry.is_external of.entry.choices of.entry of.is.kind none

  no_external_under : Never (HasExternalUnderEnum t (declared_entities g))
  no_external_under e (d, p, is, least, above) =
      true≢false (sym above.passes_too.0
      ∙ no_enum_above d p least.among above.among least.passes_too.0 above.passes_too.1)

  pub faultless : Never (BuildFault g table)
  faultless =
      never_else _ _
      (never_else _ _ no_action_type (never_else _ _ no_type_hides (never_else _ _ no_action_hides
      (never_else _ _ no_unknown none_unsupported))))
      (never_else _ _ (never_else _ _ no_undefined_types no_undefined_actions)
      (never_else _ _ no_undeclared
      (never_else _ _ (never_else _ _ no_common_cycle (never_else _ _ no_shape no_context))
      (never_else _ _ no_action_cycle no_external_under))))
