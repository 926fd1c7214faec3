-- What a fragment means that says what a generated text declares.
use Rattle.std.proofs.Common.{◌≡◌, ◌⊎◌, inl, inr, ℕ, ◌<◌, ◌≤◌, Bool, List, [], ◌∷◌, map}
use Rattle.std.proofs.Common.{flat_map}
use Rattle.std.proofs.Common.{Option, Some, None, refl, sym, ap, ◌∙◌, subst, arith, true≢false, is_lt}
use Rattle.std.proofs.Common.{append-nil}
use Rattle.std.specs.BTreeSet.{insert_key}
use Rattle.std.specs.Cmp.{tied_itself}
use Rattle.std.specs.Cmp.Lexicographic.{slice_cmp}
use Rattle.std.specs.List.{AllZip}
use Rattle.std.specs.List.Sorted.{IsStrictlySortedBy}
use Rattle.std.specs.Ordering.{ordering_then, match_ordering}
use Rattle.std.specs.declared.cmp.Ordering.{Ordering}
use Rattle.std.specs.declared.cmp.Ordering.TheVariants.{Less, Equal, Greater}
use Rattle.std.proofs.lemmas.Map.Keys.{sorted_head}
use Rattle.std.proofs.lemmas.Option.{same_Some}
use Rattle.cedar_data.specs.Text.{text_cmp}
use Rattle.cedar_data.proofs.Orders.{nothing_rises}
use Rattle.schema_generate.specs.Generated.{max_size, resource_of}
use Rattle.cedar_identifiers.specs.Names.{components_of}
use Rattle.cedar_identifiers.specs.declared.raw_name.RawName.{RawName}
use Rattle.cedar_identifiers.specs.declared.unreserved_id.UnreservedId.{UnreservedId}
use Rattle.cedar_names.specs.CanonicalText.{namespace, in_order}
use Rattle.cedar_names.specs.Meaning.{EntityMeaning, ActionMeaning, SchemaMeaning}
use Rattle.cedar_names.specs.Orders.{names_in_order, names_total}
use Rattle.cedar_names.specs.declared.extension_table.ExtensionTable.{ExtensionTable}
use Rattle.schema_json.specs.Actions.{action_name}
use Rattle.schema_json.specs.declared.action_type.ActionEntityUID.{ActionEntityUID}
use Rattle.schema_json.specs.declared.action_type.ActionType.{ActionType}
use Rattle.schema_json.specs.declared.action_type.ApplySpec.{ApplySpec}
use Rattle.schema_json.specs.declared.entity_type.EntityType.{EntityType}
use Rattle.schema_json.specs.declared.entity_type.EntityTypeKind.{EntityTypeKind}
use Rattle.schema_json.specs.declared.entity_type.EntityTypeKind.TheVariants.{Standard, Enum}
use Rattle.schema_json.specs.declared.fragment.Fragment.{Fragment}
use Rattle.schema_json.specs.AsWritten.{as_written}
use Rattle.laws_written.specs.Written.{no_more}
use Rattle.laws_translate.specs.DeclarationsSay.{written_paths, KindSays, AppliesSay}
use Rattle.laws_translate.specs.FragmentsSay.{FragmentSays, namespace_order, name_components}
use Rattle.schema_resolve_definitions.specs.Declarations.{name_of}
use Rattle.schema_resolve_definitions.specs.Tests.{Tests}
use Rattle.schema_build_types.specs.Content.{actions_cmp}
use Rattle.schema_build_types.specs.Standing.{entity_as_built, action_as_built, schema_as_built}
use Rattle.schema_build_text.specs.Captured.{captured_in, IsUncaptured}
use Rattle.schema_build_text.specs.Walk.{ItemContent, entity_type, action, namespace_of, items_of, namespaces_of}
use Rattle.schema_build_expand.specs.Scope.{Scope}
use Rattle.schema_build_checks.specs.DeclaredAt.{actions_at_in_order}
use Rattle.schema_build_checks.proofs.Names.{names_by_components}
use Rattle.schema_build_scope.specs.FragmentScope.{fragment_scope}
use Rattle.schema_build_hierarchy.specs.Declarations.{DeclaredEntity, entity_in, entity_name, entities_of, action_in}
use Rattle.schema_build_hierarchy.specs.Declarations.{declared_entities, action_key, actions_of, declared_actions}
use Rattle.schema_build_hierarchy.specs.Parents.{IsAncestor}
use Rattle.schema_build_hierarchy.proofs.Ordered.{sorted_back, sorted_seen}
use Rattle.schema_build_items.specs.ActionKinds.{components_cmp, AreJust, IsMeantByOne, IsApplyMeaning}
use Rattle.schema_build_items.specs.Kinds.{TagsExpand, IsKindMeaning}
use Rattle.schema_build.specs.Meaning.{IsEntityMeaning, IsActionMeaning, EntitiesMean, ActionsMean}
use Rattle.schema_build.specs.Meaning.{FragmentMeaning}
use Rattle.laws_build.proofs.Said.Members.{IsIn, in_from, in_to, in_append, in_map, map_to, flat_nothing}
use Rattle.laws_build.specs.Generated.Declares.{entity_path, attributes_of, entity_of_number, action_of_number}
use Rattle.laws_build.specs.Generated.Declares.{generated_items}
use Rattle.laws_build.specs.Generated.Said.{DeclaredAction}
use Rattle.laws_build.proofs.Generated.Ancestors.{target_found, ancestors_of, are_ancestors}
use Rattle.laws_build.proofs.Generated.Declared.{Block, id_text, block_is, block_there, entity_at, action_at}
use Rattle.laws_build.proofs.Generated.Defined.{IsDeclaredName, t}
use Rattle.laws_build.proofs.Generated.Expanding.{declared_once, record_expands}
use Rattle.laws_build.proofs.Generated.Faultless.{no_action_ancestor}
use Rattle.laws_build.proofs.Generated.Given.{no_tags, target_declared, resource_declared}

-- one for each
chosen : {A B : Type 0} (P : A → B → Type 0) (xs : List A) → ((x : A) → IsIn x xs → (y : B) × P x y)
    → (ys : List B) × AllZip P xs ys
chosen P [] h = ([], tt)
chosen P (x ∷ xs) h =
    let first = h x (inl refl) in
    let others = chosen P xs (λ z k. h z (inr k)) in
    (first.0 ∷ others.0, (first.1, others.1))

zip_more : {A B : Type 0} (P Q : A → B → Type 0) → ((x : A) (y : B) → P x y → Q x y) → (xs : List A) (ys : List B)
    → AllZip P xs ys → AllZip Q xs ys
zip_more P Q more [] [] z = tt
zip_more P Q more [] (b ∷ ys) z = absurd z
zip_more P Q more (a ∷ xs) [] z = absurd z
zip_more P Q more (a ∷ xs) (b ∷ ys) z = (more a b z.0, zip_more P Q more xs ys z.1)

zip_right : {A B : Type 0} (P : A → B → Type 0) (xs : List A) (ys : List B) → AllZip P xs ys → (y : B) → IsIn y ys
    → (x : A) × P x y
zip_right P [] [] z y h = absurd h
zip_right P [] (b ∷ ys) z y h = absurd z
zip_right P (a ∷ xs) [] z y h = absurd z
zip_right P (a ∷ xs) (b ∷ ys) z y (inl e) = (a, subst (P a) (sym e) z.0)
zip_right P (a ∷ xs) (b ∷ ys) z y (inr h) = zip_right P xs ys z.1 y h

-- of blocks that rise and are all of the empty namespace there is one
one_block : (bs : List Block) (b : Block)
    → IsStrictlySortedBy namespace_order (map (λ (e : Block). name_components e.0) bs)
    → ((e : Block) → IsIn e bs → e.0 ≡ None) → IsIn b bs → bs ≡ b ∷ []
one_block [] b up none h = absurd h
one_block (x ∷ []) b up none (inl e) = ap (λ y. y ∷ []) (sym e)
one_block (x ∷ []) b up none (inr h) = absurd h
one_block (x ∷ y ∷ bs) b up none h =
    let less = (sorted_head namespace_order (name_components x.0)
    (map (λ (e : Block). name_components e.0) (y ∷ bs)) up).0 in
    let first : x.0 ≡ None = none x (inl refl) in
    let second : y.0 ≡ None = none y (inr (inl refl)) in
    absurd (true≢false (sym (ap is_lt
    (sym (ap (λ o. namespace_order (name_components o) (name_components y.0)) first
    ∙ ap (λ o. namespace_order None (name_components o)) second) ∙ less))))

then_equal : (c : Ordering) → ordering_then c Equal ≡ c
then_equal Less = refl
then_equal Equal = refl
then_equal Greater = refl

one_rises : {A : Type 0} (R : A → A → Ordering) (x : A) → IsStrictlySortedBy R (x ∷ [])
unfolding IsStrictlySortedBy
one_rises R x = (tt, tt)

-- what is put into an order was there
put_from : (ns : List (List (List ℕ))) (x p : List (List ℕ)) → IsIn p (insert_key (slice_cmp text_cmp) ns x)
    → (p ≡ x) ⊎ IsIn p ns
put_from [] x p h = h
put_from (y ∷ ns) x p h = by (slice_cmp text_cmp x y) h (put_from ns x p)
  where
    by : (c : Ordering)
        → IsIn p (match_ordering c (x ∷ y ∷ ns) (y ∷ ns) (y ∷ insert_key (slice_cmp text_cmp) ns x))
        → (IsIn p (insert_key (slice_cmp text_cmp) ns x) → (p ≡ x) ⊎ IsIn p ns) → (p ≡ x) ⊎ IsIn p (y ∷ ns)
    by Less k r = k
    by Equal k r = inr k
    by Greater (inl k) r = inr (inl k)
    by Greater (inr k) r = more (r k)
      where
        more : (p ≡ x) ⊎ IsIn p ns → (p ≡ x) ⊎ IsIn p (y ∷ ns)
        more (inl e) = inl e
        more (inr e) = inr (inr e)

ordered_from : (ns : List (List (List ℕ))) (p : List (List ℕ)) → IsIn p (in_order ns) → IsIn p ns
ordered_from [] p h = absurd h
ordered_from (x ∷ ns) p h = by (put_from (in_order ns) x p h) (ordered_from ns p)
  where
    by : (p ≡ x) ⊎ IsIn p (in_order ns) → (IsIn p (in_order ns) → IsIn p ns) → (p ≡ x) ⊎ IsIn p ns
    by (inl e) r = inl e
    by (inr k) r = inr (r k)

module _ (n : ℕ) (some : 1 ≤ n) (small : n ≤ max_size) (f : Fragment RawName as_written)
    (says : FragmentSays f (generated_items n)) (table : ExtensionTable) where
  abbrev tests : Tests
  tests = t n some f says table

  abbrev scope : Scope RawName
  scope = fragment_scope f table

  block : (b : Block) × IsIn b f.0
  block = block_there n some f says

  whole : f.0 ≡ block.0 ∷ []
  whole = one_block f.0 block.0 says.rising (λ e h. (block_is n some f says e h).1) block.1

  space : block.0.0 ≡ None
  space = (block_is n some f says block.0 block.1).1

  abbrev entities : List (UnreservedId × EntityType RawName)
  entities = block.0.1.entity_types

  abbrev actions : List (List ℕ × ActionType RawName as_written)
  actions = block.0.1.actions

  entities_are : declared_entities f ≡ map (entity_in None) entities
  entities_are =
      ap (flat_map entities_of) whole ∙ (append-nil (entities_of block.0)
      ∙ ap (λ s. map (entity_in s) entities) space)

  actions_are : declared_actions f ≡ map (action_in None) actions
  actions_are =
      ap (flat_map actions_of) whole ∙ (append-nil (actions_of block.0)
      ∙ ap (λ s. map (action_in s) actions) space)

  names_seen : (es : List (UnreservedId × EntityType RawName))
      → map entity_name (map (entity_in None) es) ≡ map (λ e. id_text e.0 ∷ []) es
  names_seen [] = refl
  names_seen (e ∷ es) = ap (λ l. (id_text e.0 ∷ []) ∷ l) (names_seen es)

  names_rise : IsStrictlySortedBy components_cmp (map entity_name (declared_entities f))
  names_rise =
      let es = entities in
      let up = (block_is n some f says block.0 block.1).3.entities.rising in
      subst (IsStrictlySortedBy components_cmp) (sym (ap (map entity_name) entities_are ∙ names_seen es))
      (sorted_seen (λ (e : UnreservedId × EntityType RawName). id_text e.0 ∷ []) components_cmp es
      (subst (λ R. IsStrictlySortedBy R es)
      (λ i (a b : UnreservedId × EntityType RawName). sym (then_equal (text_cmp (id_text a.0) (id_text b.0))) i)
      (sorted_back (λ (e : UnreservedId × EntityType RawName). id_text e.0) text_cmp es up)))

  entities_rise : IsStrictlySortedBy (λ (a b : DeclaredEntity). names_in_order a.name b.name) (declared_entities f)
  entities_rise = subst (λ R. IsStrictlySortedBy R (declared_entities f))
      (λ i (a b : DeclaredEntity). sym (names_by_components a.name b.name) i)
      (sorted_back entity_name components_cmp (declared_entities f) names_rise)

  actions_rise : IsStrictlySortedBy (λ (a b : DeclaredAction). actions_at_in_order a.name b.name) (declared_actions f)
  actions_rise =
      let es = actions in
      let up = (block_is n some f says block.0 block.1).3.actions.rising in
      let tied : names_in_order action_name action_name ≡ Equal = tied_itself names_total action_name in
      subst (IsStrictlySortedBy (λ (a b : DeclaredAction). actions_at_in_order a.name b.name)) (sym actions_are)
      (sorted_seen (action_in None) (λ (a b : DeclaredAction). actions_at_in_order a.name b.name) es
      (subst (λ R. IsStrictlySortedBy R es)
      (λ i (a b : List ℕ × ActionType RawName as_written). ordering_then (sym tied i) (text_cmp a.0 b.0))
      (sorted_back (λ (e : List ℕ × ActionType RawName as_written). e.0) text_cmp es up)))

  -- what an entity type means
  kind_meant : (i : ℕ) (x : Bool) (k : EntityTypeKind RawName) → KindSays x k (entity_of_number n i).decl
      → (m : _) × IsKindMeaning scope None k m
  kind_meant i x (Standard d) h =
      let r = record_expands n some f says table d.shape.0 (attributes_of n i)
      (inl refl, (inr (target_declared n i some), tt)) h.2 in (
        record { attributes = r.0; tags = None; choices = None },
        (r.1, tags_none d.tags (no_tags d.tags h.3), refl),
      )
    where
      tags_none : (o : _) → o ≡ None → TagsExpand scope None o None
      tags_none o e = subst (λ x. TagsExpand scope None x None) (sym e) refl
  kind_meant i x (Enum ids) h = absurd h

  abbrev IsUnqualifiedEntity : DeclaredEntity → EntityMeaning → Type 0
  IsUnqualifiedEntity d e = IsEntityMeaning f table d e × (namespace e.name ≡ [])

  entity_meant : (d : DeclaredEntity) → IsIn d (declared_entities f) → (e : EntityMeaning) × IsUnqualifiedEntity d e
  entity_meant d h =
      let of = entity_at n some f says d h in
      let kind = kind_meant of.number d.ty.external d.ty.kind of.says.1 in (
        record {
          name = entity_name d;
          is_external = d.ty.external;
          ancestors = ancestors_of n some small f says table of.number;
          attributes = kind.0.attributes;
          tags = kind.0.tags;
          choices = kind.0.choices;
        },
        (
          record {
            name = refl;
            is_external = refl;
            ancestors = subst (λ a. AreJust components_cmp (IsAncestor tests (declared_entities f) a)
                (ancestors_of n some small f says table of.number)) (sym of.name)
                (are_ancestors n some small f says table of.number of.below names_rise);
            kind = subst (λ s. IsKindMeaning scope (name_of s) d.ty.kind kind.0) (sym of.outside) kind.1;
          },
          ap namespace of.name,
        ),
      )

  entities_mean : (es : List EntityMeaning) × EntitiesMean f table es
      × ((e : EntityMeaning) → IsIn e es → namespace e.name ≡ [])
  entities_mean =
      let all = chosen IsUnqualifiedEntity (declared_entities f) entity_meant in (
        all.0,
        record {
          declared = declared_entities f;
          same = λ x. (λ h. h, λ h. h);
          rising = entities_rise;
          each =
              zip_more IsUnqualifiedEntity (IsEntityMeaning f table) (λ d e p. p.0) (declared_entities f) all.0
              all.1;
        },
        λ e h. (zip_right IsUnqualifiedEntity (declared_entities f) all.0 all.1 e h).1.1,
      )

  -- what an action means
  one_name : (names : List RawName) (p : List (List ℕ)) → written_paths names ≡ p ∷ [] → IsDeclaredName n p
      → AreJust components_cmp (IsMeantByOne tests None names) (p ∷ [])
  one_name names p e known = record {
    rising = one_rises components_cmp p;
    just = λ target. (
      λ h.
          let same = in_one target (in_from (p ∷ []) target h) in
          let m = in_map (λ (x : RawName). components_of x.name) names p
          (subst (IsIn p) (sym e) (inl refl)) in (
            m.0,
            in_to names m.0 m.1,
            target_found n some small f says table m.0 (subst (IsDeclaredName n) m.2 known)
                ∙ ap Some (sym m.2 ∙ sym same),
          ),
      λ h.
          let there = map_to (λ (x : RawName). components_of x.name) names h.0 (in_from names h.0 h.1) in
          let same = in_one (components_of h.0.name) (subst (IsIn (components_of h.0.name)) e there) in
          let found = target_found n some small f says table h.0 (subst (IsDeclaredName n) (sym same) known) in
          in_to (p ∷ []) target (inl (same_Some target (components_of h.0.name) (sym h.2 ∙ found) ∙ same)),
    );
  }
    where
      in_one : (x : List (List ℕ)) → IsIn x (p ∷ []) → x ≡ p
      in_one x (inl k) = k
      in_one x (inr k) = absurd k

  apply_meant : (i : ℕ) (x : Bool) (spec : Option (ApplySpec RawName))
      (ps : Option (List (ActionEntityUID RawName as_written))) → i < n
      → AppliesSay x spec ps (action_of_number n i).decl
      → (m : _) × IsApplyMeaning tests scope None spec m
  apply_meant i x None ps below h = absurd h
  apply_meant i x (Some d) ps below h =
      let r = record_expands n some f says table d.context.0 no_more tt h.2.2 in (
        record {
          principals = entity_path i ∷ [];
          resources = entity_path (resource_of n i) ∷ [];
          context = r.0;
        },
        (
          one_name d.principal_types (entity_path i) h.2.0 (i, below, refl),
          one_name d.resource_types (entity_path (resource_of n i)) h.2.1 (resource_declared n i some),
          r.1,
        ),
      )

  abbrev IsUnqualifiedAction : DeclaredAction → ActionMeaning → Type 0
  IsUnqualifiedAction d a = IsActionMeaning f table d a × (namespace a.ty ≡ [])

  action_meant : (d : DeclaredAction) → IsIn d (declared_actions f) → (a : ActionMeaning) × IsUnqualifiedAction d a
  action_meant d h =
      let of = action_at n some f says d h in
      let applies = apply_meant of.number d.ty.external d.ty.applies_to d.ty.member_of of.below of.says.2 in (
        record {
          ty = (action_key d).0;
          id = (action_key d).1;
          is_external = d.ty.external;
          ancestors = [];
          principals = applies.0.principals;
          resources = applies.0.resources;
          context = applies.0.context;
        },
        (
          record {
            key = refl;
            is_external = refl;
            ancestors = record {
              rising = nothing_rises actions_cmp;
              just = λ b. (
                λ c. absurd (omega (arith, c.1)),
                λ r. absurd (no_action_ancestor n some f says table (action_key d) b r),
              );
            };
            applies = subst (λ s. IsApplyMeaning tests scope s d.ty.applies_to applies.0) (sym of.outside) applies.1;
          },
          ap (λ (k : List (List ℕ) × List ℕ). namespace k.0) of.key,
        ),
      )

  actions_mean : (as' : List ActionMeaning) × ActionsMean f table as'
      × ((a : ActionMeaning) → IsIn a as' → namespace a.ty ≡ [])
  actions_mean =
      let all = chosen IsUnqualifiedAction (declared_actions f) action_meant in (
        all.0,
        record {
          declared = declared_actions f;
          same = λ x. (λ h. h, λ h. h);
          rising = actions_rise;
          each = zip_more IsUnqualifiedAction (IsActionMeaning f table) (λ d e p. p.0) (declared_actions f) all.0 all.1;
        },
        λ a h. (zip_right IsUnqualifiedAction (declared_actions f) all.0 all.1 a h).1.1,
      )

  abbrev meaning : SchemaMeaning
  meaning = record { entities = entities_mean.0; actions = actions_mean.0 }

  meaning_is : FragmentMeaning f table meaning
  meaning_is =
      record { once = declared_once n some f says table; entities = entities_mean.1; actions = actions_mean.1 }

  -- nothing has a namespace, so that nothing is captured
  unqualified_item : (x : ItemContent) → IsIn x (items_of (schema_as_built meaning)) → namespace_of x ≡ []
  unqualified_item x h =
      by (in_append (map entity_type (map entity_as_built entities_mean.0))
      (map action (map action_as_built actions_mean.0)) x h)
    where
      by : IsIn x (map entity_type (map entity_as_built entities_mean.0))
          ⊎ IsIn x (map action (map action_as_built actions_mean.0)) → namespace_of x ≡ []
      by (inl k) =
          let o = in_map entity_type (map entity_as_built entities_mean.0) x k in
          let e = in_map entity_as_built entities_mean.0 o.0 o.1 in
          ap namespace_of (o.2 ∙ ap entity_type e.2) ∙ entities_mean.2 e.0 e.1
      by (inr k) =
          let o = in_map action (map action_as_built actions_mean.0) x k in
          let a = in_map action_as_built actions_mean.0 o.0 o.1 in
          ap namespace_of (o.2 ∙ ap action a.2) ∙ actions_mean.2 a.0 a.1

  uncaptured : IsUncaptured meaning
  uncaptured = flat_nothing (captured_in (schema_as_built meaning)) (namespaces_of (schema_as_built meaning)) (λ q h.
      let o = in_map namespace_of (items_of (schema_as_built meaning)) q
      (ordered_from (map namespace_of (items_of (schema_as_built meaning))) q h) in
      ap (captured_in (schema_as_built meaning)) (o.2 ∙ unqualified_item o.0 o.1))

  pub means_something : (m : SchemaMeaning) × FragmentMeaning f table m × IsUncaptured m
  means_something = (meaning, meaning_is, uncaptured)
