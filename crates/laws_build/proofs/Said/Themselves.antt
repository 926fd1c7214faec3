-- The names of a closed meaning mean themselves in a fragment that declares just what the meaning has.
use Rattle.std.proofs.Common.{◌≡◌, ◌⊎◌, inl, inr, ℕ, Bool, true, false, cond, ◌||◌, ◌&&◌, not, List, [], ◌∷◌, ◌++◌}
use Rattle.std.proofs.Common.{codes, map, find, Option, Some, None, is_some, Contains, refl, sym, ap, ◌∙◌, subst}
use Rattle.std.proofs.Common.{true≢false, if◌then◌else◌}
use Rattle.std.specs.Cmp.{second_so}
use Rattle.std.specs.List.{list_any}
use Rattle.std.specs.Option.{option_map}
use Rattle.std.specs.Str.{bytes_eq}
use Rattle.std.proofs.lemmas.Bool.{and_from, or_parts, or_left, or_right, false_from_ne_true}
use Rattle.std.proofs.lemmas.Slice.Eq.{bytes_eq-Decides}
use Rattle.std.proofs.lemmas.Option.{same_Some}
use Rattle.cedar_data.proofs.Lists.{list_any-map}
use Rattle.cedar_identifiers.specs.Candidates.{behind, candidates}
use Rattle.cedar_identifiers.specs.Names.{components_of, texts_of, has_cedar}
use Rattle.cedar_identifiers.specs.Words.{is_cedar}
use Rattle.cedar_identifiers.specs.declared.id.Id.{Id}
use Rattle.cedar_identifiers.specs.declared.internal_name.InternalName.{InternalName}
use Rattle.cedar_identifiers.specs.declared.name.Name.{Name}
use Rattle.cedar_identifiers.specs.declared.raw_name.RawName.{RawName}
use Rattle.cedar_identifiers.specs.declared.reference_type.ReferenceType.{ReferenceType}
use Rattle.cedar_identifiers.specs.declared.reference_type.ReferenceType.TheVariants.{Common, Entity, CommonOrEntity}
use Rattle.cedar_identifiers.specs.declared.unreserved_id.UnreservedId.{UnreservedId}
use Rattle.cedar_names.specs.CanonicalText.{basename, namespace}
use Rattle.cedar_names.specs.Definitions.{same_name}
use Rattle.cedar_names.specs.Meaning.{PlainType, Attributes, EntityMeaning, ActionMeaning, SchemaMeaning}
use Rattle.cedar_names.specs.Meaning as meant
use Rattle.cedar_names.specs.TableNames.{is_builtin}
use Rattle.cedar_names.specs.Tables.{table_names, table_has}
use Rattle.cedar_names.specs.declared.extension_table.ExtensionTable.{ExtensionTable}
use Rattle.cedar_names.proofs.Defined.{name_itself}
use Rattle.schema_json.specs.declared.fragment.Fragment.{Fragment}
use Rattle.schema_json.specs.AsWritten.{as_written}
use Rattle.laws_translate.specs.MeantNames.{IsOpenName, IsActionName}
use Rattle.schema_resolve_definitions.specs.Declarations.{name_of}
use Rattle.schema_resolve_definitions.specs.Defined.{defined, builtins, is_hidden}
use Rattle.schema_resolve_definitions.specs.Tests.{Tests, tests_of}
use Rattle.schema_resolve_targets.specs.Meanings.{kind_there}
use Rattle.schema_resolve_targets.specs.Qualified.{in_namespace, type_in_namespace}
use Rattle.schema_resolve_targets.specs.Targets.{target, action_target}
use Rattle.schema_build_types.specs.Standing.{as_built, attributes_as_built}
use Rattle.schema_build_text.specs.Captured.{plain_action, holds_plain_action, some_hold}
use Rattle.schema_build_expand.specs.Scope.{Scope, in_table, builtin}
use Rattle.schema_build_scope.specs.FragmentScope.{fragment_scope, by_components}
use Rattle.schema_build_hierarchy.proofs.ActionTypes.{last_behind}
use Rattle.schema_build.specs.Meaning.{key_of}
use Rattle.laws_build.specs.Closure.Closed.{IsClosed}
use Rattle.laws_build.specs.Closure.Known.{meant_entities, meant_actions, action_types, IsKnownName, IsKnownType}
use Rattle.laws_build.specs.Closure.Known.{AreKnownTypes}
use Rattle.laws_build.specs.Said.Ancestors.{IsActionFoundAs}
use Rattle.laws_build.specs.Said.DeclaredEntries.{DeclaresJust}
use Rattle.laws_build.specs.Said.Entries.{IsFoundAs}
use Rattle.laws_build.specs.Said.Themselves.{MeansEntity, MeansBuiltin, MeansItself, MeanThemselves}
use Rattle.laws_build.proofs.Said.DeclaredEntities.{texts_behind}
use Rattle.laws_build.proofs.Said.Defining.{Key, IsEntityName, IsActionType, own}
use Rattle.laws_build.proofs.Said.Defining.{is_own_entity, own_action, is_own_action, entity_cases, is_entity_named}
use Rattle.laws_build.proofs.Said.Defining.{common_cases, is_builtin_named, none_declared}
use Rattle.laws_build.proofs.Said.Members.{IsIn, in_from, in_to, in_map, map_to, all_in}

-- names behind a namespace
not_none : (xs : List (List ℕ)) (x : List ℕ) → xs ++ x ∷ [] ≡ [] → ⊥
not_none [] x h = cc
not_none (y ∷ xs) x h = cc

front_of : (xs : List (List ℕ)) (x : List ℕ) → namespace (xs ++ x ∷ []) ≡ xs
front_of [] x = refl
front_of (y ∷ []) x = refl
front_of (y ∷ z ∷ xs) x = ap (λ l. y ∷ l) (front_of (z ∷ xs) x)

cedar_has : (w : List ℕ) (more : List (List ℕ)) → w ≡ codes "__cedar" → has_cedar (w ∷ more) ≡ true
cedar_has w more e = ap (λ x. is_cedar x || has_cedar more) e

-- a candidate that passes, where the one behind the namespace does not
module _ (test : List (List ℕ) → Bool) where
  abbrev passes : InternalName → Bool
  passes p = test (components_of p)

  by_parts : (s : InternalName) (first : Id) (others : List Id) (loc : _)
      → test (components_of (record { first = first; others = others; loc = loc })) ≡ true
      → (others ≡ [] → test (components_of s ++ first.text ∷ []) ≡ false)
      → find passes (candidates (Some s) (record { first = first; others = others; loc = loc }))
      ≡ Some (record { first = first; others = others; loc = loc })
  by_parts s first [] loc h free =
      let n : InternalName = record { first = first; others = []; loc = loc } in
      ap (λ b. cond b (Some (behind s n)) (find passes (n ∷ [])))
      (ap test (texts_behind (s.first ∷ s.others) first) ∙ free refl)
      ∙ ap (λ b. cond b (Some n) None) h
  by_parts s first (i ∷ others) loc h free =
      let n : InternalName = record { first = first; others = i ∷ others; loc = loc } in
      ap (λ b. cond b (Some n) None) h

  pub found_itself : (ns : Option Name) (n : InternalName) → test (components_of n) ≡ true
      → ((s : Name) → ns ≡ Some s → n.others ≡ [] → test (components_of s.name ++ n.first.text ∷ []) ≡ false)
      → find passes (candidates (name_of ns) n) ≡ Some n
  found_itself None n h free = ap (λ b. cond b (Some n) None) h
  found_itself (Some s) n h free = by_parts s.name n.first n.others n.loc h (free s refl)

-- where no word of a list is a builtin's, one of them is none's
word_free : (ns : List UnreservedId) → list_any (λ (n : UnreservedId). is_builtin n.id.text) ns ≡ false
    → (n : UnreservedId) → IsIn n ns → is_builtin n.id.text ≡ false
word_free [] f n h = absurd h
word_free (x ∷ ns) f n (inl e) =
    ap (λ (y : UnreservedId). is_builtin y.id.text) e
    ∙ (or_parts (is_builtin x.id.text) (list_any (λ (y : UnreservedId). is_builtin y.id.text) ns) f).0
word_free (x ∷ ns) f n (inr h) = word_free ns
    (or_parts (is_builtin x.id.text) (list_any (λ (y : UnreservedId). is_builtin y.id.text) ns) f).1 n h

module _ (table : ExtensionTable) (m : SchemaMeaning) (closed : IsClosed table m) (g : Fragment RawName as_written)
    (just : DeclaresJust m g) where
  abbrev t : Tests
  t = tests_of (defined g table)

  abbrev scope : Scope RawName
  scope = fragment_scope g table

  abbrev IsNamed : List (List ℕ) → Type 0
  IsNamed n = IsEntityName m n ⊎ IsActionType m n

  entity_open : (e : EntityMeaning) → IsIn e m.entities → IsOpenName e.name
  entity_open e h = all_in (λ (x : EntityMeaning). IsOpenName x.name) m.entities e closed.open_names.entities h

  action_open : (a : ActionMeaning) → IsIn a m.actions → IsActionName a.ty
  action_open a h = all_in (λ (x : ActionMeaning). IsActionName x.ty) m.actions a closed.open_names.actions h

  named_free : (n : List (List ℕ)) → IsNamed n → has_cedar n ≡ false
  named_free n (inl (e, h, same)) = ap has_cedar (sym same) ∙ (entity_open e h).1
  named_free n (inr (a, h, same)) = ap has_cedar (sym same) ∙ (action_open a h).0.1

  name_there : (e : EntityMeaning) → IsIn e m.entities → Contains (meant_entities m) e.name
  name_there e h = in_to (meant_entities m) e.name (map_to (λ (y : EntityMeaning). y.name) m.entities e h)

  pub key_there : (a : ActionMeaning) → IsIn a m.actions → Contains (meant_actions m) (key_of a)
  key_there a h = in_to (meant_actions m) (key_of a) (map_to key_of m.actions a h)

  -- no entity type is called `Action`
  pub no_action : (e : EntityMeaning) → IsIn e m.entities → basename e.name ≡ codes "Action" → ⊥
  no_action e h k = all_in (λ (x : EntityMeaning). basename x.name ≡ codes "Action" → ⊥) m.entities e
      closed.apart.no_action h k

  -- nor is a builtin type
  not_builtin : (w : List ℕ) → IsIn w (builtins table) → w ≡ codes "Action" → ⊥
  not_builtin w (inl e) k = true≢false (ap (bytes_eq (codes "Action")) (sym k ∙ e))
  not_builtin w (inr (inl e)) k = true≢false (ap (bytes_eq (codes "Action")) (sym k ∙ e))
  not_builtin w (inr (inr (inl e))) k = true≢false (ap (bytes_eq (codes "Action")) (sym k ∙ e))
  not_builtin w (inr (inr (inr h))) k =
      let o = in_map (λ (n : UnreservedId). n.id.text) table.names w h in
      true≢false (ap is_builtin (sym k ∙ o.2) ∙ word_free table.names table.extensions o.0 o.1)

  -- no name of the meaning is that of a common type
  not_common : (n : List (List ℕ)) → IsNamed n → t.is_common n ≡ false
  not_common n known = false_from_ne_true (t.is_common n) (λ h. by (common_cases m g just table n h))
    where
      alone : (w : List ℕ) → IsIn w (builtins table) → n ≡ w ∷ [] → is_hidden (own m g just) w ≡ false → IsNamed n → ⊥
      alone w h same off (inl (e, k, is)) =
          let hidden : is_hidden (own m g just) w ≡ true =
          or_right ((own m g just).is_common (w ∷ [])) ((own m g just).is_entity (w ∷ []))
          (ap (own m g just).is_entity (sym (is ∙ same)) ∙ is_own_entity m g just e k) in
          true≢false (sym hidden ∙ off)
      alone w h same off (inr (a, k, is)) =
          not_builtin w h (ap basename (sym (is ∙ same)) ∙ (action_open a k).1)

      by : (w : List ℕ) × IsIn w (builtins table)
          × ((n ≡ codes "__cedar" ∷ w ∷ []) ⊎ ((n ≡ w ∷ []) × (is_hidden (own m g just) w ≡ false))) → ⊥
      by (w, h, inl same) =
          true≢false (sym (ap has_cedar same ∙ cedar_has (codes "__cedar") (w ∷ []) refl) ∙ named_free n known)
      by (w, h, inr (same, off)) = alone w h same off known

  -- behind a namespace stands no builtin
  not_common_behind : (s : Name) (x : List ℕ) → t.is_common (components_of s.name ++ x ∷ []) ≡ false
  not_common_behind s x = false_from_ne_true (t.is_common (components_of s.name ++ x ∷ []))
      (λ h. by (common_cases m g just table (components_of s.name ++ x ∷ []) h))
    where
      by : (w : List ℕ) × IsIn w (builtins table) × ((components_of s.name ++ x ∷ [] ≡ codes "__cedar" ∷ w ∷ [])
          ⊎ ((components_of s.name ++ x ∷ [] ≡ w ∷ []) × (is_hidden (own m g just) w ≡ false))) → ⊥
      by (w, h, inl same) =
          let first : s.name.first.text ≡ codes "__cedar" = cc in
          true≢false (sym (cedar_has s.name.first.text (texts_of s.name.others) first) ∙ s.unreserved)
      by (w, h, inr (same, off)) =
          let others : texts_of s.name.others ++ x ∷ [] ≡ [] = cc in
          not_none (texts_of s.name.others) x others

  -- a name of the empty namespace is not alone where it stands behind another
  pub apart : (s : Name) (x : List ℕ) → components_of s.name ++ x ∷ [] ≡ x ∷ [] → ⊥
  apart s x h =
      let others : texts_of s.name.others ++ x ∷ [] ≡ [] = cc in
      not_none (texts_of s.name.others) x others

  -- in a namespace, nothing takes the name of an entity type of the empty one
  pub not_entity_behind : (s : Name) (x : List ℕ) → IsEntityName m (x ∷ [])
      → t.is_entity (components_of s.name ++ x ∷ []) ≡ false
  not_entity_behind s x (o, k, is) =
      false_from_ne_true (t.is_entity (components_of s.name ++ x ∷ []))
      (λ h. by (entity_cases m g just table (components_of s.name ++ x ∷ []) h))
    where
      by : IsNamed (components_of s.name ++ x ∷ []) → ⊥
      by (inl (e, h, same)) =
          let base : basename e.name ≡ x = ap basename same ∙ last_behind (components_of s.name) x in
          let here = name_there e h in
          let there : Contains (meant_entities m) (basename e.name ∷ []) =
          subst (Contains (meant_entities m)) (is ∙ ap (λ y. y ∷ []) (sym base))
          (name_there o k) in
          apart s x (sym same ∙ (closed.apart.entities e.name here there ∙ ap (λ y. y ∷ []) base))
      by (inr (a, h, same)) =
          let base : basename a.ty ≡ x = ap basename same ∙ last_behind (components_of s.name) x in
          no_action o k (ap basename is ∙ (sym base ∙ (action_open a h).1))

  -- nor that of its actions' type, where there is no action in the namespace
  not_action_behind : (s : Name) (x : List ℕ) → IsActionType m (x ∷ [])
      → ((a : ActionMeaning) → IsIn a m.actions → namespace a.ty ≡ components_of s.name → ⊥)
      → t.is_entity (components_of s.name ++ x ∷ []) ≡ false
  not_action_behind s x (b, k, is) free =
      false_from_ne_true (t.is_entity (components_of s.name ++ x ∷ []))
      (λ h. by (entity_cases m g just table (components_of s.name ++ x ∷ []) h))
    where
      by : IsNamed (components_of s.name ++ x ∷ []) → ⊥
      by (inl (e, h, same)) =
          let base : basename e.name ≡ x = ap basename same ∙ last_behind (components_of s.name) x in
          no_action e h (base ∙ (ap basename (sym is) ∙ (action_open b k).1))
      by (inr (a, h, same)) = free a h (ap namespace same ∙ front_of (components_of s.name) x)

  -- the name of an entity type; or the type of an action, which nothing takes in the namespace
  abbrev IsReferred : Option Name → List (List ℕ) → Type 0
  IsReferred ns n = IsEntityName m n ⊎ (IsActionType m n
      × ((s : Name) → ns ≡ Some s → n ≡ plain_action
      → (a : ActionMeaning) → IsIn a m.actions → namespace a.ty ≡ components_of s.name → ⊥))

  named_of : (ns : Option Name) (n : List (List ℕ)) → IsReferred ns n → IsNamed n
  named_of ns n (inl h) = inl h
  named_of ns n (inr (h, free)) = inr h

  referred_behind : (ns : Option Name) (n : List (List ℕ)) → IsReferred ns n → (s : Name) → ns ≡ Some s
      → (x : List ℕ) → n ≡ x ∷ [] → t.is_entity (components_of s.name ++ x ∷ []) ≡ false
  referred_behind ns n (inl h) s e x same = not_entity_behind s x (subst (IsEntityName m) same h)
  referred_behind ns n (inr ((a, h, is), free)) s e x same =
      let plain : n ≡ plain_action = same ∙ ap (λ y. y ∷ []) (ap basename (sym (is ∙ same)) ∙ (action_open a h).1) in
      not_action_behind s x (a, h, is ∙ same) (free s e plain)

  alone_as : (n : InternalName) (target : List (List ℕ)) → components_of n ≡ target → n.others ≡ []
      → target ≡ n.first.text ∷ []
  alone_as n target e o = sym e ∙ ap (λ (is : List Id). n.first.text ∷ texts_of is) o

  abbrev either : List (List ℕ) → Bool
  either n = t.is_common n || t.is_entity n

  either_behind : (s : Name) (x : List ℕ) → t.is_entity (components_of s.name ++ x ∷ []) ≡ false
      → either (components_of s.name ++ x ∷ []) ≡ false
  either_behind s x h = let p = not_common_behind s x in λ i. p i || h i

  -- what a name means that is found as it stands
  means_found : (ns : Option Name) (n : RawName) (c : List (List ℕ)) (k : ReferenceType)
      → target t (in_namespace (name_of ns) CommonOrEntity n) ≡ Some n.name → components_of n.name ≡ c
      → kind_there t CommonOrEntity n.name ≡ k
      → scope.means (name_of ns) CommonOrEntity n ≡ Some (let r : List (List ℕ) × ReferenceType = (c, k) in r)
  means_found ns n c k found same kind =
      ap (λ o. option_map by_components (option_map with_kind o)) found
      ∙ (λ i. Some (let r : List (List ℕ) × ReferenceType = (same i, kind i) in r))
    where
      with_kind : InternalName → InternalName × ReferenceType
      with_kind p = (p, kind_there t CommonOrEntity p)

  -- what is referred to is found, in types
  pub means_entity : (ns : Option Name) (n : List (List ℕ)) → IsReferred ns n → MeansEntity scope (name_of ns) n
  means_entity ns n known name same =
      let there : either (components_of name.name) ≡ true =
      or_right (t.is_common (components_of name.name)) (t.is_entity (components_of name.name))
      (ap t.is_entity same ∙ is_entity_named m g just table n (named_of ns n known)) in
      let found = found_itself either ns name.name there (λ s e o.
      either_behind s name.name.first.text
      (referred_behind ns n known s e name.name.first.text (alone_as name.name n same o))) in
      let kind : kind_there t CommonOrEntity name.name ≡ Entity =
      ap (λ b. if b then Common else Entity) (ap t.is_common same ∙ not_common n (named_of ns n known)) in
      means_found ns name n Entity found same kind

  -- what is referred to is found, where an entity type is asked for
  pub found_as : (ns : Option Name) (n : List (List ℕ)) → IsEntityName m n → IsFoundAs t ns n
  found_as ns n known name same =
      let there : t.is_entity (components_of name.name) ≡ true =
      ap t.is_entity same ∙ is_entity_named m g just table n (inl known) in
      let found = found_itself t.is_entity ns name.name there
      (λ s e o. referred_behind ns n (inl known) s e name.name.first.text (alone_as name.name n same o)) in
      ap (option_map components_of) found ∙ ap Some same

  -- a builtin name behind `__cedar` means itself
  pub means_builtin : (ns : Option Name) (w : List ℕ) → IsIn w (builtins table) → MeansBuiltin scope (name_of ns) w
  means_builtin ns w h = (by, none_declared m g just table (codes "__cedar" ∷ w ∷ []))
    where
      by : (n : RawName) → components_of n.name ≡ codes "__cedar" ∷ w ∷ []
          → scope.means (name_of ns) CommonOrEntity n ≡ Some (codes "__cedar" ∷ w ∷ [], Common)
      by n same =
          let common : t.is_common (components_of n.name) ≡ true =
          ap t.is_common same ∙ is_builtin_named m g just table w h in
          let there : either (components_of n.name) ≡ true =
          or_left (t.is_common (components_of n.name)) (t.is_entity (components_of n.name)) common in
          let found = found_itself either ns n.name there (λ s e o.
          absurd (two_words w n.name.first.text (sym same ∙ alone_as n.name (components_of n.name) refl o))) in
          let kind : kind_there t CommonOrEntity n.name ≡ Common = ap (λ b. if b then Common else Entity) common in
          means_found ns n (codes "__cedar" ∷ w ∷ []) Common found same kind
        where
          two_words : (w x : List ℕ) → codes "__cedar" ∷ w ∷ [] ≡ x ∷ [] → ⊥
          two_words w x e = cc

  abbrev passes_action : List ℕ → List (List ℕ) → Bool
  passes_action id c = not (has_cedar c) && t.is_action (let k : Key = (c, id) in k)

  -- a reference to an action finds it
  pub action_found_as : (ns : Option Name) (b : ActionMeaning) → IsIn b m.actions → IsActionFoundAs t ns (key_of b)
  action_found_as ns b h None same = absurd (true≢false (sym (ap is_some same)))
  action_found_as ns b h (Some name) same = by (same_Some (components_of name.name) b.ty same)
    where
      behind_none : (s : Name) (x : List ℕ) → b.ty ≡ x ∷ []
          → passes_action b.id (components_of s.name ++ x ∷ []) ≡ false
      behind_none s x plain = false_from_ne_true (passes_action b.id (components_of s.name ++ x ∷ [])) (λ k.
          let c = components_of s.name ++ x ∷ [] in
          let a = own_action m g just (c, b.id) (second_so (not (has_cedar c)) (t.is_action (c, b.id)) k) in
          let word : x ≡ codes "Action" = ap basename (sym plain) ∙ (action_open b h).1 in
          let here : Contains (meant_actions m) (c, b.id) =
          subst (Contains (meant_actions m)) a.2 (key_there a.0 a.1) in
          let there : Contains (meant_actions m) (plain_action, b.id) =
          subst (λ ty. Contains (meant_actions m) (ty, b.id)) (plain ∙ ap (λ y. y ∷ []) word)
          (key_there b h) in
          apart s x (closed.apart.actions c b.id here there ∙ ap (λ y. y ∷ []) (sym word)))

      by : components_of name.name ≡ b.ty
          → option_map (λ (n : InternalName). let a : Key = (components_of n, b.id) in a)
          (action_target t b.id (Some (type_in_namespace (name_of ns) b.id (Some name)))) ≡ Some (key_of b)
      by is =
          let open' : has_cedar (components_of name.name) ≡ false = ap has_cedar is ∙ (action_open b h).0.1 in
          let there : passes_action b.id (components_of name.name) ≡ true =
          and_from (not (has_cedar (components_of name.name))) (t.is_action (components_of name.name, b.id))
          (ap not open') (ap (λ ty. t.is_action (let k : Key = (ty, b.id) in k)) is ∙ is_own_action m g just b h) in
          let found = found_itself (passes_action b.id) ns name.name there
          (λ s e o. behind_none s name.name.first.text (alone_as name.name b.ty is o)) in
          ap (option_map (λ (n : InternalName). let a : Key = (components_of n, b.id) in a)) found
          ∙ (λ i. Some (let a : Key = (is i, b.id) in a))

  -- what the table has is a builtin type
  table_word : (w : List ℕ) → table_has table w ≡ true → IsIn w (table_names table)
  table_word w h = by table.names h
    where
      by : (ns : List UnreservedId) → list_any (λ (n : UnreservedId). bytes_eq w n.id.text) ns ≡ true
          → IsIn w (map (λ (n : UnreservedId). n.id.text) ns)
      by [] k = absurd (true≢false (sym k))
      by (n ∷ ns) k = one (bytes_eq w n.id.text) refl k (by ns)
        where
          one : (b : Bool) → bytes_eq w n.id.text ≡ b
              → (b || list_any (λ (x : UnreservedId). bytes_eq w x.id.text) ns) ≡ true
              → (list_any (λ (x : UnreservedId). bytes_eq w x.id.text) ns ≡ true
              → IsIn w (map (λ (x : UnreservedId). x.id.text) ns))
              → (w ≡ n.id.text) ⊎ IsIn w (map (λ (x : UnreservedId). x.id.text) ns)
          one true e k r = inl ((bytes_eq-Decides w n.id.text).0 e)
          one false e k r = inr (r k)

  -- a word of the table is no other builtin
  not_primitive : (w : List ℕ) → table_has table w ≡ true → is_builtin w ≡ false
  not_primitive w h =
      let o = in_map (λ (n : UnreservedId). n.id.text) table.names w (table_word w h) in
      ap is_builtin o.2 ∙ word_free table.names table.extensions o.0 o.1

  ext_builtin : (w : List ℕ) → table_has table w ≡ true
      → builtin scope (codes "__cedar" ∷ w ∷ []) ≡ Some (PlainType.Ext w)
  ext_builtin w h =
      let one = or_parts (bytes_eq w (codes "Bool")) _ (not_primitive w h) in
      let two = or_parts (bytes_eq w (codes "Long")) _ one.1 in
      let three = or_parts (bytes_eq w (codes "String")) _ two.1 in
      let last : in_table scope w ≡ true =
      list_any-map (bytes_eq w) (λ (n : UnreservedId). n.id.text) table.names ∙ h in
      λ i. (if one.0 i then Some PlainType.Bool else (if two.0 i then Some PlainType.Long
      else (if three.0 i then Some PlainType.String else (if last i then Some (PlainType.Ext w) else None))))

  -- where the namespace has an action, it holds no `Action` of the empty namespace
  abbrev pub IsFree : Option Name → Bool → Type 0
  IsFree ns holds = (s : Name) → ns ≡ Some s → (a : ActionMeaning) → IsIn a m.actions
      → namespace a.ty ≡ components_of s.name → holds ≡ false

  pub named_entity : (n : List (List ℕ)) → Contains (meant_entities m) n → IsEntityName m n
  named_entity n h =
      let o = in_map (λ (e : EntityMeaning). e.name) m.entities n (in_from (meant_entities m) n h) in
      (o.0, o.1, sym o.2)

  referred : (ns : Option Name) (n : List (List ℕ)) → IsKnownName m n
      → IsFree ns (holds_plain_action (as_built (PlainType.Entity n))) → IsReferred ns n
  referred ns n (inl h) f = inl (named_entity n h)
  referred ns n (inr h) f =
      let o = in_map (λ (a : ActionMeaning). a.ty) m.actions n (in_from (action_types m) n h) in
      inr (
        (o.0, o.1, sym o.2),
        λ s e plain a k same.
            true≢false (sym (or_left (same_name plain_action n) false
            (ap (same_name plain_action) plain ∙ name_itself plain_action)) ∙ f s e a k same),
      )

  mutual
    pub type_means : (ns : Option Name) (p : PlainType) → IsKnownType table m p
        → IsFree ns (holds_plain_action (as_built p)) → MeansItself scope (name_of ns) p
    type_means ns PlainType.Bool k f = means_builtin ns (codes "Bool") (inl refl)
    type_means ns PlainType.Long k f = means_builtin ns (codes "Long") (inr (inl refl))
    type_means ns PlainType.String k f = means_builtin ns (codes "String") (inr (inr (inl refl)))
    type_means ns (PlainType.Set p) k f = type_means ns p k f
    type_means ns (PlainType.Rec xs) k f = types_mean ns xs k f
    type_means ns (PlainType.Entity n) k f = means_entity ns n (referred ns n k f)
    type_means ns (PlainType.Ext w) k f =
        (means_builtin ns w (inr (inr (inr (table_word w k)))), ext_builtin w k)

    pub types_mean : (ns : Option Name) (xs : Attributes) → AreKnownTypes table m xs
        → IsFree ns (some_hold (attributes_as_built xs)) → MeanThemselves scope (name_of ns) xs
    types_mean ns meant.no_more k f = tt
    types_mean ns (meant.attribute n r p xs) k f =
        let both = λ (s : Name) (e : ns ≡ Some s) (a : ActionMeaning) (h : IsIn a m.actions)
        (same : namespace a.ty ≡ components_of s.name).
        or_parts (holds_plain_action (as_built p)) (some_hold (attributes_as_built xs)) (f s e a h same) in (
          type_means ns p k.0 (λ s e a h same. (both s e a h same).0),
          types_mean ns xs k.1 (λ s e a h same. (both s e a h same).1),
        )
