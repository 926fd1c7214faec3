-- What a fragment defines that declares just what a meaning has.
use Rattle.std.proofs.Common.{◌≡◌, ◌⊎◌, inl, inr, ℕ, Bool, true, false, List, [], ◌∷◌, ◌++◌, codes, map, flat_map}
use Rattle.std.proofs.Common.{Option, Some, None, refl, sym, ap, ◌∙◌, subst, true≢false, is_some, if◌then◌else◌}
use Rattle.std.specs.Prelude.{slice_get}
use Rattle.std.specs.Str.{bytes_eq, encode_utf8_all}
use Rattle.std.proofs.lemmas.Bool.{or_cases, and_from, or_left, or_right}
use Rattle.std.proofs.lemmas.List.{map-append}
use Rattle.std.proofs.lemmas.Slice.Eq.{bytes_eq-Decides}
use Rattle.cedar_data.specs.Maps.{map_of}
use Rattle.cedar_identifiers.specs.Names.{components_of}
use Rattle.cedar_identifiers.specs.declared.name.Name.{Name}
use Rattle.cedar_identifiers.specs.declared.raw_name.RawName.{RawName}
use Rattle.cedar_identifiers.specs.declared.unreserved_id.UnreservedId.{UnreservedId}
use Rattle.cedar_names.specs.Definitions.{among, same_name, among_actions, same_action}
use Rattle.cedar_names.specs.Meaning.{EntityMeaning, ActionMeaning, SchemaMeaning}
use Rattle.cedar_names.specs.Orders.{names_in_order}
use Rattle.cedar_names.specs.declared.extension_table.ExtensionTable.{ExtensionTable}
use Rattle.cedar_names.proofs.Defined.{name_itself}
use Rattle.schema_json.specs.declared.entity_type.EntityType.{EntityType}
use Rattle.schema_json.specs.declared.action_type.ActionType.{ActionType}
use Rattle.schema_json.specs.declared.fragment.Fragment.{Fragment}
use Rattle.schema_json.specs.AsWritten.{as_written}
use Rattle.laws_translate.proofs.MeantSayable.{equal_names}
use Rattle.schema_resolve_definitions.specs.Declarations.{declared, declared_name, action_type, commons_in}
use Rattle.schema_resolve_definitions.specs.Declarations.{entities_in}
use Rattle.schema_resolve_definitions.specs.Declarations.{actions_in}
use Rattle.schema_resolve_definitions.specs.Defined.{defined, builtins, is_hidden, names_of_builtin, names_of_builtins}
use Rattle.schema_resolve_definitions.specs.Tests.{Tests, tests_of}
use Rattle.schema_build_expand.specs.Scope.{IsUndeclared}
use Rattle.schema_build_scope.specs.Commons.{full_common_entry, declared_commons}
use Rattle.schema_build_scope.specs.FragmentScope.{fragment_scope, declaration}
use Rattle.schema_build_hierarchy.specs.Declarations.{entity_in, entity_name, entities_of, declared_entities}
use Rattle.schema_build_hierarchy.specs.Declarations.{action_in}
use Rattle.schema_build_hierarchy.specs.Declarations.{action_key, actions_of, declared_actions}
use Rattle.schema_build_hierarchy.proofs.ParentsDeclared.{name_at, same_actions}
use Rattle.schema_build.specs.Meaning.{key_of}
use Rattle.laws_build.specs.Said.DeclaredEntries.{DeclaresJust}
use Rattle.laws_build.proofs.Said.Blocks.{Block}
use Rattle.laws_build.proofs.Said.Members.{IsIn, in_from, in_to, in_append, left_to, right_to, in_map, map_to}
use Rattle.laws_build.proofs.Said.Members.{in_flat, flat_to, flat_nothing}

-- the key of an action
abbrev pub Key : Type 0
Key = List (List ℕ) × List ℕ

pub among_from : (names : List (List (List ℕ))) (n : List (List ℕ)) → IsIn n names → among names n ≡ true
among_from [] n h = absurd h
among_from (x ∷ xs) n (inl e) =
    or_left (same_name n x) (among xs n) (ap (same_name n) (sym e) ∙ name_itself n)
among_from (x ∷ xs) n (inr h) = or_right (same_name n x) (among xs n) (among_from xs n h)

pub among_to : (names : List (List (List ℕ))) (n : List (List ℕ)) → among names n ≡ true → IsIn n names
among_to [] n h = absurd (true≢false (sym h))
among_to (x ∷ xs) n h = by (or_cases (same_name n x) (among xs n) h) (among_to xs n)
  where
    by : (same_name n x ≡ true) ⊎ (among xs n ≡ true) → (among xs n ≡ true → IsIn n xs) → (n ≡ x) ⊎ IsIn n xs
    by (inl k) r = inl (equal_names n x k)
    by (inr k) r = inr (r k)

same_itself : (a : Key) → same_action a a ≡ true
same_itself a = and_from (same_name a.0 a.0) (bytes_eq (encode_utf8_all a.1) (encode_utf8_all a.1)) (name_itself a.0)
    ((bytes_eq-Decides (encode_utf8_all a.1) (encode_utf8_all a.1)).1 refl)

actions_from : (actions : List Key) (a : Key) → IsIn a actions → among_actions actions a ≡ true
actions_from [] a h = absurd h
actions_from (x ∷ xs) a (inl e) =
    or_left (same_action a x) (among_actions xs a) (ap (same_action a) (sym e) ∙ same_itself a)
actions_from (x ∷ xs) a (inr h) = or_right (same_action a x) (among_actions xs a) (actions_from xs a h)

actions_to : (actions : List Key) (a : Key) → among_actions actions a ≡ true → IsIn a actions
actions_to [] a h = absurd (true≢false (sym h))
actions_to (x ∷ xs) a h = by (or_cases (same_action a x) (among_actions xs a) h) (actions_to xs a)
  where
    by : (same_action a x ≡ true) ⊎ (among_actions xs a ≡ true) → (among_actions xs a ≡ true → IsIn a xs)
        → (a ≡ x) ⊎ IsIn a xs
    by (inl k) r = inl (same_actions a x k)
    by (inr k) r = inr (r k)

-- what is given of a list is seen of what is given
pub flat_mapped : {A B C : Type 0} (f : A → List C) (h : B → C) (k : A → List B) → ((x : A) → f x ≡ map h (k x))
    → (xs : List A) → flat_map f xs ≡ map h (flat_map k xs)
flat_mapped f h k same [] = refl
flat_mapped f h k same (x ∷ xs) =
    let first = same x in
    let others = flat_mapped f h k same xs in
    (λ i. first i ++ others i) ∙ sym (map-append h (k x) (flat_map k xs))

pub names_at : (ns : Option Name) (es : List (UnreservedId × EntityType RawName))
    → map (λ (e : UnreservedId × EntityType RawName). components_of (declared_name ns e.0.id)) es
    ≡ map entity_name (map (entity_in ns) es)
names_at ns [] = refl
names_at ns (e ∷ es) = let first = name_at ns e in let others = names_at ns es in λ i. first i ∷ others i

keys_at : (ns : Option Name) (es : List (List ℕ × ActionType RawName as_written))
    → map (λ (e : List ℕ × ActionType RawName as_written). let k : Key = (components_of (action_type ns), e.0) in k) es
    ≡ map action_key (map (action_in ns) es)
keys_at ns [] = refl
keys_at ns (e ∷ es) =
    let others = keys_at ns es in
    ap (λ l. (let k : Key = (components_of (action_type ns), e.0) in k) ∷ l) others

module _ (m : SchemaMeaning) where
  -- the name of an entity type, the type of an action
  abbrev pub IsEntityName : List (List ℕ) → Type 0
  IsEntityName n = (e : EntityMeaning) × IsIn e m.entities × (e.name ≡ n)

  abbrev pub IsActionType : List (List ℕ) → Type 0
  IsActionType n = (a : ActionMeaning) × IsIn a m.actions × (a.ty ≡ n)

  abbrev pub IsActionKey : Key → Type 0
  IsActionKey k = (a : ActionMeaning) × IsIn a m.actions × (key_of a ≡ k)

module _ (m : SchemaMeaning) (g : Fragment RawName as_written) (just : DeclaresJust m g) where
  entities_are : (declared g).entities ≡ map entity_name (declared_entities g)
  entities_are = flat_mapped (λ (e : Block). entities_in e.0 e.1) entity_name entities_of
      (λ e. names_at e.0 e.1.entity_types) g.0

  actions_are : (declared g).actions ≡ map action_key (declared_actions g)
  actions_are = flat_mapped (λ (e : Block). actions_in e.0 e.1) action_key actions_of
      (λ e. keys_at e.0 e.1.actions) g.0

  commons_are : (declared g).commons ≡ []
  commons_are = flat_nothing (λ (e : Block). commons_in e.0 e.1) g.0
      (λ e h. ap (map (λ x. components_of (declared_name e.0 x.0.id.id))) (just.no_commons e (in_to g.0 e h)))

  pub none_common : declared_commons g ≡ []
  none_common = flat_nothing (λ (e : Block). map (full_common_entry e.0) e.1.common_types) g.0
      (λ e h. ap (map (full_common_entry e.0)) (just.no_commons e (in_to g.0 e h)))

  pub entity_named : (n : List (List ℕ)) → IsIn n (declared g).entities → IsEntityName m n
  entity_named n h =
      let o = in_map entity_name (declared_entities g) n (subst (IsIn n) entities_are h) in
      let of = just.entities o.0 (in_to (declared_entities g) o.0 o.1) in
      (of.entry, in_from m.entities of.entry of.among, sym (o.2 ∙ of.is.name))

  pub entity_there : (e : EntityMeaning) → IsIn e m.entities → IsIn e.name (declared g).entities
  entity_there e h =
      let d = just.each_entity e (in_to m.entities e h) in
      subst (IsIn e.name) (sym entities_are)
      (subst (λ n. IsIn n (map entity_name (declared_entities g))) d.2.name
      (map_to entity_name (declared_entities g) d.0 (in_from (declared_entities g) d.0 d.1)))

  pub action_keyed : (k : Key) → IsIn k (declared g).actions → IsActionKey m k
  action_keyed k h =
      let o = in_map action_key (declared_actions g) k (subst (IsIn k) actions_are h) in
      let of = just.actions o.0 (in_to (declared_actions g) o.0 o.1) in
      (of.entry, in_from m.actions of.entry of.among, sym (o.2 ∙ of.is.key))

  pub action_there : (a : ActionMeaning) → IsIn a m.actions → IsIn (key_of a) (declared g).actions
  action_there a h =
      let d = just.each_action a (in_to m.actions a h) in
      subst (IsIn (key_of a)) (sym actions_are)
      (subst (λ n. IsIn n (map action_key (declared_actions g))) d.2.key
      (map_to action_key (declared_actions g) d.0 (in_from (declared_actions g) d.0 d.1)))

  -- what is declared, as tests
  abbrev pub own : Tests
  own = tests_of (declared g)

  pub own_entity : (n : List (List ℕ)) → own.is_entity n ≡ true → IsEntityName m n
  own_entity n h = entity_named n (among_to (declared g).entities n h)

  pub is_own_entity : (e : EntityMeaning) → IsIn e m.entities → own.is_entity e.name ≡ true
  is_own_entity e h = among_from (declared g).entities e.name (entity_there e h)

  pub own_common : (n : List (List ℕ)) → own.is_common n ≡ false
  own_common n = ap (λ l. among l n) commons_are

  pub own_action : (k : Key) → own.is_action k ≡ true → IsActionKey m k
  own_action k h = action_keyed k (actions_to (declared g).actions k h)

  pub is_own_action : (a : ActionMeaning) → IsIn a m.actions → own.is_action (key_of a) ≡ true
  is_own_action a h = actions_from (declared g).actions (key_of a) (action_there a h)

  module _ (table : ExtensionTable) where
    abbrev t : Tests
    t = tests_of (defined g table)

    abbrev types : List (List (List ℕ))
    types = map (λ (k : Key). k.0) (declared g).actions

    pub entity_cases : (n : List (List ℕ)) → t.is_entity n ≡ true → IsEntityName m n ⊎ IsActionType m n
    entity_cases n h = by (in_append (declared g).entities types n (among_to ((declared g).entities ++ types) n h))
      where
        by : IsIn n (declared g).entities ⊎ IsIn n types → IsEntityName m n ⊎ IsActionType m n
        by (inl k) = inl (entity_named n k)
        by (inr k) =
            let o = in_map (λ (x : Key). x.0) (declared g).actions n k in
            let a = action_keyed o.0 o.1 in
            inr (a.0, a.1, ap (λ (x : Key). x.0) a.2 ∙ sym o.2)

    pub is_entity_named : (n : List (List ℕ)) → IsEntityName m n ⊎ IsActionType m n → t.is_entity n ≡ true
    is_entity_named n (inl (e, h, same)) = among_from ((declared g).entities ++ types) n
        (left_to (declared g).entities types n (subst (λ x. IsIn x (declared g).entities) same (entity_there e h)))
    is_entity_named n (inr (a, h, same)) = among_from ((declared g).entities ++ types) n
        (right_to (declared g).entities types n
        (subst (λ x. IsIn x types) same (map_to (λ (x : Key). x.0) (declared g).actions (key_of a) (action_there a h))))

    -- a builtin name behind `__cedar`, or alone where nothing hides it
    abbrev pub IsBuiltinName : List (List ℕ) → Type 0
    IsBuiltinName n = (w : List ℕ) × IsIn w (builtins table)
        × ((n ≡ codes "__cedar" ∷ w ∷ []) ⊎ ((n ≡ w ∷ []) × (is_hidden own w ≡ false)))

    builtin_cases : (w : List ℕ) (n : List (List ℕ)) → IsIn n (names_of_builtin own w)
        → (n ≡ codes "__cedar" ∷ w ∷ []) ⊎ ((n ≡ w ∷ []) × (is_hidden own w ≡ false))
    builtin_cases w n (inl e) = inl e
    builtin_cases w n (inr h) = by (is_hidden own w) refl h
      where
        by : (b : Bool) → is_hidden own w ≡ b → IsIn n (if b then [] else (w ∷ []) ∷ [])
            → (n ≡ codes "__cedar" ∷ w ∷ []) ⊎ ((n ≡ w ∷ []) × (is_hidden own w ≡ false))
        by true e k = absurd k
        by false e (inl k) = inr (k, e)
        by false e (inr k) = absurd k

    pub common_cases : (n : List (List ℕ)) → t.is_common n ≡ true → IsBuiltinName n
    common_cases n h =
        let names = names_of_builtins own (builtins table) in
        let there : IsIn n names = among_to names n (sym (ap (λ l. among (l ++ names) n) commons_are) ∙ h) in
        let o = in_flat (names_of_builtin own) (builtins table) n there in
        (o.0, o.1, builtin_cases o.0 n o.2)

    pub is_builtin_named : (w : List ℕ) → IsIn w (builtins table) → t.is_common (codes "__cedar" ∷ w ∷ []) ≡ true
    is_builtin_named w h =
        let n : List (List ℕ) = codes "__cedar" ∷ w ∷ [] in
        let names = names_of_builtins own (builtins table) in
        among_from ((declared g).commons ++ names) n
        (right_to (declared g).commons names n (flat_to (names_of_builtin own) (builtins table) w n h (inl refl)))

    -- no common type is declared
    pub scope_without : (fragment_scope g table).commons ≡ []
    scope_without = ap (λ l. map declaration (map_of names_in_order l)) none_common

    pub none_declared : (name : List (List ℕ)) → IsUndeclared (fragment_scope g table) name
    none_declared name d (k, at, same) = by (ap (λ l. slice_get l k) (sym scope_without) ∙ at)
      where
        by : None ≡ Some d → ⊥
        by e = true≢false (sym (ap is_some e))
