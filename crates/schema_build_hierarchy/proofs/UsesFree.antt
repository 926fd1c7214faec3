-- Entity types that are defined and not declared are the types of actions, which have no component `__cedar`.
use Rattle.std.proofs.Common.{◌≡◌, ℕ, ◌<◌, Bool, true, false, cond, not, ◌||◌, List, [], ◌∷◌, map, length, Option}
use Rattle.std.proofs.Common.{Some, None, refl, sym, ap, ◌∙◌, subst, inl, inr, All, Contains, arith}
use Rattle.std.specs.Prelude.{◌⊎◌, filter}
use Rattle.std.specs.List.{flat_map, list_any}
use Rattle.std.specs.Option.{option_to_list}
use Rattle.std.specs.declared.cmp.Ordering.{Ordering}
use Rattle.std.proofs.lemmas.Bool.{cases_Bool}
use Rattle.std.proofs.lemmas.List.Elements.{All-nil, All-cons, All-append, All-map, All-contains}
use Rattle.std.proofs.lemmas.List.Folds.{list_any-append, Any-from_list_any}
use Rattle.cedar_data.proofs.Lists.{found_passes}
use Rattle.cedar_identifiers.specs.Names.{components_of, has_cedar}
use Rattle.cedar_identifiers.specs.declared.internal_name.InternalName.{InternalName}
use Rattle.cedar_identifiers.specs.declared.name.Name.{Name}
use Rattle.cedar_identifiers.specs.declared.name_text.NameText as named
use Rattle.cedar_identifiers.specs.declared.raw_name.RawName.{RawName}
use Rattle.cedar_identifiers.specs.declared.reference_type.ReferenceType.TheVariants.{Entity}
use Rattle.cedar_names.specs.Definitions.{among, same_name}
use Rattle.cedar_names.specs.declared.extension_table.ExtensionTable.{ExtensionTable}
use Rattle.cedar_names.proofs.Defined.{equal_names}
use Rattle.schema_json.specs.Actions.{action_name}
use Rattle.schema_json.specs.declared.fragment.Fragment.{Fragment}
use Rattle.schema_json_walk.specs.Parts.{Part, type_reference, context_reference, parent, principal, resource}
use Rattle.schema_json_walk.specs.Parts.{action_parent, extension_type, open_record, action_attributes}
use Rattle.schema_json_walk.specs.Parts.{external_not_bare}
use Rattle.schema_json_walk.specs.Walk.{fragment_parts}
use Rattle.schema_json_walk.proofs.ByParts.{fragment_by_parts}
use Rattle.schema_resolve_definitions.specs.Declarations.{name_of, declared, action_type, actions_in}
use Rattle.schema_resolve_definitions.specs.Defined.{defined}
use Rattle.schema_resolve_definitions.specs.Tests.{Tests, tests_of}
use Rattle.schema_resolve_targets.specs.Qualified.{in_namespace}
use Rattle.schema_resolve_targets.specs.Targets.{target}
use Rattle.schema_build_hierarchy.specs.FirstUses.{IsFirstUse, AreFirstUses}
use Rattle.schema_build_hierarchy.specs.Rows.{undeclared_part, undeclared_uses}
use Rattle.schema_build_hierarchy.proofs.ParentRanks.{filter_kept}
use Rattle.schema_build_hierarchy.proofs.Unreserved.{unreserved_qualified}

abbrev pub Free : InternalName → Type 0
Free n = has_cedar (components_of n) ≡ false

pub all_flat : {A B : Type 0} (f : A → List B) (P : B → Type 0) → ((a : A) → All P (f a)) → (xs : List A)
    → All P (flat_map f xs)
all_flat f P each [] = All-nil P
all_flat f P each (x ∷ xs) = All-append P (f x) (flat_map f xs) (each x) (all_flat f P each xs)

pub or_second : (a b : Bool) → (a || b) ≡ true → a ≡ false → b ≡ true
or_second true b h k = absurd (cc)
or_second false b h k = h

module _ {G : named.Ghosts RawName} (f : Fragment RawName G) (table : ExtensionTable) where
  types_free : All (λ n. has_cedar n ≡ false) (map (λ a. a.0) (declared f).actions)
  types_free = All-map (λ n. has_cedar n ≡ false) (λ a. a.0) (declared f).actions
      (all_flat (λ e. actions_in e.0 e.1) (λ a. has_cedar a.0 ≡ false)
      (λ e. All-map (λ a. has_cedar a.0 ≡ false) (λ d. (components_of (action_type e.0), d.0)) e.1.actions
      (λ k d h. unreserved_qualified e.0 action_name refl)) f.0)

  defined_free : (n : List (List ℕ)) → (tests_of (defined f table)).is_entity n ≡ true
      → (tests_of (declared f)).is_entity n ≡ false → has_cedar n ≡ false
  defined_free n there own =
      let split = list_any-append (same_name n) (declared f).entities (map (λ a. a.0) (declared f).actions) in
      let late : list_any (same_name n) (map (λ a. a.0) (declared f).actions)
      ≡ true = or_second (among (declared f).entities n) (among (map (λ a. a.0) (declared f).actions) n)
      (sym split ∙ there) own in
      let found = Any-from_list_any (same_name n) (map (λ a. a.0) (declared f).actions) late in
      let same : n ≡ found.1 = equal_names n found.1 found.4 in
      ap has_cedar same ∙ All-contains (λ n. has_cedar n ≡ false) (map (λ a. a.0) (declared f).actions) found.1
      types_free (found.0, found.2, found.3)

  module _ (t : Tests) (is : t ≡ tests_of (defined f table)) where
    one_free : (ns : Option Name) (name : RawName) (o : Option InternalName)
        → target t (in_namespace (name_of ns) Entity name) ≡ o
        → All Free (filter (λ n. not ((tests_of (declared f)).is_entity (components_of n))) (option_to_list o))
    one_free ns name None e = All-nil Free
    one_free ns name (Some n) e = go (cases_Bool ((tests_of (declared f)).is_entity (components_of n)))
      where
        there : (tests_of (defined f table)).is_entity (components_of n) ≡ true
        there = ap (λ s. s.is_entity (components_of n)) (sym is)
            ∙ found_passes (λ p. t.is_entity (components_of p)) _ n e

        go : ((tests_of (declared f)).is_entity (components_of n) ≡ true) ⊎
            ((tests_of (declared f)).is_entity (components_of n) ≡ false)
            → All Free (cond (not ((tests_of (declared f)).is_entity (components_of n))) (n ∷ []) [])
        go (inl hit) = subst (λ b. All Free (cond (not b) (n ∷ []) [])) (sym hit) (All-nil Free)
        go (inr miss) = subst (λ b. All Free (cond (not b) (n ∷ []) [])) (sym miss)
            (All-cons Free n [] (defined_free (components_of n) there miss) (All-nil Free))

    part_free : (ns : Option Name) (part : Part RawName) → All Free (undeclared_part t (tests_of (declared f)) ns part)
    part_free ns (parent name) = one_free ns name _ refl
    part_free ns (principal name) = one_free ns name _ refl
    part_free ns (resource name) = one_free ns name _ refl
    part_free ns (type_reference kind name) = All-nil Free
    part_free ns (context_reference name) = All-nil Free
    part_free ns (action_parent id ty) = All-nil Free
    part_free ns (extension_type name) = All-nil Free
    part_free ns open_record = All-nil Free
    part_free ns (action_attributes names) = All-nil Free
    part_free ns external_not_bare = All-nil Free

    pub uses_free : All Free (undeclared_uses t f)
    uses_free = subst (All Free) (sym (fragment_by_parts (undeclared_part t (tests_of (declared f))) f))
        (all_flat (λ e. undeclared_part t (tests_of (declared f)) e.0 e.1) Free (λ e. part_free e.0 e.1)
        (fragment_parts f))

pub first_contained : {A : Type 0} (R : A → A → Ordering) (uses : List A) (x : A) → IsFirstUse R uses x
    → Contains uses x
first_contained R uses x h = filter_kept _ uses x (subst (λ l. Contains l x) (sym h.1) (0, omega arith, refl))

-- where nothing is used, nothing is used first
pub no_firsts : {A B : Type 0} (R : A → A → Ordering) (uses : List A) (f : B → A) (xs : List B) → AreFirstUses R uses []
    → AreFirstUses R uses (map f xs) → 0 < length xs → ⊥
no_firsts R uses f [] none some h = omega arith
no_firsts R uses f (x ∷ xs) none some h =
    let there : Contains uses (f x) = first_contained R uses (f x) (some.first 0 (f x) (omega arith)) in
    let alike = none.whole (f x) there in
    omega (arith, alike.1.1)

-- where there are no first uses, there are none
pub none_used : {A : Type 0} (R : A → A → Ordering) (uses : List A) → AreFirstUses R uses [] → (u : A)
    → Contains uses u → ⊥
none_used R uses none u c = let alike = none.whole u c in omega (arith, alike.1.1)
