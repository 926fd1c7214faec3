-- The ancestors of the entity types that a generated text declares.
use Rattle.std.proofs.Common.{◌≡◌, inl, inr, ℕ, zero, suc, ◌<◌, ◌≤◌, ◌^◌, ◌==◌, Bool, true, false, cond}
use Rattle.std.proofs.Common.{List, []}
use Rattle.std.proofs.Common.{◌∷◌, ◌++◌, map, filter, Some, None, Contains, refl, sym, ap, ◌∙◌, subst, arith}
use Rattle.std.proofs.Common.{if◌then◌else◌}
use Rattle.std.specs.List.{AllByRecursion}
use Rattle.std.specs.List.Sorted.{IsStrictlySortedBy}
use Rattle.std.specs.Option.{option_map, option_to_list}
use Rattle.std.proofs.lemmas.Bool.Decides.{nat_tests}
use Rattle.std.proofs.lemmas.List.Kept.{IsStrictlySortedBy-filter}
use Rattle.schema_generate.specs.Generated.{max_size, entity_word, parent_of}
use Rattle.cedar_identifiers.specs.Names.{components_of}
use Rattle.cedar_identifiers.specs.declared.raw_name.RawName.{RawName}
use Rattle.cedar_identifiers.specs.declared.reference_type.ReferenceType.TheVariants.{Entity}
use Rattle.cedar_names.specs.Definitions.{among}
use Rattle.cedar_names.specs.declared.extension_table.ExtensionTable.{ExtensionTable}
use Rattle.schema_json.specs.declared.entity_type.EntityTypeKind.{EntityTypeKind}
use Rattle.schema_json.specs.declared.entity_type.EntityTypeKind.TheVariants.{Standard, Enum}
use Rattle.schema_json.specs.declared.fragment.Fragment.{Fragment}
use Rattle.schema_json.specs.AsWritten.{as_written}
use Rattle.laws_translate.specs.DeclarationsSay.{written_paths, KindSays}
use Rattle.laws_translate.specs.FragmentsSay.{FragmentSays}
use Rattle.schema_resolve_definitions.specs.Tests.{Tests}
use Rattle.schema_build_graph.specs.Paths.{Leads, Reaches}
use Rattle.schema_build_hierarchy.specs.Declarations.{DeclaredEntity, entity_name, declared_entities}
use Rattle.schema_build_hierarchy.specs.Parents.{target_in, written_parents, parents_in, entity_parents, IsParent}
use Rattle.schema_build_hierarchy.specs.Parents.{IsAncestor}
use Rattle.schema_build_items.specs.ActionKinds.{components_cmp, AreJust}
use Rattle.laws_build.proofs.Said.Members.{IsIn, in_from, in_to, map_to, in_filter, filter_to}
use Rattle.laws_build.proofs.Said.Defining.{among_from, among_to}
use Rattle.laws_build.specs.Generated.Declares.{entity_path, parents_of, entity_of_number, generated_items}
use Rattle.laws_build.specs.Generated.Said.{IsEntityOf}
use Rattle.laws_build.proofs.Generated.Declared.{entity_at, entity_there}
use Rattle.laws_build.proofs.Generated.Defined.{IsDeclaredName, t, entity_defined}
use Rattle.laws_build.proofs.Generated.Given.{parents_declared}
use Rattle.laws_build.proofs.Generated.Sayable.{entities_apart}

-- the parent, its parent, and so on, as many as are counted
abbrev above : ℕ → ℕ → List (List (List ℕ))
above zero i = []
above (suc k) i = if i == 0 then [] else entity_path (parent_of i) ∷ above k (parent_of i)

one_word : (x y : List ℕ) → x ∷ [] ≡ y ∷ [] → x ≡ y
one_word x y e = cc

same_number : (i j : ℕ) → i < 2 ^ 64 → j < 2 ^ 64 → entity_path i ≡ entity_path j → i ≡ j
same_number i j h k e = entities_apart i j h k (one_word (entity_word i) (entity_word j) e)

-- a name that means an entity type is found
module _ (n : ℕ) (some : 1 ≤ n) (small : n ≤ max_size) (f : Fragment RawName as_written)
    (says : FragmentSays f (generated_items n)) (table : ExtensionTable) where
  abbrev tests : Tests
  tests = t n some f says table

  pub target_found : (m : RawName) → IsDeclaredName n (components_of m.name)
      → target_in tests None Entity m ≡ Some (components_of m.name)
  target_found m h = ap (λ b. option_map components_of (cond b (Some m.name) None))
      (entity_defined n some f says table (components_of m.name) h)

  -- the parents mean what is written
  found_parents : (names : List RawName) (paths : List (List (List ℕ))) → written_paths names ≡ paths
      → AllByRecursion (IsDeclaredName n) paths → parents_in tests None names ≡ paths
  found_parents [] [] e h = refl
  found_parents [] (p ∷ ps) e h = cc
  found_parents (m ∷ names) [] e h = cc
  found_parents (m ∷ names) (p ∷ ps) e h =
      let here : components_of m.name ≡ p = cc in
      let others : written_paths names ≡ ps = cc in
      let found = target_found m (subst (IsDeclaredName n) (sym here) h.0) ∙ ap Some here in
      let rest = found_parents names ps others h.1 in
      λ i. option_to_list (found i) ++ rest i

  kind_parents : (i : ℕ) (x : Bool) (k : EntityTypeKind RawName) → i < n → KindSays x k (entity_of_number n i).decl
      → parents_in tests None (written_parents k) ≡ parents_of i
  kind_parents i x (Standard d) below h = found_parents d.member_of_types (parents_of i) h.1
      (parents_declared n i below)
  kind_parents i x (Enum ids) below h = absurd h

  parents_are : (d : DeclaredEntity) (of : IsEntityOf n d) → entity_parents tests d ≡ parents_of of.number
  parents_are d of =
      ap (λ s. parents_in tests s (written_parents d.ty.kind)) of.outside
      ∙ kind_parents of.number d.ty.external d.ty.kind of.below of.says.1

  abbrev ds : List DeclaredEntity
  ds = declared_entities f

  low : (i : ℕ) → i < n → i < 2 ^ 64
  low i h = omega arith

  parent_from : (i : ℕ) (b : List (List ℕ)) → i < n → IsParent tests ds (entity_path i) b → IsIn b (parents_of i)
  parent_from i b h (d, among, known, up) =
      let of = entity_at n some f says d (in_from ds d among) in
      let same = same_number of.number i (low of.number of.below) (low i h) (sym of.name ∙ known) in
      in_from (parents_of i) b (subst (λ l. Contains l b) (parents_are d of ∙ ap parents_of same) up)

  parent_to : (i : ℕ) (b : List (List ℕ)) → i < n → IsIn b (parents_of i) → IsParent tests ds (entity_path i) b
  parent_to i b h up =
      let d = entity_there n some f says i h in
      let of = entity_at n some f says d.0 d.1 in
      let same = same_number of.number i (low of.number of.below) (low i h) (sym of.name ∙ d.2) in (
        d.0,
        in_to ds d.0 d.1,
        d.2,
        subst (λ l. Contains l b) (sym (parents_are d.0 of ∙ ap parents_of same)) (in_to (parents_of i) b up),
      )

  half : (i : ℕ) → i < n → parent_of i < n
  half i h = omega arith

  first_parent : (i : ℕ) → i < n → (i == 0) ≡ false → IsParent tests ds (entity_path i) (entity_path (parent_of i))
  first_parent i h e = parent_to i (entity_path (parent_of i)) h
      (subst (λ z. IsIn (entity_path (parent_of i)) (if z then [] else entity_path (parent_of i) ∷ [])) (sym e)
      (inl refl))

  -- what stands above is reached
  sound : (k i : ℕ) (b : List (List ℕ)) → i < n → IsIn b (above k i) → Reaches (IsParent tests ds) (entity_path i) b
  sound zero i b h up = absurd up
  sound (suc k) i b h up = by (i == 0) refl up (λ p. sound k (parent_of i) b (half i h) p)
    where
      by : (z : Bool) → (i == 0) ≡ z
          → IsIn b (if z then [] else entity_path (parent_of i) ∷ above k (parent_of i))
          → (IsIn b (above k (parent_of i)) → Reaches (IsParent tests ds) (entity_path (parent_of i)) b)
          → Reaches (IsParent tests ds) (entity_path i) b
      by true e u r = absurd u
      by false e (inl p) r = (entity_path (parent_of i), [], (first_parent i h e, sym p))
      by false e (inr p) r =
          let more = r p in (entity_path (parent_of i), more.0 ∷ more.1, (first_parent i h e, more.2))

  -- what is reached stands above
  whole : (k i : ℕ) (first b : List (List ℕ)) (rest : List (List (List ℕ))) → i < n → i ≤ k
      → IsParent tests ds (entity_path i) first → Leads (IsParent tests ds) first rest b → IsIn b (above k i)
  whole zero i first b rest h enough up more = none (i == 0) refl (parent_from i first h up)
    where
      none : (z : Bool) → (i == 0) ≡ z → IsIn first (if z then [] else entity_path (parent_of i) ∷ [])
          → IsIn b (above zero i)
      none true e u = absurd u
      none false e u = absurd (grind (arith, nat_tests))
  whole (suc k) i first b [] h enough up more = by (i == 0) (parent_from i first h up)
    where
      by : (z : Bool) → IsIn first (if z then [] else entity_path (parent_of i) ∷ [])
          → IsIn b (if z then [] else entity_path (parent_of i) ∷ above k (parent_of i))
      by true u = absurd u
      by false (inl u) = inl (sym more ∙ u)
      by false (inr u) = absurd u
  whole (suc k) i first b (c ∷ rest) h enough up more =
      by (i == 0) refl (parent_from i first h up)
      (λ less a. whole k (parent_of i) c b rest (half i h) less a more.1)
    where
      by : (z : Bool) → (i == 0) ≡ z → IsIn first (if z then [] else entity_path (parent_of i) ∷ [])
          → (parent_of i ≤ k → IsParent tests ds (entity_path (parent_of i)) c → IsIn b (above k (parent_of i)))
          → IsIn b (if z then [] else entity_path (parent_of i) ∷ above k (parent_of i))
      by true e u r = absurd u
      by false e (inr u) r = absurd u
      by false e (inl u) r =
          let nonzero : 0 < i = grind (arith, nat_tests) in
          inr (r (omega (arith, nonzero)) (subst (λ a. IsParent tests ds a c) u more.0))

  above_named : (k i : ℕ) (b : List (List ℕ)) → i < n → IsIn b (above k i) → IsDeclaredName n b
  above_named zero i b h up = absurd up
  above_named (suc k) i b h up = by (i == 0) up (λ u. above_named k (parent_of i) b (half i h) u)
    where
      by : (z : Bool) → IsIn b (if z then [] else entity_path (parent_of i) ∷ above k (parent_of i))
          → (IsIn b (above k (parent_of i)) → IsDeclaredName n b) → IsDeclaredName n b
      by true u r = absurd u
      by false (inl u) r = (parent_of i, half i h, u)
      by false (inr u) r = r u

  -- the ancestors, in the order of the declarations
  abbrev pub ancestors_of : ℕ → List (List (List ℕ))
  ancestors_of i = filter (among (above i i)) (map entity_name ds)

  pub are_ancestors : (i : ℕ) → i < n → IsStrictlySortedBy components_cmp (map entity_name ds)
      → AreJust components_cmp (IsAncestor tests ds (entity_path i)) (ancestors_of i)
  are_ancestors i h rising = record {
    rising = IsStrictlySortedBy-filter components_cmp (among (above i i)) (map entity_name ds) rising;
    just = λ b. (
      λ c.
          let m = in_filter (among (above i i)) (map entity_name ds) b (in_from (ancestors_of i) b c) in
          sound i i b h (among_to (above i i) b m.1),
      λ r.
          let up = whole i i r.0 b r.1 h (omega arith) r.2.0 r.2.1 in
          let name = above_named i i b h up in
          let d = entity_there n some f says name.0 name.1 in
          let there : IsIn b (map entity_name ds) =
          subst (λ x. IsIn x (map entity_name ds)) (d.2 ∙ sym name.2) (map_to entity_name ds d.0 d.1) in
          in_to (ancestors_of i) b
          (filter_to (among (above i i)) (map entity_name ds) b there (among_from (above i i) b up)),
    );
  }
