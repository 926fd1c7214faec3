-- What a reference stands for, from what it means.
use Rattle.std.proofs.Common.{◌≡◌, ℕ, Bool, true, false, ◌||◌, List, Option, Some, None, refl, sym}
use Rattle.std.proofs.Common.{ap, ◌∙◌, subst}
use Rattle.std.specs.Prelude.{if◌then◌else◌}
use Rattle.std.specs.Option.{option_map}
use Rattle.std.proofs.lemmas.Option.{same_Some}
use Rattle.cedar_data.proofs.Options.{seen_of}
use Rattle.cedar_data.proofs.Lists.{found_passes}
use Rattle.cedar_identifiers.specs.Names.{components_of}
use Rattle.cedar_identifiers.specs.declared.internal_name.InternalName.{InternalName}
use Rattle.cedar_identifiers.specs.declared.name_text.NameText as named
use Rattle.cedar_identifiers.specs.declared.raw_name.RawName.{RawName}
use Rattle.cedar_identifiers.specs.declared.reference_type.ReferenceType.{ReferenceType}
use Rattle.cedar_identifiers.specs.declared.reference_type.ReferenceType.TheVariants.{Common, Entity, CommonOrEntity}
use Rattle.cedar_names.specs.declared.extension_table.ExtensionTable.{ExtensionTable}
use Rattle.schema_json.specs.declared.fragment.Fragment.{Fragment}
use Rattle.schema_resolve_definitions.specs.Defined.{defined}
use Rattle.schema_resolve_definitions.specs.Tests.{Tests, tests_of}
use Rattle.schema_resolve_targets.specs.Meanings.{means, kind_there}
use Rattle.schema_resolve_targets.specs.Qualified.{in_namespace}
use Rattle.schema_resolve_targets.specs.Targets.{is_defined, target}
use Rattle.schema_resolve_targets.specs.Tried.{candidate}
use Rattle.schema_build_expand.specs.Scope.{IsRanked}
use Rattle.schema_build_expand.specs.Ranks.{IsRankOf}
use Rattle.schema_build_expand.specs.Targets.{IsMeantTarget}
use Rattle.schema_build_expand.specs.declared.meanings.Target.{Target}
use Rattle.schema_build_expand.specs.declared.meanings.Target.TheVariants as told
use Rattle.schema_build_scope.specs.FragmentScope.{by_components, fragment_scope}
use Rattle.schema_build_scope.specs.Meant.{kind_if, meant_candidate}
use Rattle.schema_build_scope.specs.declared.meant.Meant.{Meant}
use Rattle.schema_build_scope.specs.NamedTargets.{IsRankOfName, IsCommonTarget}
use Rattle.schema_build_scope.proofs.Found.{fragment_apart}

kind_common : (t : Tests) (kind : ReferenceType) (n : InternalName) → is_defined t kind (components_of n) ≡ true
    → kind_there t kind n ≡ Common → t.is_common (components_of n) ≡ true
kind_common t Common n h k = h
kind_common t Entity n h k = cc
kind_common t CommonOrEntity n h k = go (t.is_common (components_of n)) k
  where
    go : (c : Bool) → (if c then Common else Entity) ≡ Common → c ≡ true
    go true e = refl
    go false e = cc

pub kind_entity : (t : Tests) (kind : ReferenceType) (n : InternalName) → is_defined t kind (components_of n) ≡ true
    → kind_there t kind n ≡ Entity → t.is_entity (components_of n) ≡ true
kind_entity t Common n h k = cc
kind_entity t Entity n h k = h
kind_entity t CommonOrEntity n h k = go (t.is_common (components_of n)) (t.is_entity (components_of n)) h k
  where
    go : (c d : Bool) → (c || d) ≡ true → (if c then Common else Entity) ≡ Entity → d ≡ true
    go true d h e = cc
    go false d h e = h

module _ (t : Tests) (ns : Option InternalName) (kind : ReferenceType) (name : RawName) (n : InternalName) where
  defined_kind : (k : ReferenceType) → means t ns kind name ≡ Some (n, k)
      → (is_defined t kind (components_of n) ≡ true) × (kind_there t kind n ≡ k)
  defined_kind k e =
      let c = in_namespace ns kind name in
      let m = seen_of (λ (x : InternalName). let y : InternalName × ReferenceType = (x, kind_there t kind x) in y)
      (target t c) (n, k) e in
      let same : m.0 ≡ n = ap (λ (y : InternalName × ReferenceType). y.0) m.2 in
      let passes : is_defined t kind (components_of m.0) ≡ true =
      found_passes (λ p. is_defined t kind (components_of p)) c.possibilities m.0 m.1 in (
        subst (λ x. is_defined t kind (components_of x) ≡ true) same passes,
        ap (kind_there t kind) (sym same) ∙ ap (λ (y : InternalName × ReferenceType). y.1) m.2,
      )

  -- what is meant as a common type, or as an entity type, is defined as one
  pub meant_common : means t ns kind name ≡ Some (n, Common) → t.is_common (components_of n) ≡ true
  meant_common e = let d = defined_kind Common e in kind_common t kind n d.0 d.1

  pub meant_entity : means t ns kind name ≡ Some (n, Entity) → t.is_entity (components_of n) ≡ true
  meant_entity e = let d = defined_kind Entity e in kind_entity t kind n d.0 d.1

module _ {G : named.Ghosts RawName} (f : Fragment RawName G) (table : ExtensionTable) (ns : Option InternalName)
    (kind : ReferenceType) (name : RawName) where
  abbrev Means : Option (InternalName × ReferenceType) → Type 0
  Means m = means (tests_of (defined f table)) ns kind name ≡ m

  by_names : (m : Option (InternalName × ReferenceType)) → Means m
      → (fragment_scope f table).means ns kind name ≡ option_map by_components m
  by_names m e = ap (option_map by_components) e

  pub common_meant : (n : InternalName) → Means (Some (n, Common)) → (r : Target)
      → IsCommonTarget (fragment_scope f table) (components_of n) r
      → IsMeantTarget (fragment_scope f table) ns kind name r
  common_meant n e (told.Entity m) h = absurd h
  common_meant n e (told.Common k) h = (components_of n, by_names (Some (n, Common)) e, h)
  common_meant n e (told.Builtin ty) (none, (p, is, built)) =
      (components_of n, p, by_names (Some (n, Common)) e, none, is, built)

  same_full : (n : InternalName) → Means (Some (n, Common)) → (full : List (List ℕ)) (k : ReferenceType)
      → (fragment_scope f table).means ns kind name ≡ Some (full, k) → components_of n ≡ full
  same_full n e full k m =
      let a : List (List ℕ) × ReferenceType = (components_of n, Common) in
      let b : List (List ℕ) × ReferenceType = (full, k) in
      ap (λ (z : List (List ℕ) × ReferenceType). z.0) (same_Some a b (sym (by_names (Some (n, Common)) e) ∙ m))

  pub rank_common : (n : InternalName) → Means (Some (n, Common)) → (r : Option ℕ)
      → IsRankOfName (fragment_scope f table) (components_of n) r → IsRankOf (fragment_scope f table) ns kind name r
  rank_common n e None none =
      λ k (full, m, ranked). none ranked.0 (k, ranked.1, ranked.2 ∙ sym (same_full n e full Common m))
  rank_common n e (Some k) ranked = (
    (components_of n, by_names (Some (n, Common)) e, ranked),
    λ j (full, m, other). fragment_apart f table (components_of n) j k
        (subst (λ x. IsRanked (fragment_scope f table) x j) (sym (same_full n e full Common m)) other) ranked,
  )

-- what is found of a reference says what it means
pub means_found : (u t : Tests) → u ≡ t → (here ns : Option InternalName) → here ≡ ns → (kind : ReferenceType)
    (name : RawName) (r : Option Meant) (m : Meant) (b : Bool) (full : InternalName)
    → option_map (meant_candidate here name.name) r ≡ means u here kind name → r ≡ Some m → m.is_common ≡ b
    → full ≡ candidate ns name.name m.is_own → means t ns kind name ≡ Some (full, kind_if b)
means_found u t et here ns en kind name r m b full told is eb ef =
    (λ i. means (sym et i) (sym en i) kind name)
    ∙ sym told
    ∙ ap (option_map (meant_candidate here name.name)) is
    ∙ (λ i. let x : InternalName × ReferenceType = (candidate (en i) name.name m.is_own, kind_if (eb i)) in Some x)
    ∙ ap (λ (n : InternalName). let x : InternalName × ReferenceType = (n, kind_if b) in Some x) (sym ef)
