-- The entity types that names mean, in order.
use Rattle.std.proofs.Common.{◌≡◌, ℕ, List, map, All, Contains, Option, Some, None}
use Rattle.std.proofs.Common.{refl, sym, ap, ◌∙◌, subst}
use Rattle.std.specs.List.Sorted.{IsStrictlySortedBy}
use Rattle.std.specs.Option.{option_map}
use Rattle.std.proofs.lemmas.List.Elements.{All-contains}
use Rattle.std.proofs.lemmas.Option.{same_Some}
use Rattle.cedar_data.proofs.Lists.{contains_map, contains_unmap}
use Rattle.cedar_data.proofs.Orders.{rises_seen}
use Rattle.cedar_identifiers.specs.Names.{components_of}
use Rattle.cedar_identifiers.specs.declared.internal_name.InternalName.{InternalName}
use Rattle.cedar_identifiers.specs.declared.name.Name.{Name}
use Rattle.cedar_identifiers.specs.declared.raw_name.RawName.{RawName}
use Rattle.cedar_identifiers.specs.declared.reference_type.ReferenceType.{ReferenceType}
use Rattle.cedar_identifiers.specs.declared.reference_type.ReferenceType.TheVariants.{Common, Entity}
use Rattle.cedar_names.specs.Orders.{names_in_order}
use Rattle.schema_resolve_definitions.specs.Tests.{Tests}
use Rattle.schema_resolve_targets.specs.Qualified.{in_namespace}
use Rattle.schema_resolve_targets.specs.Targets.{target}
use Rattle.schema_build_expand.specs.Scope.{Scope}
use Rattle.schema_build_expand.specs.Targets.{IsMeantTarget}
use Rattle.schema_build_expand.specs.declared.meanings.Target.{Target}
use Rattle.schema_build_expand.specs.declared.meanings.Target.TheVariants as meant
use Rattle.schema_build_checks.proofs.Names.{names_by_components, names_exact}
use Rattle.schema_build_scope.specs.FragmentScope.{by_components, meant_in}
use Rattle.schema_build_hierarchy.specs.FirstUses.{HasAlike}
use Rattle.schema_build_hierarchy.specs.Parents.{target_in}
use Rattle.schema_build_items.specs.ActionKinds.{AreJust, IsMeantByOne, as_components, components_cmp}

-- a reference to an entity type means no common type
pub entity_only : (o : Option InternalName) (full : List (List ℕ)) (kind : ReferenceType)
    → option_map by_components (option_map (λ n. let m : InternalName × ReferenceType = (n, Entity) in m) o)
    ≡ Some (full, kind)
    → (Entity ≡ kind) × (Some full ≡ option_map components_of o)
entity_only None full kind e = cc
entity_only (Some n) full kind e =
    let p : (let m : List (List ℕ) × ReferenceType = (components_of n, Entity) in m) ≡ (full, kind) = cc in
    (ap (λ m. m.1) p, ap (λ m. Some m.0) (sym p))

pub all_just : (t : Tests) (ns : Option Name) (names : List RawName) (found once : List Name)
    → map (λ n. Some (components_of n.name)) found ≡ map (target_in t ns Entity) names
    → IsStrictlySortedBy (λ a b. names_in_order a.name b.name) once → All (Contains found) once
    → All (HasAlike (λ a b. names_in_order a.name b.name) once) found
    → AreJust components_cmp (IsMeantByOne t ns names) (as_components once)
all_just t ns names found once are up kept whole = record {
  rising = rises_seen (λ (n : Name). components_of n.name) (λ a b. names_in_order a.name b.name) components_cmp
      (λ a b. names_by_components a.name b.name) once up;
  just = λ a. (
    (λ c.
        let (n, cn, is) = contains_unmap (λ (n : Name). components_of n.name) once a c in
        let there : Contains found n = All-contains (Contains found) once n kept cn in
        let seen = subst (λ l. Contains l (Some (components_of n.name))) are
        (contains_map (λ (n : Name). Some (components_of n.name)) found n there) in
        let (name, among, to) = contains_unmap (target_in t ns Entity) names (Some (components_of n.name)) seen in
        (name, among, to ∙ ap Some is)),
    (λ h.
        let (name, among, to) = h in
        let seen = subst (λ l. Contains l (target_in t ns Entity name)) (sym are)
        (contains_map (target_in t ns Entity) names name among) in
        let (n, there, is) = contains_unmap (λ (n : Name). Some (components_of n.name)) found
        (target_in t ns Entity name) seen in
        let (x, cx, tied) = All-contains (HasAlike (λ a b. names_in_order a.name b.name) once) found n whole there in
        let same : components_of x.name ≡ a = names_exact x.name n.name tied
        ∙ same_Some (components_of n.name) a (is ∙ to) in
        subst (Contains (as_components once)) same (contains_map (λ (n : Name). components_of n.name) once x cx)),
  );
}

-- a target of a reference to an entity type is an entity type
pub entity_target : (t : Tests) (s : Scope RawName) (ns : Option InternalName) (name : RawName) (found : Target)
    → s.means ns Entity name ≡ meant_in t ns Entity name → IsMeantTarget s ns Entity name found
    → ((e : Name) → found ≡ meant.Entity e → ⊥) → ⊥
entity_target t s ns name (meant.Entity e) same h other = other e refl
entity_target t s ns name (meant.Common k) same (full, is, ranked) other =
    let kinds : Entity ≡ Common = (entity_only (target t (in_namespace ns Entity name)) full Common
    (sym same ∙ is)).0 in
    cc
entity_target t s ns name (meant.Builtin b) same (full, p, is, undeclared, known, made) other =
    let kinds : Entity ≡ Common = (entity_only (target t (in_namespace ns Entity name)) full Common
    (sym same ∙ is)).0 in
    cc
