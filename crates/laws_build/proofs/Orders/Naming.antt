-- What a name means does not depend on places.
use Rattle.std.proofs.Common.{◌≡◌, ℕ, Bool, true, false, cond, List, [], ◌∷◌, map, Option, Some, None, refl, ap, ◌∙◌}
use Rattle.std.specs.Prelude.{find}
use Rattle.std.specs.Option.{option_map}
use Rattle.cedar_identifiers.specs.Candidates.{behind, is_unqualified, candidates}
use Rattle.cedar_identifiers.specs.Names.{components_of}
use Rattle.cedar_identifiers.specs.declared.internal_name.InternalName.{InternalName}
use Rattle.cedar_identifiers.specs.declared.name.Name.{Name}
use Rattle.cedar_identifiers.specs.declared.raw_name.RawName.{RawName}
use Rattle.cedar_identifiers.specs.declared.reference_type.ReferenceType.{ReferenceType}
use Rattle.schema_json.specs.Actions.{written_type}
use Rattle.schema_resolve_definitions.specs.Declarations.{name_of}
use Rattle.schema_resolve_definitions.specs.Tests.{Tests}
use Rattle.schema_resolve_targets.specs.Meanings.{kind_there}
use Rattle.schema_resolve_targets.specs.Qualified.{in_namespace, type_in_namespace}
use Rattle.schema_resolve_targets.specs.Targets.{is_defined, target, is_action, action_target}
use Rattle.laws_translate.specs.Bare.{bare_internal, bare_name}
use Rattle.schema_build_scope.specs.FragmentScope.{by_components, meant_in}
use Rattle.schema_build_hierarchy.specs.Parents.{target_in, action_target_in}
use Rattle.laws_build.specs.Orders.Alike.{bare_space, bare_place}

pub place_named : (ns : Option Name) → name_of (bare_space ns) ≡ bare_place (name_of ns)
place_named None = refl
place_named (Some n) = refl

module _ (passes : InternalName → Bool) (same : (n : InternalName) → passes (bare_internal n) ≡ passes n) where
  find_seen : (ns : List InternalName)
      → find passes (map bare_internal ns) ≡ option_map bare_internal (find passes ns)
  find_seen [] = refl
  find_seen (n ∷ ns) = (λ i. cond (same n i) (Some (bare_internal n)) (find_seen ns i)) ∙ by_case (passes n)
    where
      by_case : (b : Bool) → cond b (Some (bare_internal n)) (option_map bare_internal (find passes ns))
          ≡ option_map bare_internal (cond b (Some n) (find passes ns))
      by_case true = refl
      by_case false = refl

pub candidates_seen : (ns : Option InternalName) (name : InternalName)
    → candidates (bare_place ns) (bare_internal name) ≡ map bare_internal (candidates ns name)
candidates_seen None name = refl
candidates_seen (Some n) name = by_case (is_unqualified name)
  where
    by_case : (b : Bool)
        → cond b (behind (bare_internal n) (bare_internal name) ∷ bare_internal name ∷ []) (bare_internal name ∷ [])
        ≡ map bare_internal (cond b (behind n name ∷ name ∷ []) (name ∷ []))
    by_case true = refl
    by_case false = refl

pub target_seen : (t : Tests) (ns : Option InternalName) (kind : ReferenceType) (name : RawName)
    → target t (in_namespace (bare_place ns) kind (bare_name name))
    ≡ option_map bare_internal (target t (in_namespace ns kind name))
target_seen t ns kind name =
    let passes : InternalName → Bool = λ p. is_defined t kind (components_of p) in
    ap (find passes) (candidates_seen ns name.name) ∙ find_seen passes (λ n. refl) (candidates ns name.name)

-- what is seen of what is found by its components
components_seen : (o : Option InternalName) → option_map components_of (option_map bare_internal o)
    ≡ option_map components_of o
components_seen None = refl
components_seen (Some n) = refl

pub target_in_seen : (t : Tests) (ns : Option Name) (kind : ReferenceType) (name : RawName)
    → target_in t (bare_space ns) kind (bare_name name) ≡ target_in t ns kind name
target_in_seen t ns kind name =
    ap (λ p. option_map components_of (target t (in_namespace p kind (bare_name name)))) (place_named ns)
    ∙ (ap (option_map components_of) (target_seen t (name_of ns) kind name)
    ∙ components_seen (target t (in_namespace (name_of ns) kind name)))

pub meant_seen : (t : Tests) (ns : Option InternalName) (kind : ReferenceType) (name : RawName)
    → meant_in t (bare_place ns) kind (bare_name name) ≡ meant_in t ns kind name
meant_seen t ns kind name =
    ap (λ o. option_map by_components (option_map kinded o)) (target_seen t ns kind name)
    ∙ by_case (target t (in_namespace ns kind name))
  where
    kinded : InternalName → InternalName × ReferenceType
    kinded n = (n, kind_there t kind n)

    kind_seen : (k : ReferenceType) (n : InternalName) → kind_there t k (bare_internal n) ≡ kind_there t k n
    kind_seen ReferenceType.Common n = refl
    kind_seen ReferenceType.Entity n = refl
    kind_seen ReferenceType.CommonOrEntity n = refl

    by_case : (o : Option InternalName)
        → option_map by_components (option_map kinded (option_map bare_internal o))
        ≡ option_map by_components (option_map kinded o)
    by_case None = refl
    by_case (Some n) = λ i. Some (components_of n, kind_seen kind n i)

pub written_type_seen : (ty : Option RawName) → written_type (option_map bare_name ty) ≡ bare_internal (written_type ty)
written_type_seen None = refl
written_type_seen (Some n) = refl

pub action_seen : (t : Tests) (ns : Option InternalName) (id : List ℕ) (ty : Option RawName)
    → action_target t id (Some (type_in_namespace (bare_place ns) id (option_map bare_name ty)))
    ≡ option_map bare_internal (action_target t id (Some (type_in_namespace ns id ty)))
action_seen t ns id ty =
    ap (λ n. find (is_action t id) (candidates (bare_place ns) n)) (written_type_seen ty)
    ∙ (ap (find (is_action t id)) (candidates_seen ns (written_type ty))
    ∙ find_seen (is_action t id) (λ n. refl) (candidates ns (written_type ty)))

pub action_target_seen : (t : Tests) (ns : Option Name) (id : List ℕ) (ty : Option RawName)
    → action_target_in t (bare_space ns) id (option_map bare_name ty) ≡ action_target_in t ns id ty
action_target_seen t ns id ty =
    ap (λ p. option_map keyed (action_target t id (Some (type_in_namespace p id (option_map bare_name ty)))))
    (place_named ns)
    ∙ (ap (option_map keyed) (action_seen t (name_of ns) id ty)
    ∙ by_case (action_target t id (Some (type_in_namespace (name_of ns) id ty))))
  where
    keyed : InternalName → List (List ℕ) × List ℕ
    keyed n = (components_of n, id)

    by_case : (o : Option InternalName) → option_map keyed (option_map bare_internal o) ≡ option_map keyed o
    by_case None = refl
    by_case (Some n) = refl
