-- What is found of a reference is what it means.
use Rattle.std.proofs.Common.{◌≡◌, Bool, true, false, List, [], ◌∷◌, Option, Some, None, sym, ap, ◌∙◌}
use Rattle.std.proofs.Common.{ℕ, refl, subst}
use Rattle.std.specs.Prelude.{if◌then◌else◌, IsSome}
use Rattle.std.specs.Option.{option_map}
use Rattle.std.proofs.lemmas.Option.{same_Some}
use Rattle.cedar_data.specs.declared.loc.Loc.{Loc}
use Rattle.cedar_identifiers.specs.Candidates.{qualified}
use Rattle.cedar_identifiers.specs.Names.{components_of}
use Rattle.cedar_identifiers.specs.declared.id.Id.{Id}
use Rattle.cedar_identifiers.specs.declared.internal_name.InternalName.{InternalName}
use Rattle.cedar_identifiers.specs.declared.raw_name.RawName.{RawName}
use Rattle.cedar_identifiers.specs.declared.reference_type.ReferenceType.{ReferenceType}
use Rattle.cedar_identifiers.specs.declared.reference_type.ReferenceType.TheVariants.{Common, Entity, CommonOrEntity}
use Rattle.schema_resolve_definitions.specs.Tests.{Tests}
use Rattle.schema_resolve_targets.specs.Meanings.{means, kind_there}
use Rattle.schema_resolve_targets.specs.Tried.{kind_found, own_kind, candidate}
use Rattle.schema_resolve_targets.proofs.Candidates.{behind_parts, either_told, own_found, plain_found, none_found}
use Rattle.schema_build_scope.specs.Meant.{kind_if, meant_candidate}

-- the kind of what is found
told_kind : (t : Tests) (kind : ReferenceType) (n : InternalName) (b : Bool)
    → kind_found t kind (components_of n) ≡ Some b → kind_there t kind n ≡ kind_if b
told_kind t Common n b h = go (t.is_common (components_of n)) h
  where
    go : (c : Bool) → (if c then Some true else None) ≡ Some b → Common ≡ kind_if b
    go true e = ap kind_if (same_Some true b e)
    go false e = cc
told_kind t Entity n b h = go (t.is_entity (components_of n)) h
  where
    go : (c : Bool) → (if c then Some false else None) ≡ Some b → Entity ≡ kind_if b
    go true e = ap kind_if (same_Some false b e)
    go false e = cc
told_kind t CommonOrEntity n b h = ap kind_if (sym (either_told t (components_of n) b h))

-- what is found behind the namespace
own_kind_at : (t : Tests) (ns : InternalName) (kind : ReferenceType) (first : Id) (loc : Option Loc) (others : List Id)
    (b : Bool) → (let name : InternalName = record { first = first; others = others; loc = loc } in
    own_kind t (Some ns) kind name ≡ Some b → kind_there t kind (qualified (Some ns) name) ≡ kind_if b)
own_kind_at t ns kind first loc [] b h =
    let name : InternalName = record { first = first; others = []; loc = loc } in
    told_kind t kind (qualified (Some ns) name) b (ap (kind_found t kind) (behind_parts ns first loc) ∙ h)
own_kind_at t ns kind first loc (i ∷ is) b h = cc

own_kind_told : (t : Tests) (ns : Option InternalName) (kind : ReferenceType) (name : InternalName) (b : Bool)
    → own_kind t ns kind name ≡ Some b → kind_there t kind (qualified ns name) ≡ kind_if b
own_kind_told t None kind name b h = cc
own_kind_told t (Some ns) kind name b h = own_kind_at t ns kind name.first name.loc name.others b h

module _ (t : Tests) (ns : Option InternalName) (kind : ReferenceType) (name : RawName) where
  abbrev kinded : InternalName → InternalName × ReferenceType
  kinded n = (n, kind_there t kind n)

  pub own_meant : (b : Bool) → own_kind t ns kind name.name ≡ Some b
      → Some (meant_candidate ns name.name (record { is_own = true; is_common = b })) ≡ means t ns kind name
  own_meant b h =
      ap (λ k. let m : InternalName × ReferenceType = (candidate ns name.name true, k) in Some m)
      (sym (own_kind_told t ns kind name.name b h))
      ∙ ap (option_map kinded) (own_found t ns kind name.name b h)

  pub plain_meant : (b : Bool) → own_kind t ns kind name.name ≡ None
      → kind_found t kind (components_of name.name) ≡ Some b
      → Some (meant_candidate ns name.name (record { is_own = false; is_common = b })) ≡ means t ns kind name
  plain_meant b none h =
      ap (λ k. let m : InternalName × ReferenceType = (candidate ns name.name false, k) in Some m)
      (sym (told_kind t kind name.name b h))
      ∙ ap (option_map kinded) (plain_found t ns kind name.name b none h)

  pub none_meant : own_kind t ns kind name.name ≡ None → kind_found t kind (components_of name.name) ≡ None
      → None ≡ means t ns kind name
  none_meant none h = ap (option_map kinded) (none_found t ns kind name.name none h)

  -- what means something and is not behind its namespace is found as it is written
  pub known_meant : own_kind t ns kind name.name ≡ None → IsSome (means t ns kind name)
      → (b : Bool) × (kind_found t kind (components_of name.name) ≡ Some b)
  known_meant none some = go (kind_found t kind (components_of name.name)) refl
    where
      go : (o : Option Bool) → kind_found t kind (components_of name.name) ≡ o
          → (b : Bool) × (kind_found t kind (components_of name.name) ≡ Some b)
      go (Some b) e = (b, e)
      go None e =
          absurd (let h : IsSome {T = InternalName × ReferenceType} None = subst IsSome
          (sym (none_meant none e)) some in
          cc)

-- what is found in a kind that leaves nothing open
pub known_common : (t : Tests) (n : List (List ℕ)) (b : Bool) → kind_found t Common n ≡ Some b → true ≡ b
known_common t n b h = go (t.is_common n) h
  where
    go : (c : Bool) → (if c then Some true else None) ≡ Some b → true ≡ b
    go true e = same_Some true b e
    go false e = cc

pub known_entity : (t : Tests) (n : List (List ℕ)) (b : Bool) → kind_found t Entity n ≡ Some b → false ≡ b
known_entity t n b h = go (t.is_entity n) h
  where
    go : (c : Bool) → (if c then Some false else None) ≡ Some b → false ≡ b
    go true e = same_Some false b e
    go false e = cc
