-- What references mean that mean the same either way, and what the names in `__cedar` mean.
use Rattle.std.proofs.Common.{◌≡◌, ℕ, Bool, true, false, ◌||◌, List, Option, Some, None, cond, refl, sym, ap}
use Rattle.std.proofs.Common.{◌∙◌}
use Rattle.std.specs.Prelude.{if◌then◌else◌}
use Rattle.std.specs.Option.{option_map, is_some, unwrap_or}
use Rattle.std.proofs.lemmas.Option.{same_Some}
use Rattle.cedar_data.specs.declared.loc.Loc.{Loc}
use Rattle.cedar_identifiers.specs.Names.{components_of}
use Rattle.cedar_identifiers.specs.declared.id.Id.{Id}
use Rattle.cedar_identifiers.specs.declared.internal_name.InternalName.{InternalName}
use Rattle.cedar_identifiers.specs.declared.raw_name.RawName.{RawName}
use Rattle.cedar_identifiers.specs.declared.reference_type.ReferenceType.{ReferenceType}
use Rattle.cedar_identifiers.specs.declared.reference_type.ReferenceType.TheVariants.{Common, Entity, CommonOrEntity}
use Rattle.schema_json.specs.declared.types.Type.{Variant, CommonTypeRef}
use Rattle.schema_json.specs.declared.types.TypeVariant.TheVariants as variant
use Rattle.schema_json_walk.specs.Parts.{Part, type_reference}
use Rattle.schema_resolve_definitions.specs.Tests.{Tests}
use Rattle.schema_resolve_targets.specs.Meanings.{means, kind_there}
use Rattle.schema_resolve_targets.specs.Qualified.{in_namespace}
use Rattle.schema_resolve_targets.specs.ReferenceParts.{by_reference}
use Rattle.schema_resolve.specs.References.{reference_to}
use Rattle.schema_resolve.specs.Resolved.{resolving_in}
use Rattle.schema_resolve_targets.specs.Untargeted.{untargeted_in}
use Rattle.schema_resolve_targets.specs.Targets.{target, unless}
use Rattle.schema_resolve_targets.specs.Undefined.{Undefined}
use Rattle.schema_print.proofs.Tested.{none}
use Rattle.schema_print.proofs.EitherWay.{same_kind}
use Rattle.laws_print.specs.Printed.CedarForm.{builtin_name}

same_name : {N : Type 0} (m n : N × ReferenceType) → Some m ≡ Some n → m.0 ≡ n.0
same_name m n h = ap (λ found. found.0) (same_Some m n h)

module _ {A B U : Type 0} where
  told : (f : A → B) (o : Option A) (u : U) → none (unless o u) ≡ is_some (option_map f o)
  told f None u = refl
  told f (Some a) u = refl

module _ (t : Tests) where
  abbrev either_told : InternalName → ReferenceType
  either_told n = kind_there t CommonOrEntity n

  abbrev with_kind : ReferenceType → Option InternalName → Option (InternalName × ReferenceType)
  with_kind kind o = option_map (λ n. (n, kind)) o

  abbrev as_told : Option InternalName → Option (InternalName × ReferenceType)
  as_told o = option_map (λ n. (n, either_told n)) o

  -- a name that means a common type either way
  common_either : (x y : Option InternalName) (other : InternalName) (loc : Option Loc) → with_kind Common x ≡ as_told y
      → is_some x ≡ true
      → CommonTypeRef (unwrap_or x other) loc
      ≡ reference_to (t.is_common (components_of (unwrap_or y other))) (unwrap_or y other) loc
  common_either None y other loc h k = absurd (cc)
  common_either (Some a) None other loc h k = absurd (cc)
  common_either (Some a) (Some b) other loc h k = go (t.is_common (components_of b)) refl
    where
      go : (c : Bool) → t.is_common (components_of b) ≡ c → CommonTypeRef a loc ≡ reference_to c b loc
      go true e = ap (λ n. CommonTypeRef n loc) (same_name (a, Common) (b, either_told b) h)
      go false e =
          let k : Common ≡ either_told b = same_kind (a, Common) (b, either_told b) h in
          let l : either_told b ≡ Entity = ap (λ c. if c then Common else Entity) e in
          absurd (cc)

  -- a name that means an entity type either way
  entity_either : (x y : Option InternalName) (other : InternalName) (loc : Option Loc) → with_kind Entity x ≡ as_told y
      → is_some x ≡ true
      → Variant (variant.Entity (unwrap_or x other)) loc
      ≡ reference_to (t.is_common (components_of (unwrap_or y other))) (unwrap_or y other) loc
  entity_either None y other loc h k = absurd (cc)
  entity_either (Some a) None other loc h k = absurd (cc)
  entity_either (Some a) (Some b) other loc h k = go (t.is_common (components_of b)) refl
    where
      go : (c : Bool) → t.is_common (components_of b) ≡ c → Variant (variant.Entity a) loc ≡ reference_to c b loc
      go true e =
          let k : Entity ≡ either_told b = same_kind (a, Entity) (b, either_told b) h in
          let l : either_told b ≡ Common = ap (λ c. if c then Common else Entity) e in
          absurd (cc)
      go false e = ap (λ n. Variant (variant.Entity n) loc) (same_name (a, Entity) (b, either_told b) h)

  module _ (ns : Option InternalName) where
    abbrev pub visit : Part RawName → List Undefined
    visit = by_reference (untargeted_in t ns)

    abbrev target_of : ReferenceType → RawName → Option InternalName
    target_of kind name = target t (in_namespace ns kind name)

    reference_told : (kind : ReferenceType) (name : RawName)
        → none (visit (type_reference kind name)) ≡ is_some (means t ns kind name)
    reference_told kind name = told (λ n. (n, kind_there t kind n)) (target_of kind name) _

    -- a reference that means the same either way is found where it is either way
    pub found_either : (kind : ReferenceType) (name : RawName) → means t ns kind name ≡ means t ns CommonOrEntity name
        → none (visit (type_reference kind name)) ≡ none (visit (type_reference CommonOrEntity name))
    found_either kind name h = reference_told kind name ∙ ap is_some h ∙ sym (reference_told CommonOrEntity name)

    is_found : (kind : ReferenceType) (name : RawName) → none (visit (type_reference kind name)) ≡ true
        → is_some (target_of kind name) ≡ true
    is_found kind name h = go (target_of kind name) _ h
      where
        go : (o : Option InternalName) (u : Undefined) → none (unless o u) ≡ true → is_some o ≡ true
        go None u k = k
        go (Some a) u k = refl

    pub common_alike : (name : RawName) (loc : Option Loc) → means t ns Common name ≡ means t ns CommonOrEntity name
        → none (visit (type_reference Common name)) ≡ true
        → CommonTypeRef ((resolving_in t ns).name Common name) loc ≡ (resolving_in t ns).either name loc
    common_alike name loc h found =
        common_either (target_of Common name) (target_of CommonOrEntity name) name.name loc h
        (is_found Common name found)

    pub entity_alike : (name : RawName) (loc : Option Loc) → means t ns Entity name ≡ means t ns CommonOrEntity name
        → none (visit (type_reference Entity name)) ≡ true
        → Variant (variant.Entity ((resolving_in t ns).name Entity name)) loc ≡ (resolving_in t ns).either name loc
    entity_alike name loc h found =
        entity_either (target_of Entity name) (target_of CommonOrEntity name) name.name loc h
        (is_found Entity name found)

    -- a name in `__cedar` that is a common type means itself
    module _ (id : Id) where
      abbrev full : List (List ℕ)
      full = components_of (builtin_name id).name

      builtin_target : t.is_common full ≡ true
          → target_of CommonOrEntity (builtin_name id) ≡ Some (builtin_name id).name
      builtin_target h = go ns
        where
          one : cond (t.is_common full || t.is_entity full) (Some (builtin_name id).name) None
              ≡ Some (builtin_name id).name
          one = ap (λ b. cond (b || t.is_entity full) (Some (builtin_name id).name) None) h

          go : (s : Option InternalName)
              → target t (in_namespace s CommonOrEntity (builtin_name id)) ≡ Some (builtin_name id).name
          go None = one
          go (Some s) = one

      pub builtin_found : t.is_common full ≡ true
          → none (visit (type_reference CommonOrEntity (builtin_name id))) ≡ true
      builtin_found h = go (target_of CommonOrEntity (builtin_name id)) _ (builtin_target h)
        where
          go : (o : Option InternalName) (u : Undefined) → o ≡ Some (builtin_name id).name → none (unless o u) ≡ true
          go None u e = absurd (cc)
          go (Some a) u e = refl

      pub builtin_either : (loc : Option Loc) → t.is_common full ≡ true
          → (resolving_in t ns).either (builtin_name id) loc ≡ CommonTypeRef (builtin_name id).name loc
      builtin_either loc h =
          (λ i. (let m : InternalName = unwrap_or (builtin_target h i) (builtin_name id).name in
          reference_to (t.is_common (components_of m)) m loc))
          ∙ ap (λ c. reference_to c (builtin_name id).name loc) h
