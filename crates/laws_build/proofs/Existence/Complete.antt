-- Types stand for something in a complete scope.
use Rattle.std.proofs.Common.{◌≡◌, ℕ, zero, suc, true, false, List, [], ◌∷◌, map, refl, sym, ap, ◌∙◌, subst}
use Rattle.std.proofs.Common.{Contains, inl, inr, ◌⊎◌, Option, Some, None, All}
use Rattle.std.specs.Prelude.{slice_get, IsSome}
use Rattle.std.proofs.lemmas.List.Elements.{All-contains}
use Rattle.std.proofs.lemmas.Option.{same_Some}
use Rattle.cedar_data.proofs.Lists.{contains_first, contains_later, contains_map, all_of}
use Rattle.cedar_identifiers.specs.declared.internal_name.InternalName.{InternalName}
use Rattle.cedar_identifiers.specs.declared.reference_type.ReferenceType.{ReferenceType}
use Rattle.cedar_identifiers.specs.declared.reference_type.ReferenceType.TheVariants.{Common, Entity, CommonOrEntity}
use Rattle.cedar_names.specs.Meaning.{PlainType}
use Rattle.cedar_names.specs.Meaning as meaning
use Rattle.schema_json.specs.declared.types.Type.{«Type»}
use Rattle.schema_json_walk.specs.Parts.{Part, type_reference, context_reference, parent, principal, resource}
use Rattle.schema_json_walk.specs.Parts.{action_parent, extension_type, open_record, action_attributes}
use Rattle.schema_json_walk.specs.Parts.{external_not_bare}
use Rattle.schema_json_walk.specs.Walk.{parts}
use Rattle.schema_build_expand.specs.Scope.{Scope, DeclaredType, Declares, IsUndeclared, builtin}
use Rattle.schema_build_expand.specs.Expands.{Expands, to_entity, to_builtin, to_declared}
use Rattle.schema_build_expand.specs.Rows.{IsMeant}
use Rattle.laws_build.specs.Existence.Finite.{IsFinite}
use Rattle.laws_build.specs.Existence.Complete.{Means, Refers, IsComplete, AllExpand}
use Rattle.laws_build.proofs.Existence.Known.{Known, told, told_decides, known_alike, known_both, known_among, known_at}
use Rattle.laws_build.proofs.Existence.Known.{known_name}
use Rattle.laws_build.proofs.Existence.Reached.{induct}
use Rattle.laws_build.proofs.Existence.Expanding.{StandsAlone, type_expands}

-- what stands at a place stands in the list
pub held_at : {X : Type 0} (xs : List X) (k : ℕ) (x : X) → slice_get xs k ≡ Some x → Contains xs x
held_at [] zero x at = absurd (cc)
held_at [] (suc k) x at = absurd (cc)
held_at (y ∷ ys) zero x at = subst (Contains (y ∷ ys)) (let e : y ≡ x = cc in e) (contains_first y ys)
held_at (y ∷ ys) (suc k) x at = contains_later y ys x (held_at ys k x at)

module _ {N : Type 0} (s : Scope N) where
  -- whether the reference means the common type of the name
  abbrev MeansIt : Option InternalName → List (List ℕ) → Part N → Type 0
  MeansIt ns name (type_reference kind written) = s.means ns kind written ≡ Some (name, Common)
  MeansIt ns name _ = ⊥

  is_meant : (name : List (List ℕ)) (m : Option (List (List ℕ) × ReferenceType)) → Known (m ≡ Some (name, Common))
  is_meant name None = inr (λ e. cc)
  is_meant name (Some (full, Entity)) = inr (λ e. (
      let same : Entity ≡ Common =
      ap (λ (z : List (List ℕ) × ReferenceType). z.1) (same_Some (full, Entity) (name, Common) e) in cc))
  is_meant name (Some (full, CommonOrEntity)) = inr (λ e. (
      let same : CommonOrEntity ≡ Common =
      ap (λ (z : List (List ℕ) × ReferenceType). z.1) (same_Some (full, CommonOrEntity) (name, Common) e) in cc))
  is_meant name (Some (full, Common)) =
      known_alike (λ e. ap (λ n. Some (n, Common)) e)
      (λ e. ap (λ (z : List (List ℕ) × ReferenceType). z.0) (same_Some (full, Common) (name, Common) e))
      (known_name full name)

  known_part : (ns : Option InternalName) (name : List (List ℕ)) (p : Part N) → Known (MeansIt ns name p)
  known_part ns name (type_reference kind written) = is_meant name (s.means ns kind written)
  known_part ns name (context_reference n) = inr (λ e. e)
  known_part ns name (parent n) = inr (λ e. e)
  known_part ns name (principal n) = inr (λ e. e)
  known_part ns name (resource n) = inr (λ e. e)
  known_part ns name (action_parent id ty) = inr (λ e. e)
  known_part ns name (extension_type id) = inr (λ e. e)
  known_part ns name open_record = inr (λ e. e)
  known_part ns name (action_attributes names) = inr (λ e. e)
  known_part ns name external_not_bare = inr (λ e. e)

  from_part : (ns : Option InternalName) (ps : List (Part N)) (name : List (List ℕ)) (p : Part N) → Contains ps p
      → MeansIt ns name p → Means s ns ps name
  from_part ns ps name (type_reference kind written) c m = (kind, written, c, m)
  from_part ns ps name (context_reference n) c m = absurd m
  from_part ns ps name (parent n) c m = absurd m
  from_part ns ps name (principal n) c m = absurd m
  from_part ns ps name (resource n) c m = absurd m
  from_part ns ps name (action_parent id ty) c m = absurd m
  from_part ns ps name (extension_type id) c m = absurd m
  from_part ns ps name open_record c m = absurd m
  from_part ns ps name (action_attributes names) c m = absurd m
  from_part ns ps name external_not_bare c m = absurd m

  known_means : (ns : Option InternalName) (ps : List (Part N)) (name : List (List ℕ)) → Known (Means s ns ps name)
  known_means ns ps name =
      known_alike (λ (p, c, m). from_part ns ps name p c m)
      (λ (kind, written, c, m). (type_reference kind written, c, m))
      (known_among (MeansIt ns name) (known_part ns name) ps)

  pub known_declared : (name : List (List ℕ)) → Known ((d : DeclaredType N) × Declares s name d)
  known_declared name =
      known_alike (λ (d, k, at, is). (d, (k, at, is))) (λ (d, (k, at, is)). (d, k, at, is))
      (known_at (λ d. d.name ≡ name) (λ d. known_name d.name name) s.commons)

  known_refers : (one other : List (List ℕ)) → Known (Refers s one other)
  known_refers one other =
      known_alike (λ ((d, k, at, (is, m)), (e, there)). (d, e, (k, at, is), there, m))
      (λ (d, e, (k, at, is), there, m). ((d, k, at, (is, m)), (e, there)))
      (known_both
      (known_at (λ d. (d.name ≡ one) × Means s d.place (parts d.ty) other)
      (λ d. known_both (known_name d.name one) (known_means d.place (parts d.ty) other)) s.commons)
      (known_declared other))

  -- references between common types lead to declared ones only
  pub refers_finite : IsFinite (Refers s)
  refers_finite = record {
    edge = λ a b. told (known_refers a b);
    decides = λ a b. told_decides (known_refers a b);
    targets = map (λ d. d.name) s.commons;
    within = λ a b (d, e, here, (k, at, is), m).
        subst (Contains (map (λ (x : DeclaredType N). x.name) s.commons)) is
        (contains_map (λ (x : DeclaredType N). x.name) s.commons e (held_at s.commons k e at));
  }

  module _ (complete : IsComplete s) where
    -- a reference that means something stands for something, if each declared common type that it may mean does
    reference_expands : (ns : Option InternalName) (kind : ReferenceType) (name : N)
        → ((full : List (List ℕ)) (e : DeclaredType N) → s.means ns kind name ≡ Some (full, Common)
        → Declares s full e → (p : PlainType) × Expands N s e.place e.ty p)
        → (m : Option (List (List ℕ) × ReferenceType)) → s.means ns kind name ≡ m → IsSome m
        → StandsAlone s ns (type_reference kind name)
    reference_expands ns kind name declared None is there = absurd (let e : false ≡ true = there in cc)
    reference_expands ns kind name declared (Some (full, k)) is there =
        go (complete.kinds ns kind name full k is) (known_declared full)
      where
        builtin_is : s.means ns kind name ≡ Some (full, Common) → IsUndeclared s full
            → (b : Option PlainType) → builtin s full ≡ b → IsSome b → StandsAlone s ns (type_reference kind name)
        builtin_is means none None at some = absurd (let e : false ≡ true = some in cc)
        builtin_is means none (Some p) at some = (p, to_builtin ns kind name full p means none at)

        go : (k ≡ Common) ⊎ (k ≡ Entity) → Known ((d : DeclaredType N) × Declares s full d)
            → StandsAlone s ns (type_reference kind name)
        go (inr entity) known =
            (meaning.Entity full, to_entity ns kind name full (is ∙ ap (λ x. Some (full, x)) entity))
        go (inl common) (inl (d, (j, at, called))) =
            let means : s.means ns kind name ≡ Some (full, Common) = is ∙ ap (λ x. Some (full, x)) common in
            let e = declared full d means (j, at, called) in (
              e.0,
              to_declared ns kind name d e.0 (means ∙ ap (λ n. Some (n, Common)) (sym called)) (j, at, refl) e.1,
            )
        go (inl common) (inr none) =
            let means : s.means ns kind name ≡ Some (full, Common) = is ∙ ap (λ x. Some (full, x)) common in
            let undeclared : IsUndeclared s full = λ d here. none (d, here) in
            builtin_is means undeclared (builtin s full) refl (complete.builtins ns kind name full means undeclared)

    part_expands : (ns : Option InternalName) (ps : List (Part N))
        → ((full : List (List ℕ)) (e : DeclaredType N) → Means s ns ps full → Declares s full e
        → (p : PlainType) × Expands N s e.place e.ty p)
        → (p : Part N) → Contains ps p → IsMeant s ns p → StandsAlone s ns p
    part_expands ns ps declared (type_reference kind name) c m =
        reference_expands ns kind name (λ full e means here. declared full e (kind, name, c, means) here)
        (s.means ns kind name) refl m
    part_expands ns ps declared (extension_type id) c m = m
    part_expands ns ps declared (context_reference n) c m = absurd m
    part_expands ns ps declared (parent n) c m = absurd m
    part_expands ns ps declared (principal n) c m = absurd m
    part_expands ns ps declared (resource n) c m = absurd m
    part_expands ns ps declared (action_parent id ty) c m = absurd m
    part_expands ns ps declared open_record c m = absurd m
    part_expands ns ps declared (action_attributes names) c m = absurd m
    part_expands ns ps declared external_not_bare c m = absurd m

    meant_expands : (ns : Option InternalName) (t : «Type» N)
        → ((full : List (List ℕ)) (e : DeclaredType N) → Means s ns (parts t) full → Declares s full e
        → (p : PlainType) × Expands N s e.place e.ty p)
        → All (IsMeant s ns) (parts t) → (p : PlainType) × Expands N s ns t p
    meant_expands ns t declared all =
        type_expands s ns t (all_of (StandsAlone s ns) (parts t)
        (λ p c. part_expands ns (parts t) declared p c (All-contains (IsMeant s ns) (parts t) p all c)))

    -- each declared common type of the name stands for something
    abbrev Stands : List (List ℕ) → Type 0
    Stands name = (d : DeclaredType N) → Declares s name d → (p : PlainType) × Expands N s d.place d.ty p

    declared_expand : (name : List (List ℕ)) → Stands name
    declared_expand = induct (Refers s) refers_finite complete.no_round Stands
        (λ name below d (k, at, is). meant_expands d.place d.ty
        (λ full e means here. below full (d, e, (k, at, is), here, means) e here) (complete.meant k d at))

    pub all_expand : AllExpand s
    all_expand ns t all = meant_expands ns t (λ full e means here. declared_expand full e here) all
