-- What fragments mean that declare the same.
use Rattle.std.proofs.Common.{◌≡◌, ℕ, List, [], ◌∷◌, map, Contains, Option, Some, None, refl, sym, ap, ◌∙◌, subst}
use Rattle.std.proofs.Common.{inl, inr, arith}
use Rattle.std.specs.List.{AllZip}
use Rattle.std.specs.List.Sorted.{IsStrictlySortedBy}
use Rattle.std.specs.Option.{option_map, option_map_or, option_to_list}
use Rattle.std.specs.declared.cmp.Ordering.{Ordering}
use Rattle.cedar_data.proofs.Lists.{contains_later}
use Rattle.cedar_identifiers.specs.Names.{components_of}
use Rattle.cedar_identifiers.specs.declared.internal_name.InternalName.{InternalName}
use Rattle.cedar_identifiers.specs.declared.name.Name.{Name}
use Rattle.cedar_identifiers.specs.declared.raw_name.RawName.{RawName}
use Rattle.cedar_identifiers.specs.declared.reference_type.ReferenceType.TheVariants.{Entity}
use Rattle.cedar_names.specs.Meaning.{PlainType, Rec}
use Rattle.cedar_names.specs.declared.extension_table.ExtensionTable.{ExtensionTable}
use Rattle.schema_json.specs.declared.action_type.ActionEntityUID.{ActionEntityUID}
use Rattle.schema_json.specs.declared.action_type.ApplySpec.{ApplySpec}
use Rattle.schema_json.specs.declared.entity_type.EntityTypeKind.{EntityTypeKind}
use Rattle.schema_json.specs.declared.entity_type.EntityTypeKind.TheVariants.{Standard, Enum}
use Rattle.schema_json.specs.declared.types.Type.{«Type»}
use Rattle.schema_json.specs.AsWritten.{as_written}
use Rattle.laws_translate.specs.Bare.{bare_name, bare}
use Rattle.laws_translate.specs.BareFragments.{bare_kind, bare_spec, bare_ref}
use Rattle.schema_resolve_definitions.specs.Declarations.{name_of}
use Rattle.schema_resolve_definitions.specs.Tests.{Tests}
use Rattle.schema_build_expand.specs.Scope.{Scope}
use Rattle.schema_build_expand.proofs.Linked.{reaches_as}
use Rattle.schema_build_hierarchy.specs.Declarations.{DeclaredEntity, action_key, declared_entities, declared_actions}
use Rattle.schema_build_hierarchy.specs.Entries.{SameMembers}
use Rattle.schema_build_hierarchy.specs.Parents.{target_in, action_target_in, written_parents, parents_in}
use Rattle.schema_build_hierarchy.specs.Parents.{entity_parents, IsParent, IsAncestor, action_parents_in}
use Rattle.schema_build_hierarchy.specs.Parents.{action_parents, IsActionParent, IsActionAncestor}
use Rattle.schema_build_hierarchy.proofs.Once.{contains_cases}
use Rattle.schema_build_hierarchy.proofs.Ordered.{sorted_back, sorted_seen}
use Rattle.schema_build_items.specs.ActionKinds.{components_cmp, AreJust, ApplyMeaning, IsMeantByOne, IsApplyMeaning}
use Rattle.schema_build_items.specs.ActionKinds.{tests_alone}
use Rattle.schema_build_items.specs.Kinds.{KindMeaning, TagsExpand, IsKindMeaning}
use Rattle.laws_build.specs.Orders.Alike.{bare_space, bare_place, DeclareTheSame}
use Rattle.laws_build.proofs.Orders.Declaring.{Frag, DeclaredAction, entity_alone, action_alone, entities_same}
use Rattle.laws_build.proofs.Orders.Declaring.{actions_same, tests_same}
use Rattle.laws_build.proofs.Orders.Expanding.{AreScopesAlike, expands_too}
use Rattle.laws_build.proofs.Orders.Naming.{place_named, target_in_seen, action_target_seen}
use Rattle.laws_build.proofs.Orders.Seen.{matched, flat_same}

abbrev pub Path : Type 0
Path = List (List ℕ)

abbrev pub Key : Type 0
Key = Path × List ℕ

-- parents
written_seen : (k : EntityTypeKind RawName) → written_parents (bare_kind k) ≡ map bare_name (written_parents k)
written_seen (Standard s) = refl
written_seen (Enum choices) = refl

parents_seen : (t : Tests) (ns : Option Name) (k : EntityTypeKind RawName)
    → parents_in t (bare_space ns) (written_parents (bare_kind k)) ≡ parents_in t ns (written_parents k)
parents_seen t ns k =
    ap (parents_in t (bare_space ns)) (written_seen k)
    ∙ flat_same bare_name (λ p. option_to_list (target_in t (bare_space ns) Entity p))
    (λ p. option_to_list (target_in t ns Entity p)) (λ p. ap option_to_list (target_in_seen t ns Entity p))
    (written_parents k)

pub entity_parents_seen : (t : Tests) (d : DeclaredEntity) → entity_parents t (entity_alone d) ≡ entity_parents t d
entity_parents_seen t d = parents_seen t d.ns d.ty.kind

refs_seen : (t : Tests) (ns : Option Name) (o : Option (List (ActionEntityUID RawName as_written)))
    → action_parents_in t (bare_space ns) (option_map_or (λ uids. uids) (option_map (map bare_ref) o) [])
    ≡ action_parents_in t ns (option_map_or (λ uids. uids) o [])
refs_seen t ns None = refl
refs_seen t ns (Some uids) =
    flat_same bare_ref (λ u. option_to_list (action_target_in t (bare_space ns) u.id u.ty))
    (λ u. option_to_list (action_target_in t ns u.id u.ty))
    (λ u. ap option_to_list (action_target_seen t ns u.id u.ty)) uids

pub action_parents_seen : (t : Tests) (d : DeclaredAction) → action_parents t (action_alone d) ≡ action_parents t d
action_parents_seen t d = refs_seen t d.ns d.ty.member_of

-- places of namespaces
pub spaces_same : (ns ms : Option Name) → bare_space ns ≡ bare_space ms → bare_place (name_of ns)
    ≡ bare_place (name_of ms)
spaces_same ns ms e = sym (place_named ns) ∙ (ap name_of e ∙ place_named ms)

module _ (s r : Scope RawName) (alike : AreScopesAlike s r) (ns ms : Option InternalName)
    (places : bare_place ns ≡ bare_place ms) where
  tags_too : (t u : Option («Type» RawName)) (p : Option PlainType) → option_map bare t ≡ option_map bare u
      → TagsExpand s ns t p → TagsExpand r ms u p
  tags_too None None p e h = h
  tags_too None (Some u) p e h = absurd (cc)
  tags_too (Some t) None p e h = absurd (cc)
  tags_too (Some t) (Some u) p e (q, is, x) =
      let same : bare t ≡ bare u = cc in
      (q, is, expands_too s r alike ns ms t u q places same x)

  pub kind_too : (k l : EntityTypeKind RawName) (m : KindMeaning) → bare_kind k ≡ bare_kind l
      → IsKindMeaning s ns k m → IsKindMeaning r ms l m
  kind_too (Standard a) (Standard b) m e h =
      let both : (bare a.shape.0 ≡ bare b.shape.0) × (option_map bare a.tags ≡ option_map bare b.tags) =
      standards_same (bare_kind (Standard a)) (bare_kind (Standard b)) e in (
        expands_too s r alike ns ms a.shape.0 b.shape.0 (Rec m.attributes) places both.0 h.0,
        tags_too a.tags b.tags m.tags both.1 h.1,
        h.2,
      )
    where
      shape_in : EntityTypeKind RawName → «Type» RawName
      shape_in (Standard x) = x.shape.0
      shape_in (Enum cs) = bare a.shape.0

      tags_in : EntityTypeKind RawName → Option («Type» RawName)
      tags_in (Standard x) = x.tags
      tags_in (Enum cs) = None

      standards_same : (x y : EntityTypeKind RawName) → x ≡ y → (shape_in x ≡ shape_in y) × (tags_in x ≡ tags_in y)
      standards_same x y e = (ap shape_in e, ap tags_in e)
  kind_too (Standard a) (Enum cs) m e h = absurd (cc)
  kind_too (Enum cs) (Standard b) m e h = absurd (cc)
  kind_too (Enum cs) (Enum ds) m e h =
      let same : cs ≡ ds = cc in
      (h.0, h.1, h.2 ∙ ap (λ l. Some (map (λ c. c.0) l)) same)

pub just_too : {A : Type 0} (order : A → A → Ordering) (W V : A → Type 0) → ((a : A) → W a → V a)
    → ((a : A) → V a → W a) → (found : List A) → AreJust order W found → AreJust order V found
just_too order W V to from found h = record {
  rising = h.rising;
  just = λ a. ((λ c. to a ((h.just a).0 c)), (λ v. (h.just a).1 (from a v)));
}

-- what is meant by one of the names
meant_too : (t u : Tests) → t ≡ u → (ns ms : Option Name) (xs ys : List RawName) → bare_space ns ≡ bare_space ms
    → map bare_name xs ≡ map bare_name ys → (target : Path) → IsMeantByOne t ns xs target → IsMeantByOne u ms ys target
meant_too t u tests ns ms xs ys places e target (n, c, is) =
    let (m, cm, seen) = matched bare_name xs ys e n c in (
      m,
      cm,
      sym (target_in_seen u ms Entity m)
          ∙ ((λ i. target_in (sym tests i) (sym places i) Entity (sym seen i))
          ∙ (target_in_seen t ns Entity n ∙ is)),
    )

module _ (t u : Tests) (tests : t ≡ u) (s r : Scope RawName) (alike : AreScopesAlike s r)
    (ns ms : Option Name) (places : bare_space ns ≡ bare_space ms) where
  pub apply_too : (a b : Option (ApplySpec RawName)) (m : ApplyMeaning)
      → option_map bare_spec a ≡ option_map bare_spec b → IsApplyMeaning t s ns a m → IsApplyMeaning u r ms b m
  apply_too None None m e h = h
  apply_too None (Some b) m e h = absurd (cc)
  apply_too (Some a) None m e h = absurd (cc)
  apply_too (Some a) (Some b) m e h =
      let same : bare_spec a ≡ bare_spec b = cc in
      let principals = ap (λ (x : ApplySpec RawName). x.principal_types) same in
      let resources = ap (λ (x : ApplySpec RawName). x.resource_types) same in
      let context = ap (λ (x : ApplySpec RawName). x.context.0) same in (
        just_too components_cmp (IsMeantByOne t ns a.principal_types) (IsMeantByOne u ms b.principal_types)
            (meant_too t u tests ns ms a.principal_types b.principal_types places principals)
            (meant_too u t (sym tests) ms ns b.principal_types a.principal_types (sym places) (sym principals))
            m.principals h.0,
        just_too components_cmp (IsMeantByOne t ns a.resource_types) (IsMeantByOne u ms b.resource_types)
            (meant_too t u tests ns ms a.resource_types b.resource_types places resources)
            (meant_too u t (sym tests) ms ns b.resource_types a.resource_types (sym places) (sym resources))
            m.resources h.1,
        expands_too s r alike (name_of ns) (name_of ms) a.context.0 b.context.0 (Rec m.context)
            (spaces_same ns ms places) context h.2,
      )

-- a list of items seen the same as those of another
module _ {A B : Type 0} (seen : A → B) (all others : List A) (same : map seen all ≡ map seen others) where
  pub rebuilt : (xs : List A) → ((x : A) → Contains xs x → Contains all x)
      → (ys : List A) × (map seen xs ≡ map seen ys) × ((y : A) → Contains ys y → Contains others y)
  rebuilt [] h = ([], refl, λ y c. absurd (omega (arith, c.1)))
  rebuilt (x ∷ xs) h =
      let (y, cy, e) = matched seen all others same x (h x (0, omega arith, refl)) in
      let (ys, es, are) = rebuilt xs (λ z c. h z (contains_later x xs z c)) in
      (y ∷ ys, (λ i. e i ∷ es i), within y ys cy are)
    where
      within : (y : A) (ys : List A) → Contains others y → ((z : A) → Contains ys z → Contains others z)
          → (z : A) → Contains (y ∷ ys) z → Contains others z
      within y ys cy are z c = elim (contains_cases y ys z c) [
        | inl here ↦ subst (Contains others) here cy
        | inr more ↦ are z more
      ]

  -- it has just the others, where of these no two are told by one name
  pub members_too : ((x y : A) → Contains others x → Contains others y → seen x ≡ seen y → x ≡ y)
      → (xs ys : List A) → SameMembers all xs → map seen xs ≡ map seen ys
      → ((y : A) → Contains ys y → Contains others y) → SameMembers others ys
  members_too once xs ys members es are y = (
    (λ c.
        let (x, cx, e) = matched seen others all (sym same) y c in
        let (z, cz, d) = matched seen xs ys es x ((members x).0 cx) in
        subst (Contains ys) (sym (once y z c (are z cz) (e ∙ d))) cz),
    are y,
  )

-- lists that are seen the same rise the same
pub seen_rise : {A B : Type 0} (seen : A → B) (R : A → A → Ordering) (S : B → B → Ordering)
    → ((a b : A) → R a b ≡ S (seen a) (seen b)) → (xs ys : List A) → map seen xs ≡ map seen ys
    → IsStrictlySortedBy R xs → IsStrictlySortedBy R ys
seen_rise {A} seen R S agree xs ys e up =
    let through : R ≡ (λ a b. S (seen a) (seen b)) = λ i a b. agree a b i in
    subst (λ T. IsStrictlySortedBy T ys) (sym through)
    (sorted_back seen S ys
    (subst (IsStrictlySortedBy S) e (sorted_seen seen S xs (subst (λ T. IsStrictlySortedBy T xs) through up))))

pub zip_too : {A B C : Type 0} (seen : A → B) (P Q : A → C → Type 0)
    → ((x y : A) (c : C) → seen x ≡ seen y → P x c → Q y c) → (xs ys : List A) (cs : List C)
    → map seen xs ≡ map seen ys → AllZip P xs cs → AllZip Q ys cs
zip_too seen P Q step [] [] [] e h = tt
zip_too seen P Q step [] [] (c ∷ cs) e h = absurd h
zip_too seen P Q step [] (y ∷ ys) cs e h = absurd (cc)
zip_too seen P Q step (x ∷ xs) [] cs e h = absurd (cc)
zip_too seen P Q step (x ∷ xs) (y ∷ ys) [] e h = absurd h
zip_too seen P Q step (x ∷ xs) (y ∷ ys) (c ∷ cs) e h =
    let first : seen x ≡ seen y = cc in
    let others : map seen xs ≡ map seen ys = cc in
    (step x y c first h.0, zip_too seen P Q step xs ys cs others h.1)

module _ (f g : Frag) (table : ExtensionTable) (same : DeclareTheSame f g) where
  pub parent_too : (a b : Path) → IsParent (tests_alone f table) (declared_entities f) a b
      → IsParent (tests_alone g table) (declared_entities g) a b
  parent_too a b (d, c, named, p) =
      let (e, ce, seen) = matched entity_alone (declared_entities f) (declared_entities g) (entities_same f g same) d
      c in
      let parents : entity_parents (tests_alone f table) d ≡ entity_parents (tests_alone g table) e =
      sym (entity_parents_seen (tests_alone f table) d)
      ∙ ((λ i. entity_parents (tests_same f g same table i) (seen i)) ∙ entity_parents_seen (tests_alone g table) e) in
      (e, ce, ap (λ (x : DeclaredEntity). components_of x.name) (sym seen) ∙ named, subst (λ l. Contains l b) parents p)

  pub ancestor_too : (a b : Path) → IsAncestor (tests_alone f table) (declared_entities f) a b
      → IsAncestor (tests_alone g table) (declared_entities g) a b
  ancestor_too = reaches_as (IsParent (tests_alone f table) (declared_entities f))
      (IsParent (tests_alone g table) (declared_entities g)) parent_too

  pub action_parent_too : (a b : Key) → IsActionParent (tests_alone f table) (declared_actions f) a b
      → IsActionParent (tests_alone g table) (declared_actions g) a b
  action_parent_too a b (d, c, named, p) =
      let (e, ce, seen) = matched action_alone (declared_actions f) (declared_actions g) (actions_same f g same) d c in
      let parents : action_parents (tests_alone f table) d ≡ action_parents (tests_alone g table) e =
      sym (action_parents_seen (tests_alone f table) d)
      ∙ ((λ i. action_parents (tests_same f g same table i) (seen i)) ∙ action_parents_seen (tests_alone g table) e) in
      (e, ce, ap (λ (x : DeclaredAction). action_key x) (sym seen) ∙ named, subst (λ l. Contains l b) parents p)

  pub action_ancestor_too : (a b : Key) → IsActionAncestor (tests_alone f table) (declared_actions f) a b
      → IsActionAncestor (tests_alone g table) (declared_actions g) a b
  action_ancestor_too = reaches_as (IsActionParent (tests_alone f table) (declared_actions f))
      (IsActionParent (tests_alone g table) (declared_actions g)) action_parent_too
