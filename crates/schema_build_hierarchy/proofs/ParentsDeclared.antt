-- The parents of what is declared are declared.
use Rattle.std.proofs.Common.{◌≡◌, ℕ, Bool, true, false, cond, not, List, [], ◌∷◌, map, Option, Some, None, Contains}
use Rattle.std.proofs.Common.{refl, sym, ap, ◌∙◌, subst, inl, inr, arith}
use Rattle.std.specs.Prelude.{filter, find}
use Rattle.std.specs.List.{flat_map}
use Rattle.std.specs.Option.{option_map, option_to_list}
use Rattle.std.specs.Str.{bytes_eq, encode_utf8_all}
use Rattle.std.proofs.lemmas.Str.{encodes_same}
use Rattle.std.proofs.lemmas.Bool.{cases_Bool, and_parts}
use Rattle.std.proofs.lemmas.List.Elements.{Contains-append_left, Contains-append_right}
use Rattle.std.proofs.lemmas.List.Folds.{Any-from_list_any}
use Rattle.std.proofs.lemmas.Slice.Eq.{bytes_eq-Decides}
use Rattle.cedar_data.proofs.Lists.{contains_flat, contains_map, contains_unmap, found_passes}
use Rattle.cedar_data.proofs.Options.{seen_of}
use Rattle.cedar_identifiers.specs.Names.{components_of, has_cedar}
use Rattle.cedar_identifiers.specs.declared.internal_name.InternalName.{InternalName}
use Rattle.cedar_identifiers.specs.declared.name.Name.{Name}
use Rattle.cedar_identifiers.specs.declared.name_text.NameText as named
use Rattle.cedar_identifiers.specs.declared.raw_name.RawName.{RawName}
use Rattle.cedar_identifiers.specs.declared.reference_type.ReferenceType.TheVariants.{Entity}
use Rattle.cedar_identifiers.specs.declared.unreserved_id.UnreservedId.{UnreservedId}
use Rattle.cedar_names.specs.Definitions.{among, same_name, among_actions, same_action}
use Rattle.cedar_names.specs.declared.extension_table.ExtensionTable.{ExtensionTable}
use Rattle.cedar_names.proofs.Defined.{equal_names}
use Rattle.schema_json.specs.declared.entity_type.EntityType.{EntityType}
use Rattle.schema_json.specs.declared.entity_type.EntityTypeKind.{EntityTypeKind}
use Rattle.schema_json.specs.declared.entity_type.EntityTypeKind.TheVariants.{Standard, Enum}
use Rattle.schema_json.specs.declared.fragment.Fragment.{Fragment}
use Rattle.schema_json_walk.specs.Parts.{Part, parent}
use Rattle.schema_json_walk.specs.Walk.{each_value, of_parents, of_kind, of_entity, of_common, of_action, of_entry}
use Rattle.schema_resolve_definitions.specs.Declarations.{name_of, declared, declared_name}
use Rattle.schema_resolve_definitions.specs.Declarations.{entities_in, actions_in, action_type}
use Rattle.schema_resolve_definitions.specs.Defined.{defined}
use Rattle.schema_resolve_definitions.specs.Tests.{Tests, tests_of}
use Rattle.schema_resolve_targets.specs.Qualified.{in_namespace, type_in_namespace}
use Rattle.schema_resolve_targets.specs.Targets.{target, action_target, is_action}
use Rattle.schema_build_hierarchy.specs.Ancestors.{AreParentsDeclared}
use Rattle.schema_build_hierarchy.specs.Declarations.{entity_name, entity_in, entities_of, declared_entities}
use Rattle.schema_build_hierarchy.specs.Declarations.{action_key, action_in, actions_of, declared_actions}
use Rattle.schema_build_hierarchy.specs.Parents.{entity_parents, target_in, written_parents}
use Rattle.schema_build_hierarchy.specs.Parents.{action_parents, action_target_in}
use Rattle.schema_build_hierarchy.specs.Rows.{undeclared_part, undeclared_uses}
use Rattle.schema_build_hierarchy.proofs.Once.{contains_cases}

-- the key of an action
abbrev Key : Type 0
Key = List (List ℕ) × List ℕ

-- what one of them gives is given by all
pub flat_contains : {A B : Type 0} (g : A → List B) (xs : List A) (x : A) (y : B) → Contains xs x → Contains (g x) y
    → Contains (flat_map g xs) y
flat_contains g [] x y c d = absurd (omega (arith, c.1))
flat_contains g (k ∷ xs) x y c d = elim (contains_cases k xs x c) [
  | inl here ↦ Contains-append_left (g k) (flat_map g xs) y (subst (λ z. Contains (g z) y) (sym here) d)
  | inr there ↦ Contains-append_right (g k) (flat_map g xs) y (flat_contains g xs x y there d)
]

pub held_some : {A : Type 0} (o : Option A) (x : A) → Contains (option_to_list o) x → o ≡ Some x
held_some None x c = absurd (omega (arith, c.1))
held_some (Some y) x c = elim (contains_cases y [] x c) [
  | inl same ↦ ap Some same
  | inr none ↦ absurd (omega (arith, none.1))
]

given_here : {A B : Type 0} (f : A → B) (o : Option A) (b : B) → Contains (option_to_list (option_map f o)) b
    → (a : A) × (o ≡ Some a) × (f a ≡ b)
given_here f o b c = seen_of f o b (held_some (option_map f o) b c)

pub among_held : (names : List (List (List ℕ))) (n : List (List ℕ)) → among names n ≡ true → Contains names n
among_held names n there =
    let found = Any-from_list_any (same_name n) names there in
    subst (Contains names) (sym (equal_names n found.1 found.4)) (found.0, found.2, found.3)

pub name_at : (ns : Option Name) (e : UnreservedId × EntityType RawName)
    → components_of (declared_name ns e.0.id) ≡ entity_name (entity_in ns e)
name_at None e = refl
name_at (Some n) e = refl

module _ {G : named.Ghosts RawName} (f : Fragment RawName G) where
  entity_held : (b : List (List ℕ)) → Contains (declared f).entities b
      → Contains (map entity_name (declared_entities f)) b
  entity_held b c =
      let ds = declared_entities f in
      let (e, ce, cb) = contains_flat (λ e. entities_in e.0 e.1) f.0 b c in
      let (x, cx, same) = contains_unmap (λ x. components_of (declared_name e.0 x.0.id)) e.1.entity_types b cb in
      let d = entity_in e.0 x in
      let here = contains_map (entity_in e.0) e.1.entity_types x cx in
      let there : Contains ds d = flat_contains entities_of f.0 e d ce here in
      subst (Contains (map entity_name ds)) (sym (name_at e.0 x) ∙ same) (contains_map entity_name ds d there)

  action_held : (b : Key) → Contains (declared f).actions b → Contains (map action_key (declared_actions f)) b
  action_held b c =
      let ds = declared_actions f in
      let (e, ce, cb) = contains_flat (λ e. actions_in e.0 e.1) f.0 b c in
      let (x, cx, same) =
      contains_unmap (λ x. let k : Key = (components_of (action_type e.0), x.0) in k) e.1.actions b cb in
      let d = action_in e.0 x in
      let there : Contains ds d = flat_contains actions_of f.0 e d ce (contains_map (action_in e.0) e.1.actions x cx) in
      subst (Contains (map action_key ds)) same (contains_map action_key ds d there)

  module _ (t : Tests) where
    abbrev own : List (List ℕ) → Bool
    own n = (tests_of (declared f)).is_entity n

    abbrev give : Option Name → Part RawName → List InternalName
    give ns part = undeclared_part t (tests_of (declared f)) ns part

    -- what a parent means is a use, unless it is declared
    use_of : (ns : Option Name) (p : RawName) (n : InternalName)
        → target t (in_namespace (name_of ns) Entity p) ≡ Some n
        → own (components_of n) ≡ false → Contains (give ns (parent p)) n
    use_of ns p n is off =
        subst (λ o. Contains (filter (λ m. not (own (components_of m))) (option_to_list o)) n) (sym is)
        (subst (λ b. Contains (cond (not b) (n ∷ []) []) n) (sym off) (0, omega arith, refl))

    in_kind : (ns : Option Name) (kind : EntityTypeKind RawName) (p : RawName) (n : InternalName)
        → Contains (written_parents kind) p → Contains (give ns (parent p)) n → Contains (of_kind (give ns) kind) n
    in_kind ns (Standard s) p n cp cn = Contains-append_left (of_parents (give ns) s.member_of_types) _ n
        (flat_contains (λ name. give ns (parent name)) s.member_of_types p n cp cn)
    in_kind ns (Enum choices) p n cp cn = absurd (omega (arith, cp.1))

    used : (e : _) (x : UnreservedId × EntityType RawName) (p : RawName) (n : InternalName) → Contains f.0 e
        → Contains e.1.entity_types x → Contains (written_parents x.1.kind) p → Contains (give e.0 (parent p)) n
        → Contains (undeclared_uses t f) n
    used e x p n ce cx cp cn =
        let visit = give e.0 in
        let kind : Contains (of_kind visit x.1.kind) n = in_kind e.0 x.1.kind p n cp cn in
        let one : Contains (of_entity visit x.1) n = Contains-append_right _ (of_kind visit x.1.kind) n kind in
        let types = each_value (of_entity visit) e.1.entity_types in
        let all : Contains types n = flat_contains (λ y. of_entity visit y.1) e.1.entity_types x n cx one in
        let items = Contains-append_left types (each_value (of_action visit) e.1.actions) n all in
        let commons = each_value (of_common visit) e.1.common_types in
        flat_contains (of_entry give) f.0 e n ce (Contains-append_right commons _ n items)

    -- where each use is declared, each parent of an entity type is
    pub entities_declared : ((n : InternalName) → Contains (undeclared_uses t f) n → ⊥)
        → AreParentsDeclared entity_name (entity_parents t) (declared_entities f)
    entities_declared none a b (d, cd, known, cb) =
        let (e, ce, de) = contains_flat entities_of f.0 d cd in
        let (x, cx, same) = contains_unmap (entity_in e.0) e.1.entity_types d de in
        let mine : Contains (entity_parents t (entity_in e.0 x)) b =
        subst (λ z. Contains (entity_parents t z) b) (sym same) cb in
        let means = λ (p : RawName). option_to_list (target_in t e.0 Entity p) in
        let (p, cp, tb) = contains_flat means (written_parents x.1.kind) b mine in
        let (n, is, names) = given_here components_of (target t (in_namespace (name_of e.0) Entity p)) b tb in
        elim (cases_Bool (own (components_of n))) [
          | inl hit ↦
              let held = among_held (declared f).entities (components_of n) hit in
              entity_held b (subst (Contains (declared f).entities) names held)
          | inr miss ↦ absurd (none n (used e x p n ce cx cp (use_of e.0 p n is miss)))
        ]

pub same_actions : (a b : Key) → same_action a b ≡ true → a ≡ b
same_actions a b h =
    let both = and_parts (same_name a.0 b.0) (bytes_eq (encode_utf8_all a.1) (encode_utf8_all b.1)) h in
    let types : a.0 ≡ b.0 = equal_names a.0 b.0 both.0 in
    let bytes = (bytes_eq-Decides (encode_utf8_all a.1) (encode_utf8_all b.1)).0 both.1 in
    let ids : a.1 ≡ b.1 = encodes_same a.1 b.1 bytes in
    λ i. (types i, ids i)

pub among_actions_held : (actions : List Key) (a : Key) → among_actions actions a ≡ true → Contains actions a
among_actions_held actions a there =
    let found = Any-from_list_any (same_action a) actions there in
    subst (Contains actions) (sym (same_actions a found.1 found.4)) (found.0, found.2, found.3)

module _ {G : named.Ghosts RawName} (f : Fragment RawName G) (table : ExtensionTable)
    (t : Tests) (is : t ≡ tests_of (defined f table)) where
  target_held : (id : List ℕ) (names : List InternalName) (n : InternalName) → find (is_action t id) names ≡ Some n
      → Contains (declared f).actions (components_of n, id)
  target_held id names n found =
      let free = not (has_cedar (components_of n)) in
      let both = and_parts free (t.is_action (components_of n, id)) (found_passes (is_action t id) names n found) in
      let there = ap (λ (s : Tests). s.is_action (components_of n, id)) (sym is) ∙ both.1 in
      among_actions_held (declared f).actions (components_of n, id) there

  -- what a parent of an action means is declared
  pub actions_declared : AreParentsDeclared action_key (action_parents t) (declared_actions f)
  actions_declared a b (d, cd, known, cb) =
      let (u, cu, tb) = contains_flat (λ u. option_to_list (action_target_in t d.ns u.id u.ty)) _ b cb in
      let given = type_in_namespace (name_of d.ns) u.id u.ty in
      let key = λ (n : InternalName). let k : Key = (components_of n, u.id) in k in
      let (n, met, same) = given_here key (action_target t u.id (Some given)) b tb in
      action_held f b (subst (Contains (declared f).actions) same (target_held u.id given.possibilities n met))
