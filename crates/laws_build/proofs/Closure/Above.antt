-- Ancestors are closed and declared.
use Rattle.std.proofs.Common.{◌≡◌, ℕ, true, false, List, [], Contains, Option, Some, None, codes, refl, sym, ap, ◌∙◌}
use Rattle.std.proofs.Common.{subst, inl, inr, true≢false}
use Rattle.std.specs.Cmp.{on_total}
use Rattle.std.specs.Ordering.{is_lt}
use Rattle.std.specs.Prelude.{find}
use Rattle.std.specs.Option.{option_map, option_to_list}
use Rattle.std.proofs.lemmas.Bool.{and_parts}
use Rattle.cedar_data.proofs.Lists.{contains_flat, found_passes}
use Rattle.cedar_identifiers.specs.Names.{components_of, has_cedar}
use Rattle.cedar_identifiers.specs.declared.internal_name.InternalName.{InternalName}
use Rattle.cedar_identifiers.specs.declared.name.Name.{Name}
use Rattle.cedar_identifiers.specs.declared.name_text.NameText as named
use Rattle.cedar_identifiers.specs.declared.raw_name.RawName.{RawName}
use Rattle.cedar_identifiers.specs.declared.reference_type.ReferenceType.TheVariants.{Entity}
use Rattle.cedar_names.specs.Meaning.{EntityMeaning, SchemaMeaning}
use Rattle.cedar_names.specs.Orders.{names_total}
use Rattle.cedar_names.specs.declared.entity_uid.EntityUID.{EntityUID}
use Rattle.cedar_names.specs.declared.extension_table.ExtensionTable.{ExtensionTable}
use Rattle.schema_json.specs.declared.action_type.ActionType.{ActionType}
use Rattle.schema_json.specs.declared.entity_type.EntityTypeKind.{EntityTypeKind}
use Rattle.schema_json.specs.declared.entity_type.EntityTypeKind.TheVariants.{Standard, Enum}
use Rattle.schema_json.specs.declared.fragment.Fragment.{Fragment}
use Rattle.schema_resolve_definitions.specs.Declarations.{name_of, declared}
use Rattle.schema_resolve_definitions.specs.Defined.{defined}
use Rattle.schema_resolve_definitions.specs.Tests.{Tests, tests_of}
use Rattle.schema_resolve_targets.specs.Qualified.{type_in_namespace}
use Rattle.schema_resolve_targets.specs.Targets.{action_target, is_action}
use Rattle.schema_build_graph.specs.Paths.{Reaches}
use Rattle.schema_build_graph.proofs.Paths.{reaches_through}
use Rattle.schema_build_errors.specs.declared.schema_error.SchemaError.TheVariants as error
use Rattle.schema_build_checks.specs.DeclaredAt.{ActionAt, actions_at_in_order}
use Rattle.schema_build_checks.specs.Rows.{Never}
use Rattle.schema_build_checks.proofs.Names.{names_tied}
use Rattle.schema_build_scope.specs.FragmentScope.{fragment_scope}
use Rattle.schema_build_hierarchy.specs.Declarations.{Declared, DeclaredEntity, entity_name, action_key}
use Rattle.schema_build_hierarchy.specs.Declarations.{declared_entities, declared_actions}
use Rattle.schema_build_hierarchy.specs.Parents.{target_in, action_target_in, written_parents, parents_in}
use Rattle.schema_build_hierarchy.specs.Parents.{entity_parents, IsParent, IsAncestor, IsActionParent}
use Rattle.schema_build_hierarchy.specs.Parents.{IsActionAncestor}
use Rattle.schema_build_hierarchy.specs.Rows.{undeclared_part, undeclared_uses, is_enum, IsLeastAmong, IsEnumAbove}
use Rattle.schema_build_hierarchy.specs.Rows.{IsExternalUnderEnum, HasActionCycle, HasExternalUnderEnum}
use Rattle.schema_build_hierarchy.proofs.Exact.{actions_total}
use Rattle.schema_build_hierarchy.proofs.Once.{contains_cases}
use Rattle.schema_build_hierarchy.proofs.ParentsDeclared.{among_actions_held, held_some}
use Rattle.schema_build_items.specs.ActionKinds.{tests_alone}
use Rattle.schema_build_items.specs.Kinds.{IsKindMeaning}
use Rattle.schema_build.specs.Meaning.{kind_meaning, FragmentMeaning}
use Rattle.laws_build.specs.Closure.Closed.{IsEntityUnder, IsActionUnder, IsTransitive, HasClosedAncestors}
use Rattle.laws_build.specs.Closure.Known.{meant_entities, meant_actions}
use Rattle.laws_build.proofs.Closure.Chains.{reaches_to}
use Rattle.laws_build.proofs.Closure.Declared.{entity_declared, entity_stands, entity_full, action_declared}
use Rattle.laws_build.proofs.Closure.Declared.{action_stands, action_full, action_held}
use Rattle.laws_build.proofs.Closure.Least.{none_passes}
use Rattle.laws_build.proofs.Closure.Lists.{has_none, one_member}
use Rattle.laws_build.proofs.Closure.Undeclared.{target_named}
use Rattle.laws_build.proofs.Closure.Walked.{parent_none, entity_none}
use Rattle.laws_build.proofs.Closure.Words.{free_behind}

module _ {G : named.Ghosts RawName} (f : Fragment RawName G) (table : ExtensionTable) (m : SchemaMeaning)
    (mean : FragmentMeaning f table m) where
  abbrev Key : Type 0
  Key = List (List ℕ) × List ℕ

  -- no two declared entity types have one name
  entity_once : (a b : DeclaredEntity) → Contains (declared_entities f) a → Contains (declared_entities f) b
      → entity_name a ≡ entity_name b → a ≡ b
  entity_once a b ca cb e =
      one_member (on_total (λ (d : DeclaredEntity). d.name) names_total) mean.entities.declared
      mean.entities.rising a b
      ((mean.entities.same a).0 ca) ((mean.entities.same b).0 cb) (names_tied a.name b.name e)

  -- declared names are not reserved
  pub entity_free : (d : DeclaredEntity) → Contains (declared_entities f) d → has_cedar (entity_name d) ≡ false
  entity_free d c =
      let s = entity_stands f d c in
      ap has_cedar (entity_full f d s) ∙ free_behind s.entry.0 s.item.0.id.text s.item.0.unreserved

  action_free : (d : Declared ActionAt (ActionType RawName G)) → Contains (declared_actions f) d
      → has_cedar (action_key d).0 ≡ false
  action_free d c =
      let s = action_stands f d c in
      ap has_cedar (action_full f d s) ∙ free_behind s.entry.0 (codes "Action") refl

  -- what a parent of an entity type means is declared
  module _ (none : undeclared_uses (tests_of (defined f table)) f ≡ []) where
    parent_named : (a b : List (List ℕ)) → IsParent (tests_alone f table) (declared_entities f) a b
        → Contains (meant_entities m) b
    parent_named a b (d, cd, known, cb) =
        let t = tests_of (defined f table) in
        let s = entity_stands f d cd in
        let (p, cp, tb) = contains_flat (λ (p : RawName). option_to_list (target_in t d.ns Entity p))
        (written_parents d.ty.kind) b cb in
        let places : s.entry.0 ≡ d.ns = ap (λ (z : DeclaredEntity). z.ns) s.is in
        let written : Contains (written_parents s.item.1.kind) p =
        subst (λ k. Contains (written_parents k) p) (ap (λ (z : DeclaredEntity). z.ty.kind) (sym s.is)) cp in
        let given = undeclared_part t (tests_of (declared f)) in
        let quiet = parent_none (given s.entry.0) s.item.1 (entity_none given f none d s) p written in
        target_named f table m mean s.entry.0 p b quiet
        (ap (λ ns. target_in t ns Entity p) places ∙ held_some (target_in t d.ns Entity p) b tb)

    pub ancestor_named : (a b : List (List ℕ)) → IsAncestor (tests_alone f table) (declared_entities f) a b
        → Contains (meant_entities m) b
    ancestor_named = reaches_to (IsParent (tests_alone f table) (declared_entities f))
        (λ b. Contains (meant_entities m) b) parent_named

  -- what a parent of an action means is declared
  target_held : (id : List ℕ) (names : List InternalName) (n : InternalName)
      → find (is_action (tests_of (defined f table)) id) names ≡ Some n
      → Contains (declared f).actions (components_of n, id)
  target_held id names n found =
      let both = and_parts _ _ (found_passes (is_action (tests_of (defined f table)) id) names n found) in
      among_actions_held (declared f).actions (components_of n, id) both.1

  action_parent_named : (a b : Key) → IsActionParent (tests_alone f table) (declared_actions f) a b
      → Contains (meant_actions m) b
  action_parent_named a b (d, cd, known, cb) =
      let t = tests_of (defined f table) in
      let (u, cu, tb) = contains_flat (λ u. option_to_list (action_target_in t d.ns u.id u.ty)) _ b cb in
      let given = type_in_namespace (name_of d.ns) u.id u.ty in
      let (n, met, same) = given_key u.id (action_target t u.id (Some given)) b tb in
      subst (Contains (meant_actions m)) same
      (action_held f table m mean (components_of n, u.id) (target_held u.id given.possibilities n met))
    where
      given_key : (id : List ℕ) (o : Option InternalName) (b : Key)
          → Contains (option_to_list (option_map (λ n. let k : Key = (components_of n, id) in k) o)) b
          → (n : InternalName) × (o ≡ Some n) × ((components_of n, id) ≡ b)
      given_key id None b c = has_none b c
      given_key id (Some n) b c = elim (contains_cases (components_of n, id) [] b c) [
        | inl same ↦ (n, refl, same)
        | inr nothing ↦ has_none b nothing
      ]

  pub action_ancestor_named : (a b : Key) → IsActionAncestor (tests_alone f table) (declared_actions f) a b
      → Contains (meant_actions m) b
  action_ancestor_named = reaches_to (IsActionParent (tests_alone f table) (declared_actions f))
      (λ b. Contains (meant_actions m) b) action_parent_named

  -- an enum has no ancestors
  pub enum_rootless : (d : DeclaredEntity) → Contains (declared_entities f) d → is_enum d.ty.kind ≡ true
      → (b : List (List ℕ)) → IsAncestor (tests_alone f table) (declared_entities f) (entity_name d) b → ⊥
  enum_rootless d c e b (first, rest, chain) =
      let (x, cx, same, cp) = chain.0 in
      let is : x ≡ d = entity_once x d cx c same in
      none_written d.ns d.ty.kind e first
      (subst (λ z. Contains (entity_parents (tests_alone f table) z) first) is cp)
    where
      none_written : (ns : Option Name) (kind : EntityTypeKind RawName) → is_enum kind ≡ true
          → (b : List (List ℕ)) → Contains (parents_in (tests_alone f table) ns (written_parents kind)) b → ⊥
      none_written ns (Standard s) e b c = true≢false (sym e)
      none_written ns (Enum choices) e b c = has_none b c

  -- ancestors of ancestors
  entities_through : IsTransitive (IsEntityUnder m)
  entities_through a b c (e, ce, na, cb) (h, ch, nb, cc') =
      let (d, cd, is) = entity_declared f table m mean e ce in
      let (x, cx, are) = entity_declared f table m mean h ch in
      let E = IsParent (tests_alone f table) (declared_entities f) in
      let up : Reaches E (entity_name d) b = (is.ancestors.just b).0 cb in
      let on : Reaches E b c =
      subst (λ n. Reaches E n c) (sym are.name ∙ nb) ((are.ancestors.just c).0 cc') in
      (e, ce, na, (is.ancestors.just c).1 (reaches_through E (entity_name d) b c up on))

  actions_through : IsTransitive (IsActionUnder m)
  actions_through a b c (e, ce, na, cb) (h, ch, nb, cc') =
      let (d, cd, is) = action_declared f table m mean e ce in
      let (x, cx, are) = action_declared f table m mean h ch in
      let E = IsActionParent (tests_alone f table) (declared_actions f) in
      let up : Reaches E (action_key d) b = (is.ancestors.just b).0 cb in
      let on : Reaches E b c = subst (λ n. Reaches E n c) (sym are.key ∙ nb) ((are.ancestors.just c).0 cc') in
      (e, ce, na, (is.ancestors.just c).1 (reaches_through E (action_key d) b c up on))

  -- no action is one of its own ancestors
  acyclic : Never (HasActionCycle (tests_of (defined f table)) (declared_actions f)) → (k : Key)
      → IsActionUnder m k k → ⊥
  acyclic never k (a, ca, same, ck) =
      let (d, cd, is) = action_declared f table m mean a ca in
      let key : action_key d ≡ k = sym is.key ∙ same in
      let round = subst (IsActionAncestor (tests_alone f table) (declared_actions f) (action_key d)) (sym key)
      ((is.ancestors.just k).0 ck) in
      none_passes actions_total (λ c. c.name) IsRound (declared_actions f) told d cd round
    where
      IsRound : Declared ActionAt (ActionType RawName G) → Type 0
      IsRound c = IsActionAncestor (tests_alone f table) (declared_actions f) (action_key c) (action_key c)

      told : (x : Declared ActionAt (ActionType RawName G))
          → IsLeastAmong (λ a b. is_lt (actions_at_in_order a b)) (λ c. c.name) IsRound (declared_actions f) x → ⊥
      told x least =
          let uid : EntityUID = record {
            ty = record { name = x.name.ty; unreserved = action_free x least.among };
            eid = record { 0 = x.name.id };
            loc = x.name.loc;
          } in
          never (error.CycleInActionHierarchy (record { uid = uid })) (x, (_, refl, refl), least)

  -- no enum is above an external entity type
  enums_apart : Never (HasExternalUnderEnum (tests_of (defined f table)) (declared_entities f))
      → (e above : EntityMeaning) → Contains m.entities e → Contains m.entities above → e.is_external ≡ true
      → Contains e.ancestors above.name → above.choices ≡ None
  enums_apart never e above ce ca external c =
      let (d, cd, is) = entity_declared f table m mean e ce in
      let (p, cp, are) = entity_declared f table m mean above ca in
      let up = subst (IsAncestor (tests_alone f table) (declared_entities f) (entity_name d)) are.name
      ((is.ancestors.just above.name).0 c) in
      by_kind (name_of p.ns) p.ty.kind are.kind
      (λ enum. under d cd (sym is.is_external ∙ external, (p, cp, (enum, up))))
    where
      t : Tests
      t = tests_of (defined f table)

      ds : List DeclaredEntity
      ds = declared_entities f

      by_kind : (ns : Option InternalName) (kind : EntityTypeKind RawName)
          → IsKindMeaning (fragment_scope f table) ns kind (kind_meaning above) → (is_enum kind ≡ true → ⊥)
          → above.choices ≡ None
      by_kind ns (Standard s) km none = km.2
      by_kind ns (Enum choices) km none = absurd (none refl)

      under : (d : DeclaredEntity) → Contains (declared_entities f) d → IsExternalUnderEnum t (declared_entities f) d
          → ⊥
      under d cd h = none_passes names_total (λ (c : DeclaredEntity). c.name)
          (IsExternalUnderEnum t (declared_entities f)) (declared_entities f)
          (λ x least.
          let (p, cp, above_x) = least.passes_too.1 in
          none_passes names_total (λ (c : DeclaredEntity). c.name) (IsEnumAbove t (declared_entities f) x)
          (declared_entities f)
          (λ y lowest.
          let low : Name = record { name = x.name; unreserved = entity_free x least.among } in
          let bare : InternalName = record { first = y.name.first; others = y.name.others; loc = None } in
          let high : Name = record { name = bare; unreserved = entity_free y lowest.among } in
          never (error.ExternalWithEnumAncestor (record { external_type = low; enum_type = high }))
          (x, y, (_, refl, refl, refl, refl), least, lowest))
          p cp above_x)
          d cd h

  pub ancestors_closed : Never (HasActionCycle (tests_of (defined f table)) (declared_actions f))
      → Never (HasExternalUnderEnum (tests_of (defined f table)) (declared_entities f)) → HasClosedAncestors m
  ancestors_closed cycle enums = record {
    entities = entities_through;
    actions = actions_through;
    no_cycle = acyclic cycle;
    no_enum = enums_apart enums;
  }
