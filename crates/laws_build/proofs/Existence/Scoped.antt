-- The scope of a fragment without a fault is complete.
use Rattle.std.proofs.Common.{◌≡◌, ℕ, Bool, true, false, List, map, refl, sym, ap, ◌∙◌, subst}
use Rattle.std.proofs.Common.{Contains, inl, inr, ◌⊎◌, Option, Some, All}
use Rattle.std.specs.Prelude.{slice_get, if◌then◌else◌}
use Rattle.std.specs.Map.{keys_of, values_of}
use Rattle.std.specs.Ordering.{is_lt}
use Rattle.std.specs.Cmp.Lexicographic.{slice_cmp}
use Rattle.std.proofs.lemmas.List.Elements.{All-contains, All-contains_itself}
use Rattle.cedar_data.specs.Text.{text_cmp}
use Rattle.cedar_data.proofs.Options.{seen_of}
use Rattle.cedar_data.proofs.Lists.{contains_map, contains_unmap, contains_flat}
use Rattle.cedar_identifiers.specs.Names.{components_of}
use Rattle.cedar_identifiers.specs.declared.internal_name.InternalName.{InternalName}
use Rattle.cedar_identifiers.specs.declared.name.Name.{Name}
use Rattle.cedar_identifiers.specs.declared.name_text.NameText as named
use Rattle.cedar_identifiers.specs.declared.raw_name.RawName.{RawName}
use Rattle.cedar_identifiers.specs.declared.reference_type.ReferenceType.{ReferenceType}
use Rattle.cedar_identifiers.specs.declared.reference_type.ReferenceType.TheVariants.{Common, Entity, CommonOrEntity}
use Rattle.cedar_names.specs.Orders.{names_in_order, names_total}
use Rattle.cedar_names.specs.declared.extension_table.ExtensionTable.{ExtensionTable}
use Rattle.schema_json.specs.declared.fragment.Fragment.{Fragment}
use Rattle.schema_json.specs.declared.fragment.NamespaceDefinition.{NamespaceDefinition}
use Rattle.schema_json_walk.specs.Walk.{parts}
use Rattle.schema_resolve_definitions.specs.Declarations.{name_of}
use Rattle.schema_resolve_definitions.specs.Defined.{defined}
use Rattle.schema_resolve_definitions.specs.Tests.{Tests, tests_of}
use Rattle.schema_resolve_targets.specs.Meanings.{means, kind_there}
use Rattle.schema_resolve_targets.specs.Qualified.{in_namespace}
use Rattle.schema_resolve_targets.specs.Targets.{target}
use Rattle.schema_build_errors.specs.declared.schema_error.SchemaError.TheVariants.{CycleInCommonTypeReferences}
use Rattle.schema_build_graph.specs.Paths.{Reaches}
use Rattle.schema_build_checks.specs.Rows.{Never}
use Rattle.schema_build_checks.proofs.Names.{names_by_components}
use Rattle.schema_build_expand.specs.Scope.{Scope, DeclaredType, AreDeclaredOnce}
use Rattle.schema_build_expand.specs.Rows.{IsMeant}
use Rattle.schema_build_scope.specs.Commons.{TypeAt, full_common_entry, declared_commons, commons_in_order}
use Rattle.schema_build_scope.specs.CycleRow.{ReachesItself, HasCommonCycle, IsLeastRoundName}
use Rattle.schema_build_scope.specs.FragmentScope.{by_components, declaration, fragment_scope}
use Rattle.schema_build_scope.specs.Parts.{AreTypesMeant}
use Rattle.schema_build_scope.proofs.Apart.{declared_once, seen_at}
use Rattle.schema_build_scope.proofs.BuiltinNames.{undeclared_builtin}
use Rattle.schema_build_scope.proofs.Entries.{map_keys, map_values}
use Rattle.schema_build_scope.proofs.Found.{fragment_apart}
use Rattle.schema_build_scope.proofs.Targets.{meant_common}
use Rattle.laws_build.specs.Existence.Complete.{Refers, IsComplete, AllExpand}
use Rattle.laws_build.proofs.Existence.Decided.{Decided}
use Rattle.laws_build.proofs.Existence.Known.{Known}
use Rattle.laws_build.proofs.Existence.Reached.{leads, leads_decides}
use Rattle.laws_build.proofs.Existence.Least.{LeastOf, least_or_none}
use Rattle.laws_build.proofs.Existence.Complete.{held_at, refers_finite, all_expand}

-- whether one reaches another
decided : {P : Type 0} (b : Bool) → (b ≡ true → P) × (P → b ≡ true) → Known P
decided true d = inl (d.0 refl)
decided false d = inr (λ p. let e : false ≡ true = d.1 p in cc)

one_kind : (t : Tests) (kind : ReferenceType) (n : InternalName) → (kind_there t kind n ≡ Common) ⊎
    (kind_there t kind n ≡ Entity)
one_kind t Common n = inl refl
one_kind t Entity n = inr refl
one_kind t CommonOrEntity n = go (t.is_common (components_of n))
  where
    go : (b : Bool) → ((if b then Common else Entity) ≡ Common) ⊎ ((if b then Common else Entity) ≡ Entity)
    go true = inl refl
    go false = inr refl

module _ {G : named.Ghosts RawName} (f : Fragment RawName G) (table : ExtensionTable) where
  abbrev s : Scope RawName
  s = fragment_scope f table

  abbrev t : Tests
  t = tests_of (defined f table)

  -- what is meant, as the name that it has there
  meant_there : (ns : Option InternalName) (kind : ReferenceType) (name : RawName) (full : List (List ℕ))
      (k : ReferenceType) → s.means ns kind name ≡ Some (full, k)
      → (n : InternalName) × (means t ns kind name ≡ Some (n, k)) × (components_of n ≡ full)
      × (kind_there t kind n ≡ k)
  meant_there ns kind name full k e =
      let m = seen_of by_components (means t ns kind name) (full, k) e in
      let o = seen_of (λ (x : InternalName). let y : InternalName × ReferenceType = (x, kind_there t kind x) in y)
      (target t (in_namespace ns kind name)) m.0 m.1 in
      let here : kind_there t kind o.0 ≡ k =
      ap (λ (y : InternalName × ReferenceType). y.1) o.2
      ∙ ap (λ (y : List (List ℕ) × ReferenceType). y.1) m.2 in
      let called : components_of o.0 ≡ full =
      ap (λ (y : InternalName × ReferenceType). components_of y.0) o.2
      ∙ ap (λ (y : List (List ℕ) × ReferenceType). y.0) m.2 in (
        o.0,
        m.1 ∙ ap Some (sym o.2) ∙ ap (λ x. Some (o.0, x)) here,
        called,
        here,
      )

  -- a declared common type of the scope is declared in the fragment
  module _ (k : ℕ) (d : DeclaredType RawName) (at : slice_get s.commons k ≡ Some d) where
    entry : (e : InternalName × TypeAt) × (slice_get (commons_in_order f) k ≡ Some e) × (declaration e ≡ d)
    entry = seen_at declaration (commons_in_order f) k d at

    key_declared : Contains (keys_of (declared_commons f)) entry.0.0
    key_declared =
        All-contains (Contains (keys_of (declared_commons f))) (keys_of (commons_in_order f)) entry.0.0
        (map_keys names_in_order (Contains (keys_of (declared_commons f))) (declared_commons f)
        (All-contains_itself (keys_of (declared_commons f))))
        (contains_map (λ (x : InternalName × TypeAt). x.0) (commons_in_order f) entry.0
        (held_at (commons_in_order f) k entry.0 entry.1))

    value_declared : Contains (values_of (declared_commons f)) entry.0.1
    value_declared =
        All-contains (Contains (values_of (declared_commons f))) (values_of (commons_in_order f)) entry.0.1
        (map_values names_in_order (Contains (values_of (declared_commons f))) (declared_commons f)
        (All-contains_itself (values_of (declared_commons f))))
        (contains_map (λ (x : InternalName × TypeAt). x.1) (commons_in_order f) entry.0
        (held_at (commons_in_order f) k entry.0 entry.1))

    common_meant : AreTypesMeant f table → All (IsMeant s d.place) (parts d.ty)
    common_meant types =
        let (x, cx, vx) = contains_unmap (λ (y : InternalName × TypeAt). y.1) (declared_commons f) entry.0.1
        value_declared in
        let (n, cn, en) = contains_flat (λ (e : Option Name × NamespaceDefinition RawName G).
        map (full_common_entry e.0) e.1.common_types) f.0 x cx in
        let (c, cc', ec) = contains_unmap (full_common_entry n.0) n.1.common_types x en in
        let ready : All (IsMeant s (name_of n.0)) (parts c.1.ty) = types.commons n.0 n.1 c cn cc' in
        let there : All (IsMeant s x.1.place) (parts x.1.ty) =
        subst (λ (y : InternalName × TypeAt). All (IsMeant s y.1.place) (parts y.1.ty)) ec ready in
        let mine : All (IsMeant s entry.0.1.place) (parts entry.0.1.ty) =
        subst (λ (y : TypeAt). All (IsMeant s y.place) (parts y.ty)) vx there in
        subst (λ (y : DeclaredType RawName). All (IsMeant s y.place) (parts y.ty)) entry.2 mine

  -- a name that reaches itself is that of a declared common type
  key_of_round : (name : List (List ℕ)) → Reaches (Refers s) name name
      → (x : InternalName) × Contains (keys_of (declared_commons f)) x × (components_of x ≡ name)
  key_of_round name (first, rest, ((d, e, (k, at, is), there, m), l)) =
      let x = entry k d at in
      (x.0.0, key_declared k d at, ap (λ (y : DeclaredType RawName). y.name) x.2 ∙ is)

  round_known : (name : List (List ℕ)) → Known (Reaches (Refers s) name name)
  round_known name = decided (leads (Refers s) (refers_finite s) name name)
      (leads_decides (Refers s) (refers_finite s) name name)

  abbrev IsRound : InternalName → Type 0
  IsRound x = ReachesItself s x

  least_round : (y : InternalName) → LeastOf names_in_order names_total (λ (z : InternalName). z) IsRound
      (keys_of (declared_commons f)) y → IsLeastRoundName f table y
  least_round y least = record {
    declared = least.among;
    round = least.passes;
    least = λ other reaches.
        let (z, cz, same) = key_of_round (components_of other) reaches in
        let alike : names_in_order other y ≡ names_in_order z y =
        names_by_components other y ∙ ap (λ n. slice_cmp text_cmp n (components_of y)) (sym same)
        ∙ sym (names_by_components z y) in
        ap is_lt alike ∙ least.none_less z cz (subst (λ n. Reaches (Refers s) n n) (sym same) reaches);
  }

  -- where the row on common types that reach themselves does not hold, none does
  none_round : Never (HasCommonCycle f table) → (name : List (List ℕ)) → Reaches (Refers s) name name → ⊥
  none_round never name round =
      let (x, cx, is) = key_of_round name round in
      go (least_or_none names_in_order names_total (λ (y : InternalName). y) IsRound (keys_of (declared_commons f))
      (λ y c. round_known (components_of y))) x cx (subst (λ n. Reaches (Refers s) n n) (sym is) round)
    where
      go : ((y : InternalName) → Contains (keys_of (declared_commons f)) y → IsRound y → ⊥) ⊎
          ((y : InternalName) × LeastOf names_in_order names_total (λ (z : InternalName). z) IsRound
          (keys_of (declared_commons f)) y)
          → (x : InternalName) → Contains (keys_of (declared_commons f)) x → IsRound x → ⊥
      go (inl none) x c r = none x c r
      go (inr (y, least)) x c r = never (CycleInCommonTypeReferences (record { ty = y })) (least_round y least)

  -- the row holds, or it does not
  pub cycle_decided : Decided (HasCommonCycle f table)
  cycle_decided =
      go (least_or_none names_in_order names_total (λ (y : InternalName). y) IsRound (keys_of (declared_commons f))
      (λ y c. round_known (components_of y)))
    where
      never : ((y : InternalName) → Contains (keys_of (declared_commons f)) y → IsRound y → ⊥)
          → Never (HasCommonCycle f table)
      never none (CycleInCommonTypeReferences e) h = none e.ty h.declared h.round
      never none _ h = absurd h

      go : ((y : InternalName) → Contains (keys_of (declared_commons f)) y → IsRound y → ⊥) ⊎
          ((y : InternalName) × LeastOf names_in_order names_total (λ (z : InternalName). z) IsRound
          (keys_of (declared_commons f)) y) → Decided (HasCommonCycle f table)
      go (inl none) = inr (never none)
      go (inr (y, least)) = inl (CycleInCommonTypeReferences (record { ty = y }), least_round y least)

  pub scope_complete : AreTypesMeant f table → Never (HasCommonCycle f table) → IsComplete s
  scope_complete types never = record {
    kinds = λ ns kind name full k e.
        let m = meant_there ns kind name full k e in
        elim (one_kind t kind m.0) [
          | inl common ↦ inl (sym m.3 ∙ common)
          | inr entity ↦ inr (sym m.3 ∙ entity)
        ];
    builtins = λ ns kind name full e none.
        let m = meant_there ns kind name full Common e in
        undeclared_builtin f table full
        (subst (λ n. t.is_common n ≡ true) m.2 (meant_common t ns kind name m.0 m.1)) none;
    meant = λ k d at. common_meant k d at types;
    no_round = none_round never;
  }

  pub once : AreDeclaredOnce s
  once = declared_once s (fragment_apart f table)

  -- each type whose parts are meant stands for a type of a meaning
  pub types_expand : AreTypesMeant f table → Never (HasCommonCycle f table) → AllExpand s
  types_expand types never = all_expand s (scope_complete types never)
