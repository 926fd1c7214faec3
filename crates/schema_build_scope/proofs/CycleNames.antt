-- The least common type that reaches itself, by its name.
use Rattle.std.proofs.Common.{◌≡◌, ℕ, ◌≤◌, false, List, Contains, Some, refl, sym, ap, ◌∙◌, subst, arith, inl, inr}
use Rattle.std.specs.Prelude.{slice_get}
use Rattle.std.specs.declared.cmp.Ordering.{Ordering}
use Rattle.std.specs.declared.cmp.Ordering.TheVariants.{Less, Equal, Greater}
use Rattle.std.specs.Map.{keys_of}
use Rattle.std.specs.Option.{option_map}
use Rattle.std.specs.Ordering.{is_lt, ordering_reverse}
use Rattle.std.proofs.lemmas.Bool.{cases_eq}
use Rattle.std.proofs.lemmas.List.Elements.{All-contains, All-contains_itself}
use Rattle.std.proofs.lemmas.Option.{slice_get-map, slice_get_within, get_or_from_slice_get, same_Some}
use Rattle.std.specs.Cmp.Lexicographic.{slice_cmp}
use Rattle.cedar_data.specs.Entries.{on_value}
use Rattle.cedar_data.specs.Text.{text_cmp}
use Rattle.cedar_identifiers.specs.Names.{components_of}
use Rattle.cedar_identifiers.specs.declared.internal_name.InternalName.{InternalName}
use Rattle.cedar_identifiers.specs.declared.name_text.NameText as named
use Rattle.cedar_identifiers.specs.declared.raw_name.RawName.{RawName}
use Rattle.cedar_names.specs.Orders.{names_in_order, names_total}
use Rattle.cedar_names.specs.declared.extension_table.ExtensionTable.{ExtensionTable}
use Rattle.schema_json.specs.declared.fragment.Fragment.{Fragment}
use Rattle.schema_build_errors.specs.declared.schema_error.SchemaError.{SchemaError}
use Rattle.schema_build_errors.specs.declared.schema_error.SchemaError.TheVariants.{CycleInCommonTypeReferences}
use Rattle.schema_build_expand.specs.Scope.{Scope, DeclaredType}
use Rattle.schema_build_checks.specs.Rows.{Never}
use Rattle.schema_build_checks.proofs.Names.{names_by_components}
use Rattle.schema_build_scope.specs.Commons.{TypeAt, declared_commons, commons_in_order}
use Rattle.schema_build_scope.specs.CycleRow.{ReachesItself, HasCommonCycle}
use Rattle.schema_build_scope.specs.FragmentScope.{declaration, fragment_scope}
use Rattle.schema_build_scope.specs.LentCommons.{lent_type, lent_commons, NamesCycleAt}
use Rattle.schema_build_scope.specs.LentRounds.{IsLeastRoundRank, NoneReachesItself}
use Rattle.schema_build_scope.specs.TypeReaches.{RefersToCommon, TypeReaches}
use Rattle.schema_build_scope.specs.declared.lent_commons.LentType.{LentType}
use Rattle.schema_build_scope.proofs.Apart.{key_below, same_not_below, seen_at}
use Rattle.schema_build_scope.proofs.Entries.{map_keys, map_sorted}
use Rattle.schema_build_scope.proofs.Paths.{first_step}

not_lt : (x y : InternalName) → (names_in_order x y ≡ Less → ⊥) → is_lt (names_in_order x y) ≡ false
not_lt x y other = go (names_in_order x y) refl
  where
    go : (o : Ordering) → names_in_order x y ≡ o → is_lt o ≡ false
    go Less e = absurd (other e)
    go Equal e = refl
    go Greater e = refl

module _ {G : named.Ghosts RawName} (f : Fragment RawName G) (table : ExtensionTable) where
  abbrev s : Scope RawName
  s = fragment_scope f table

  pub never_cycle : NoneReachesItself s → Never (HasCommonCycle f table)
  never_cycle none (CycleInCommonTypeReferences e) h = none (components_of e.ty) h.round
  never_cycle none _ h = h

  module _ (entries : List (InternalName × LentType)) (known : lent_commons entries ≡ commons_in_order f) where
    lent_at_rank : (k : ℕ) (e : InternalName × LentType) → slice_get entries k ≡ Some e
        → slice_get (commons_in_order f) k ≡ Some (on_value lent_type e)
    lent_at_rank k e at =
        ap (λ l. slice_get l k) (sym known) ∙ slice_get-map (on_value lent_type) entries k
        ∙ ap (option_map (on_value lent_type)) at

    declared_key : (k : ℕ) (e : InternalName × TypeAt) → slice_get (commons_in_order f) k ≡ Some e
        → Contains (keys_of (declared_commons f)) e.0
    declared_key k e at =
        let inside : slice_get (keys_of (commons_in_order f)) k ≡ Some e.0 =
        slice_get-map (λ (x : InternalName × TypeAt). x.0) (commons_in_order f) k ∙ ap (option_map (λ x. x.0)) at in
        All-contains (Contains (keys_of (declared_commons f))) (keys_of (commons_in_order f)) e.0
        (map_keys names_in_order (Contains (keys_of (declared_commons f))) (declared_commons f)
        (All-contains_itself (keys_of (declared_commons f)))) (
          k,
          slice_get_within (keys_of (commons_in_order f)) k e.0 inside,
          get_or_from_slice_get
              (keys_of (commons_in_order f)) k e.0 e.0 inside,
        )

    not_below : (v : ℕ) (e : InternalName × TypeAt) → slice_get (commons_in_order f) v ≡ Some e
        → ((u : ℕ) (d : DeclaredType RawName) → slice_get s.commons u ≡ Some d → TypeReaches s d.name d.name → v ≤ u)
        → (other : InternalName) → ReachesItself s other → names_in_order other e.0 ≡ Less → ⊥
    not_below v e at least other round less =
        let first = (first_step (RefersToCommon s) (components_of other) (components_of other) round).1 in
        let d = first.0 in
        let u = first.2.0 in
        let at_u : slice_get s.commons u ≡ Some d = first.2.1 in
        let is : d.name ≡ components_of other = first.2.2 in
        let x = seen_at declaration (commons_in_order f) u d at_u in
        let same : components_of x.0.0 ≡ components_of other = ap (λ (y : DeclaredType RawName). y.name) x.2 ∙ is in
        let low : v ≤ u = least u d at_u (subst (λ n. TypeReaches s n n) (sym is) round) in
        let less_key : names_in_order x.0.0 e.0 ≡ Less =
        names_by_components x.0.0 e.0 ∙ ap (λ c. slice_cmp text_cmp c (components_of e.0)) same
        ∙ sym (names_by_components other e.0) ∙ less in
        let up = map_sorted names_in_order names_total (declared_commons f) in
        elim (cases_eq v u) [
          | inl eq ↦
              let both : e ≡ x.0 = same_Some e x.0 (sym at ∙ ap (slice_get (commons_in_order f)) eq ∙ x.1) in
              same_not_below x.0.0 e.0 (ap (λ (y : InternalName × TypeAt). components_of y.0) (sym both)) less_key
          | inr apart ↦
              let above : names_in_order e.0 x.0.0
              ≡ Less = key_below (commons_in_order f) up v u e x.0 at x.1 (omega arith) in
              let h : Less ≡ ordering_reverse Less = sym less_key ∙ names_total.antisymm x.0.0 e.0
              ∙ ap ordering_reverse above in
              cc
        ]

    pub named_cycle : (v : ℕ) → IsLeastRoundRank s v → (e : SchemaError) → NamesCycleAt entries v e
        → HasCommonCycle f table e
    named_cycle v r (CycleInCommonTypeReferences e) (c, at) =
        let lent = lent_at_rank v (e.ty, c) at in
        let is : r.ty ≡ declaration (on_value lent_type (e.ty, c)) =
        same_Some r.ty _ (sym r.here ∙ slice_get-map declaration (commons_in_order f) v
        ∙ ap (option_map declaration) lent) in
        record {
          declared = declared_key v (on_value lent_type (e.ty, c)) lent;
          round = subst (λ n. TypeReaches s n n) (ap (λ (d : DeclaredType RawName). d.name) is) r.round;
          least = λ other round. not_lt other e.ty
              (not_below v (on_value lent_type (e.ty, c)) lent r.least other round);
        }
    named_cycle v r _ h = absurd h
