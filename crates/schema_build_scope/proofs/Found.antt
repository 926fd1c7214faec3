-- What a search among the declared common types tells.
use Rattle.std.proofs.Common.{◌≡◌, ℕ, List, get_or, map, Some, refl, sym, ap, ◌∙◌, inl, inr}
use Rattle.std.specs.Prelude.{slice_get}
use Rattle.std.specs.Option.{option_map}
use Rattle.std.specs.declared.cmp.Ordering.TheVariants.{Less, Greater}
use Rattle.std.specs.Ordering.{ordering_reverse}
use Rattle.std.proofs.lemmas.Bool.{cases_lt}
use Rattle.std.proofs.lemmas.Option.{slice_get-map, slice_get_within, get_or_from_slice_get}
use Rattle.cedar_data.specs.Entries.{on_value}
use Rattle.cedar_data.specs.Halving.{IsHit, IsGap}
use Rattle.cedar_identifiers.specs.Names.{components_of}
use Rattle.cedar_identifiers.specs.declared.internal_name.InternalName.{InternalName}
use Rattle.cedar_identifiers.specs.declared.name_text.NameText as named
use Rattle.cedar_identifiers.specs.declared.raw_name.RawName.{RawName}
use Rattle.cedar_names.specs.Orders.{names_in_order, names_total}
use Rattle.cedar_names.specs.declared.extension_table.ExtensionTable.{ExtensionTable}
use Rattle.schema_json.specs.declared.fragment.Fragment.{Fragment}
use Rattle.schema_build_expand.specs.Scope.{DeclaredType, IsRanked, IsUndeclared}
use Rattle.schema_build_expand.proofs.Linked.{at_some}
use Rattle.schema_build_checks.proofs.Names.{names_exact}
use Rattle.schema_build_scope.specs.Commons.{TypeAt, declared_commons, commons_in_order}
use Rattle.schema_build_scope.specs.FragmentScope.{declaration, fragment_scope}
use Rattle.schema_build_scope.proofs.Apart.{RanksApart, seen_at, same_not_below, entries_apart}
use Rattle.schema_build_scope.proofs.Entries.{map_sorted}

module _ {G : named.Ghosts RawName} (f : Fragment RawName G) (table : ExtensionTable) where
  -- no two declared common types have one name
  pub fragment_apart : RanksApart (fragment_scope f table)
  fragment_apart =
      entries_apart (fragment_scope f table) (commons_in_order f) refl
      (map_sorted names_in_order names_total (declared_commons f))

  module _ {V : Type 0} (h : V → TypeAt) (entries : List (InternalName × V))
      (known : map (on_value h) entries ≡ commons_in_order f) where
    -- the declaration of a rank
    pub entry_in : (k : ℕ) (e : InternalName × V) → slice_get entries k ≡ Some e
        → slice_get (fragment_scope f table).commons k ≡ Some (declaration (on_value h e))
    entry_in k e at =
        slice_get-map declaration (commons_in_order f) k
        ∙ ap (option_map declaration)
        (ap (λ l. slice_get l k) (sym known) ∙ slice_get-map (on_value h) entries k ∙ ap (option_map (on_value h)) at)

    pub hit_ranked : (q : InternalName) (k : ℕ) → IsHit names_in_order q entries k
        → IsRanked (fragment_scope f table) (components_of q) k
    hit_ranked q k hit =
        let e = at_some entries k hit.in_range in
        let here : get_or entries k e.0 ≡ e.0 = get_or_from_slice_get entries k e.0 e.0 e.1 in (
          declaration (on_value h e.0),
          entry_in k e.0 e.1,
          names_exact e.0.0 q (ap (λ (x : InternalName × V). names_in_order x.0 q) (sym here) ∙ hit.equal e.0),
        )

    pub gap_undeclared : (q : InternalName) (k : ℕ) → IsGap names_in_order q entries k k
        → IsUndeclared (fragment_scope f table) (components_of q)
    gap_undeclared q k gap d (j, at_j, is) =
        let a = seen_at declaration (commons_in_order f) j d at_j in
        let b = seen_at (on_value h) entries j a.0 (ap (λ l. slice_get l j) known ∙ a.1) in
        let e = b.0 in
        let same : components_of e.0 ≡ components_of q =
        ap (λ (x : InternalName × TypeAt). components_of x.0) b.2 ∙ ap (λ (x : DeclaredType RawName). x.name) a.2
        ∙ is in
        let here : get_or entries j e ≡ e = get_or_from_slice_get entries j e e b.1 in
        let below : names_in_order (get_or entries j e).0 q ≡ Less
        → ⊥ = λ less. same_not_below e.0 q same
        (ap (λ (x : InternalName × V). names_in_order x.0 q) (sym here) ∙ less) in
        let above : names_in_order (get_or entries j e).0 q ≡ Greater
        → ⊥ = λ greater. same_not_below q e.0 (sym same)
        (names_total.antisymm q e.0 ∙ ap ordering_reverse
        (ap (λ (x : InternalName × V). names_in_order x.0 q) (sym here) ∙ greater)) in
        elim (cases_lt j k) [
          | inl lt ↦ below (gap.below j e lt)
          | inr ge ↦ above (gap.above j e ge (slice_get_within entries j e b.1))
        ]
