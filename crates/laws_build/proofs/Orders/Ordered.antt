-- A fragment that says what is written is in order.
use Rattle.std.proofs.Common.{◌≡◌, ℕ, cond, List, [], ◌∷◌, map, Contains, Option, Some, None, Ordering, refl, sym}
use Rattle.std.proofs.Common.{ap, ◌∙◌, subst, inl, inr, arith}
use Rattle.std.specs.BTreeMap.{is_at}
use Rattle.std.specs.Cmp.{IsTotalOrder, tied_itself}
use Rattle.std.specs.List.Sorted.{IsStrictlySortedBy}
use Rattle.std.specs.Map.{keys_of, lookup}
use Rattle.std.specs.Option.{option_cmp}
use Rattle.std.specs.Ordering.{is_eq, ordering_reverse}
use Rattle.std.specs.declared.cmp.Ordering.TheVariants.{Less}
use Rattle.std.proofs.lemmas.List.Elements.{All-contains, All-from_recursion}
use Rattle.std.proofs.lemmas.Map.Keys.{sorted_head, sorted_tail}
use Rattle.cedar_data.specs.Text.{text_cmp}
use Rattle.cedar_data.proofs.Lists.{contains_map, map-map, all_of}
use Rattle.cedar_identifiers.specs.declared.name.Name.{Name}
use Rattle.cedar_identifiers.specs.declared.raw_name.RawName.{RawName}
use Rattle.cedar_identifiers.specs.declared.unreserved_id.UnreservedId.{UnreservedId}
use Rattle.cedar_names.specs.Orders.{names_in_order}
use Rattle.schema_json.specs.declared.common_type.CommonTypeId.{CommonTypeId}
use Rattle.schema_json.specs.declared.fragment.Fragment.{Fragment}
use Rattle.schema_json.specs.declared.fragment.NamespaceDefinition.{NamespaceDefinition}
use Rattle.schema_json.specs.AsWritten.{as_written}
use Rattle.laws_written.specs.Written.{WrittenItem}
use Rattle.laws_translate.specs.Entries.{FoundSays}
use Rattle.laws_translate.specs.FragmentsSay.{WrittenNamespace, NamespaceSays, namespace_order, name_components}
use Rattle.laws_translate.specs.FragmentsSay.{written_in, FragmentSays}
use Rattle.laws_translate.proofs.Orders.{namespace_total}
use Rattle.schema_build_checks.proofs.Names.{names_by_components}
use Rattle.schema_build_hierarchy.proofs.Once.{contains_cases}
use Rattle.schema_build_hierarchy.proofs.Ordered.{sorted_back}
use Rattle.schema_build.specs.FaultsTold.{IsInOrder}

-- an entry of a map is beside its name
module _ {K N V : Type 0} (order : N → N → Ordering) (total : IsTotalOrder order) (name : K → N) where
  abbrev here : N → List (K × V) → Option V
  here n es = lookup (λ k. is_at (order n) (name k)) es

  beside : (e : K × V) (es : List (K × V)) → here (name e.0) (e ∷ es) ≡ Some e.1
  beside e es = ap (λ c. cond (is_eq c) (Some e.1) (here (name e.0) es)) (tied_itself total (name e.0))

  passed : (k e : K × V) (es : List (K × V)) → order (name k.0) (name e.0) ≡ Less
      → here (name e.0) (k ∷ es) ≡ here (name e.0) es
  passed k e es l =
      ap (λ c. cond (is_eq c) (Some k.1) (here (name e.0) es))
      (total.antisymm (name e.0) (name k.0) ∙ ap ordering_reverse l)

  pub entry_found : (es : List (K × V)) → IsStrictlySortedBy order (map (λ e. name e.0) es) → (e : K × V)
      → Contains es e → here (name e.0) es ≡ Some e.1
  entry_found [] up e c = absurd (omega (arith, c.1))
  entry_found (k ∷ es) up e c = elim (contains_cases k es e c) [
    | inl same ↦ subst (λ (z : K × V). here (name z.0) (k ∷ es) ≡ Some z.1) same (beside k es)
    | inr there ↦ (
        let names = map (λ (z : K × V). name z.0) es in
        let less : order (name k.0) (name e.0) ≡ Less = All-contains (λ n. order (name k.0) n ≡ Less) names (name e.0)
        (All-from_recursion (λ n. order (name k.0) n ≡ Less) names (sorted_head order (name k.0) names up))
        (contains_map (λ (z : K × V). name z.0) es e there) in
        passed k e es less ∙ entry_found es (sorted_tail order (name k.0) names up) e there)
  ]

found_some : {V W : Type 0} (Says : V → W → Type 0) (v : V) (o : Option W) → FoundSays Says (Some v) o
    → (w : W) × Says v w
found_some Says v None h = absurd h
found_some Says v (Some w) h = (w, h)

-- keys that rise by their names
keys_rise : {K N V : Type 0} (order : N → N → Ordering) (name : K → N) (es : List (K × V))
    → IsStrictlySortedBy order (map (λ e. name e.0) es)
    → IsStrictlySortedBy (λ a b. order (name a) (name b)) (keys_of es)
keys_rise {K} {N} {V} order name es up =
    sorted_back name order (keys_of es)
    (subst (IsStrictlySortedBy order) (sym (map-map name (λ (e : K × V). e.0) es)) up)

names_order : (a b : Option Name) → namespace_order (name_components a) (name_components b)
    ≡ option_cmp (λ (x y : Name). names_in_order x.name y.name) a b
names_order None None = refl
names_order None (Some b) = refl
names_order (Some a) None = refl
names_order (Some a) (Some b) = sym (names_by_components a.name b.name)

module _ (f : Fragment RawName as_written) (w : List WrittenItem) (says : FragmentSays f w) where
  abbrev Entry : Type 0
  Entry = Option Name × NamespaceDefinition RawName as_written

  entry_says : (e : Entry) → Contains f.0 e → (n : WrittenNamespace) × NamespaceSays e.1 n
  entry_says e c =
      let q = name_components e.0 in
      found_some NamespaceSays e.1 (written_in w q)
      (subst (λ o. FoundSays NamespaceSays o (written_in w q))
      (entry_found namespace_order namespace_total name_components f.0 says.rising e c) (says.each q))

  pub in_order : IsInOrder f
  in_order = record {
    namespaces = subst (λ R. IsStrictlySortedBy R (keys_of f.0)) (λ i a b. names_order a b i)
        (keys_rise namespace_order name_components f.0 says.rising);
    commons = all_of _ f.0 (λ e c. let (n, h) = entry_says e c in
        keys_rise text_cmp (λ (id : CommonTypeId). id.id.id.text) e.1.common_types h.commons.rising);
    entities = all_of _ f.0 (λ e c. let (n, h) = entry_says e c in
        keys_rise text_cmp (λ (id : UnreservedId). id.id.text) e.1.entity_types h.entities.rising);
    actions = all_of _ f.0 (λ e c. let (n, h) = entry_says e c in
        keys_rise text_cmp (λ (id : List ℕ). id) e.1.actions h.actions.rising);
  }
