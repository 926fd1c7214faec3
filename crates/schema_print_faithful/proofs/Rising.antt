-- Keys that rise, by the order of what is seen of them.
use Rattle.std.proofs.Common.{◌≡◌, List, map, Option, Some, None, refl, subst}
use Rattle.std.specs.List.Sorted.{IsStrictlySortedBy}
use Rattle.std.specs.Map.{keys_of}
use Rattle.std.specs.Option.{option_cmp}
use Rattle.std.specs.declared.cmp.Ordering.{Ordering}
use Rattle.cedar_data.proofs.Orders.{rises_seen}
use Rattle.cedar_data.proofs.Lists.{map-map}
use Rattle.cedar_identifiers.specs.declared.name.Name.{Name}
use Rattle.cedar_identifiers.proofs.Ordered.{ids_cmp}
use Rattle.cedar_names.specs.Orders.{id_text_order, ids_of, names_in_order}
use Rattle.laws_translate.specs.FragmentsSay.{namespace_order, name_components}

module _ {K A J : Type 0} (R : K → K → Ordering) (S : J → J → Ordering) (see : K → J)
    (same : (a b : K) → R a b ≡ S (see a) (see b)) where
  -- keys that rise by an order rise by another that agrees with it
  pub rise_as : (es : List (K × A)) → IsStrictlySortedBy R (keys_of es)
      → IsStrictlySortedBy S (map (λ e. see e.0) es)
  rise_as es h = subst (IsStrictlySortedBy S) (map-map see (λ (e : K × A). e.0) es)
      (rises_seen see R S same (keys_of es) h)

-- the order of the names of namespaces
abbrev pub order_of_names : Option Name → Option Name → Ordering
order_of_names = option_cmp (λ (x y : Name). names_in_order x.name y.name)

pub as_namespaces : (a b : Option Name) → order_of_names a b ≡ namespace_order (name_components a) (name_components b)
as_namespaces None None = refl
as_namespaces None (Some b) = refl
as_namespaces (Some a) None = refl
as_namespaces (Some a) (Some b) = ids_cmp id_text_order (λ x y. refl) (ids_of a.name) (ids_of b.name)
