-- The orders of what the maps of a fragment go by are total.
use Rattle.std.specs.Prelude.{◌≡◌, ℕ, List, Option, Some, None, option_map, refl}
use Rattle.std.proofs.Common.{subst}
use Rattle.std.specs.Cmp.{IsTotalOrder, on_total}
use Rattle.std.specs.Cmp.Lexicographic.{slice_cmp, options_total}
use Rattle.std.specs.Option.{option_cmp}
use Rattle.cedar_data.specs.Text.{text_cmp}
use Rattle.cedar_data.proofs.Orders.{text_total, texts_total}
use Rattle.cedar_identifiers.specs.Names.{components_of}
use Rattle.cedar_identifiers.specs.declared.any_id.AnyId.{AnyId}
use Rattle.cedar_identifiers.specs.declared.name.Name.{Name}
use Rattle.cedar_identifiers.specs.declared.unreserved_id.UnreservedId.{UnreservedId}
use Rattle.schema_json.specs.Orders.{unreserved_cmp, common_cmp, namespace_cmp, annotation_key_cmp}
use Rattle.schema_json.specs.declared.common_type.CommonTypeId.{CommonTypeId}

pub unreserved_total : IsTotalOrder unreserved_cmp
unreserved_total = on_total (λ (u : UnreservedId). u.id.text) text_total

pub common_total : IsTotalOrder common_cmp
common_total = on_total (λ (c : CommonTypeId). c.id) unreserved_total

pub annotation_keys_total : IsTotalOrder annotation_key_cmp
annotation_keys_total = on_total (λ (key : AnyId). key.text) text_total

-- the components of a namespace's name, which may be absent
abbrev pub namespace_components : Option Name → Option (List (List ℕ))
namespace_components ns = option_map (λ n. components_of n.name) ns

-- namespaces go by their components
pub by_components : (a b : Option Name)
    → option_cmp (slice_cmp text_cmp) (namespace_components a) (namespace_components b) ≡ namespace_cmp a b
by_components None None = refl
by_components None (Some b) = refl
by_components (Some a) None = refl
by_components (Some a) (Some b) = refl

pub namespaces_total : IsTotalOrder namespace_cmp
namespaces_total = subst IsTotalOrder (λ i a b. by_components a b i)
    (on_total namespace_components (options_total texts_total))
