-- The orders of texts, of names and of namespaces tell apart what differs.
use Rattle.std.proofs.Common.{◌≡◌, Some, None, refl, ap, true≢false, is_lt, is_gt}
use Rattle.std.specs.declared.cmp.Ordering.TheVariants.{Less, Equal, Greater}
use Rattle.std.specs.Cmp.{IsTotalOrder}
use Rattle.std.specs.Cmp.Lexicographic.{lists_total, options_total}
use Rattle.std.proofs.lemmas.Map.Lookups.{CmpEqualImpliesEq}
use Rattle.cedar_data.proofs.Orders.{text_total, texts_exact}
use Rattle.laws_translate.specs.FragmentsSay.{namespace_order}

pub namespace_total : IsTotalOrder namespace_order
namespace_total = options_total (lists_total text_total)

less_equal : {X : Type 0} → Less ≡ Equal → X
less_equal h = absurd (true≢false (ap is_lt h))

greater_equal : {X : Type 0} → Greater ≡ Equal → X
greater_equal h = absurd (true≢false (ap is_gt h))

pub namespace_exact : CmpEqualImpliesEq namespace_order
namespace_exact None None h = refl
namespace_exact None (Some b) h = less_equal h
namespace_exact (Some a) None h = greater_equal h
namespace_exact (Some a) (Some b) h = ap Some (texts_exact a b h)
