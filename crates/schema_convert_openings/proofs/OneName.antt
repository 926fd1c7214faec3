-- The names of namespaces in order, and which namespaces have one name.
use Rattle.std.proofs.Common.{◌≡◌}
use Rattle.std.specs.Option.{option_cmp}
use Rattle.std.specs.Cmp.{IsTotalOrder}
use Rattle.std.specs.Cmp.Lexicographic.{options_total}
use Rattle.std.proofs.lemmas.Cmp.{on_total}
use Rattle.cedar_data.proofs.Orders.{is_eq_turned}
use Rattle.cedar_names.specs.Orders.{ids_total}
use Rattle.schema_syntax_tree.specs.declared.annotated.Annotated.{Annotated}
use Rattle.schema_syntax_tree.specs.declared.namespace.Namespace.{Namespace}
use Rattle.schema_syntax_tree.specs.declared.path.Path.{Path}
use Rattle.schema_convert_openings.specs.Joined.{path_cmp, have_one_name}

-- names are in order by their ids, and no name comes first
pub names_total : IsTotalOrder (option_cmp path_cmp)
names_total = options_total (on_total (λ (p : Path). p.ids) ids_total)

pub one_name_swaps : (a b : Annotated Namespace) → have_one_name a b ≡ have_one_name b a
one_name_swaps a b = is_eq_turned names_total a.item.name b.item.name
