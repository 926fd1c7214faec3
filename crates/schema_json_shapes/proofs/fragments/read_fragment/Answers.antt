use Rattle.std.proofs.Common.{[], refl, subst}
use Rattle.serde_json.specs.View.{view}
use Rattle.schema_json.proofs.Namespaces.{names_order}
use Rattle.schema_json_shapes.specs.Walk.{fragment, namespace, demands, key_demands, AllMet}
use Rattle.schema_json_shapes.specs.Shapes.{IsNamespace}
use Rattle.schema_json_shapes.specs.Reads.{IsDemandFault}
use Rattle.schema_json_shapes.proofs.Demands.{refused}
use Rattle.schema_json_shapes.proofs.NamespaceOrder.{map_ordered}
use Rattle.schema_json_shapes.proofs.Objects.{OfEntries, each_asked, entries_asked}
use Rattle.schema_json_shapes.proofs.fragments.read_fragment.Goals as goal

of_entries : OfEntries fragment []
of_entries = record {
  only = record { on_null = refl; on_flag = refl; on_number = refl; on_string = λ s. refl; on_array = refl };
  items = refl;
  own = each_asked (key_demands fragment) namespace;
}

pub returns-in_err-namespaces : goal.returns-in_err-namespaces
returns-in_err-namespaces c =
    let d = view c.args.value.now in
    let e = c.in_err-namespaces.field-0.0 in
    refused c.from_residual.result e (demands fragment [] d) _ c.from_residual.ensures.1
    (subst (λ ds. IsDemandFault ds e) (entries_asked fragment [] of_entries d) c.in_err-namespaces.ensures)

pub returns : goal.returns
returns c =
    let d = view c.args.value.now in (
      subst AllMet (entries_asked fragment [] of_entries d) c.in_ok-namespaces.ensures.0,
      map_ordered _ names_order IsNamespace d c.in_ok-namespaces.namespaces c.in_ok-namespaces.ensures.1,
    )
