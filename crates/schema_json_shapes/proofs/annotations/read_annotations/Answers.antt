use Rattle.std.proofs.Common.{refl, sym, subst}
use Rattle.std.specs.Prelude.{codes}
use Rattle.serde_json.specs.View.{view}
use Rattle.schema_json.specs.Orders.{annotation_key_cmp}
use Rattle.schema_json_shapes.specs.Walk.{annotation, annotations, demands, key_demands, AllMet}
use Rattle.schema_json_shapes.specs.Said.{IsMap, IsAnyId, IsAnnotation}
use Rattle.schema_json_shapes.specs.Reads.{IsDemandFault}
use Rattle.schema_json_shapes.proofs.Demands.{refused}
use Rattle.schema_json_shapes.proofs.Objects.{OfEntries, each_asked, entries_asked}
use Rattle.schema_json_shapes.proofs.annotations.read_annotations.Goals as goal

of_entries : OfEntries annotations (codes "annotations")
of_entries = record {
  only = record { on_null = refl; on_flag = refl; on_number = refl; on_string = λ s. refl; on_array = refl };
  items = refl;
  own = each_asked (key_demands annotations) annotation;
}

pub returns-in_err-notes : goal.returns-in_err-notes
returns-in_err-notes c =
    let d = view c.args.value.now in
    let e = c.in_err-notes.field-0.0 in
    refused c.from_residual.result e (demands annotations (codes "annotations") d) _ c.from_residual.ensures.1
    (subst (λ ds. IsDemandFault ds e) (entries_asked annotations (codes "annotations") of_entries d) c.in_err-notes.ensures)

pub returns : goal.returns
returns c =
    let d = view c.args.value.now in (
      subst AllMet (entries_asked annotations (codes "annotations") of_entries d) c.in_ok-notes.ensures.0,
      subst (IsMap annotation_key_cmp IsAnyId IsAnnotation d) (sym c.in_ok-from_map.ensures) c.in_ok-notes.ensures.1,
    )
