use Rattle.std.proofs.lemmas.Grind.{common_steps}
use Rattle.std.proofs.Common.{◌++◌, List, Option, ap, ◌∙◌, arith}
use Rattle.std.specs.List.{flat_map}
use Rattle.std.specs.Vec.Iter.{into_iter_items}
use Rattle.schema_syntax_tree.specs.declared.annotated.Annotated.{Annotated}
use Rattle.schema_syntax_tree.specs.declared.namespace.Namespace.{Namespace}
use Rattle.schema_syntax_tree.specs.declared.path.Path.{Path}
use Rattle.schema_convert_errors.specs.declared.warnings.SchemaWarning.{SchemaWarning}
use Rattle.schema_convert_faults.specs.Shadowings.{declared_warnings}
use Rattle.schema_convert_faults.proofs.Sorted.{of_namespaces}
use Rattle.schema_convert_faults.proofs.shadowing.warnings_of.Goals as goal

pub loop-namespace-init : goal.loop-namespace-init
loop-namespace-init c =
    let table = c.args.table.now in
    let sorted = c.into_iter-namespace-iterator.ensures.into_iter_gives.0
    ∙ c.into_vec-namespace-items.ensures.entries in
    ap (λ (w : List SchemaWarning). w ++ of_namespaces table (into_iter_items c.into_iter-namespace-iterator.result))
    c.new-warnings.ensures.items ∙ (ap (of_namespaces table) sorted
    ∙ ap (flat_map (λ (n : Option Path × Annotated Namespace). declared_warnings table n.1.item.decls))
    c.in_ok-sorted.ensures)

pub loop-namespace-preserved : goal.loop-namespace-preserved
loop-namespace-preserved c = grind (arith, common_steps)

pub returns : goal.returns
returns c = grind (arith, common_steps)
