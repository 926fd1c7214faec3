use Rattle.std.proofs.Common.{codes, ap}
use Rattle.std.proofs.lemmas.Result.{on_ok_weaker}
use Rattle.schema_print_text.specs.Growing.{adds_nothing, then, so}
use Rattle.schema_print_text.specs.PrintedTypes.{printed_name, printed_type}
use Rattle.schema_print.specs.PrintedFragments.{paths_of_names}
use Rattle.schema_print.specs.RowsOfTexts.{names_line_text}
use Rattle.schema_print.proofs.Rows.{empty_so}
use Rattle.schema_print.proofs.Spelled.{no_principals, no_resources, both_targets}
use Rattle.schema_print.proofs.bodies.push_targets.Goals as goal

pub returns-then-is_empty : goal.returns-then-is_empty
returns-then-is_empty g c =
    let s = c.args.spec.now in
    so (adds_nothing c.args.text.now)
    (no_principals (λ n. printed_name (g.N.NameText.components n)) c.args.base s.principal_types s.resource_types
    (printed_type g.N.NameText.components s.context.0)
    (empty_so c.as_slice-principals.result.now s.principal_types c.is_empty.result _ c.as_slice-principals.ensures
    c.is_empty.ensures c.if-is_empty.true))

pub returns-then-is_empty-2 : goal.returns-then-is_empty-2
returns-then-is_empty-2 g c =
    let s = c.args.spec.now in
    so (adds_nothing c.args.text.now)
    (no_resources (λ n. printed_name (g.N.NameText.components n)) c.args.base s.principal_types s.resource_types
    (printed_type g.N.NameText.components s.context.0)
    (empty_so c.as_slice-resources.result.now s.resource_types c.is_empty-2.result _ c.as_slice-resources.ensures
    c.is_empty-2.ensures c.if-is_empty-2.true))

pub returns : goal.returns
returns g c =
    on_ok_weaker c.push-4.result (λ e.
    let names = g.N.NameText.components in
    let s = c.args.spec.now in
    so
    (then c.in_ok-push.ensures (then
    (so c.in_ok-push_names_line.ensures
    (ap (λ ns. names_line_text c.in_ok-inner.inner (codes "principal: ") (paths_of_names names ns))
    c.as_slice-principals.ensures)) (then
    (so c.in_ok-push_names_line-2.ensures
    (ap (λ ns. names_line_text c.in_ok-inner.inner (codes "resource: ") (paths_of_names names ns))
    c.as_slice-resources.ensures)) (then
    c.in_ok-push_spaces.ensures (then c.in_ok-push-2.ensures
    (then c.in_ok-push_context.ensures
    (then c.in_ok-push-3.ensures (then c.in_ok-push_spaces-2.ensures e))))))))
    (both_targets (λ n. printed_name (names n)) c.args.base c.in_ok-inner.inner s.principal_types s.resource_types
    (printed_type names s.context.0) c.in_ok-inner.ensures
    (empty_so c.as_slice-principals.result.now s.principal_types c.is_empty.result _ c.as_slice-principals.ensures
    c.is_empty.ensures c.if-is_empty.false)
    (empty_so c.as_slice-resources.result.now s.resource_types c.is_empty-2.result _ c.as_slice-resources.ensures
    c.is_empty-2.ensures c.if-is_empty-2.false))) c.push-4.ensures
