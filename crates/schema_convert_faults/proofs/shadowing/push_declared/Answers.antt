use Rattle.std.proofs.Common.{ap, map, sym, ◌∙◌, ◌≡◌, [], arith}
use Rattle.std.proofs.lemmas.Bool.{eqb-true}
use Rattle.std.proofs.lemmas.List.{nil_from_length}
use Rattle.schema_convert_faults.specs.NamesIn.{common_names_in}
use Rattle.schema_convert_faults.proofs.Taken.{told_alone}
use Rattle.schema_convert_faults.specs.Shadowings.{by_id}
use Rattle.schema_convert_faults.proofs.Sorted.{declared_made}
use Rattle.schema_convert_faults.proofs.shadowing.push_declared.Goals as goal

pub returns : goal.returns
returns c =
    declared_made c.args.table.now _ _ _ c.in_ok-commons.commons c.in_ok-entities.entities _ _
    c.in_ok-push_commons.ensures c.in_ok-push_entities.ensures
    (c.in_ok-commons.ensures ∙ ap by_id c.in_ok-common_names.ensures)
    (c.in_ok-entities.ensures ∙ ap by_id c.in_ok-entity_names.ensures)

pub returns-then-is_empty : goal.returns-then-is_empty
returns-then-is_empty c =
    let zero = eqb-true _ 0 (sym c.is_empty.ensures ∙ c.if-is_empty.true) in
    let items : c.in_ok-common_names.common_names.items ≡ [] = nil_from_length _ (omega (arith, zero)) in
    let none : common_names_in c.args.decls.now ≡ [] =
    sym c.in_ok-common_names.ensures ∙ ap (map (λ x. x.now)) items in
    told_alone c.args.table.now c.push_taken.result c.args.decls.now c.args.warnings.now.items
    c.push_taken.new.warnings.items none c.push_taken.ensures
