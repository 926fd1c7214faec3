use Rattle.std.proofs.Common.{refl, ap, ◌∙◌, ◌++◌}
use Rattle.std.specs.List.{filter_map}
use Rattle.std.specs.Option.{option_to_list}
use Rattle.schema_convert_faults.specs.Faults.{name_fault}
use Rattle.schema_convert_openings.proofs.Gathered.{consed, more_at, over_at}
use Rattle.schema_convert_faults.proofs.faults.name_faults.Goals as goal

pub loop-namespace-preserved : goal.loop-namespace-preserved
loop-namespace-preserved c =
    more_at (filter_map name_fault) (λ n. option_to_list (name_fault n)) refl
    (λ x xs. consed (name_fault x) (filter_map name_fault xs)) _ _ c.args.namespaces.now
    c.loop-namespace.namespace-index c.namespace-item.result _ c.loop-namespace.invariant c.loop-namespace-test.true
    c.namespace-item.is (c.in_ok-push_fault.ensures
    ∙ ap (λ o. c.loop-namespace.faults.items ++ option_to_list o) c.in_ok-fault.ensures)

pub returns : goal.returns
returns c = over_at (filter_map name_fault) (λ n. option_to_list (name_fault n)) refl
    (λ x xs. consed (name_fault x) (filter_map name_fault xs)) _ c.args.namespaces.now
    c.loop-namespace.namespace-index _ c.loop-namespace.invariant c.loop-namespace-test.false
