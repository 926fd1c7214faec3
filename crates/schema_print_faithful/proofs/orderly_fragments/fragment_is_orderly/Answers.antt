use Rattle.std.proofs.Common.{◌∙◌, subst, take_all, All}
use Rattle.std.proofs.lemmas.List.Elements.{All-more, recursion_from_All}
use Rattle.laws_translate.specs.FragmentsSay.{namespace_order, name_components}
use Rattle.schema_print_faithful.proofs.OrderlyItems.{IsOrderlyBlock}
use Rattle.schema_print_faithful.proofs.Rising.{rise_as, order_of_names, as_namespaces}
use Rattle.schema_print_faithful.proofs.orderly_fragments.fragment_is_orderly.Goals as goal

pub loop-namespace-preserved : goal.loop-namespace-preserved
loop-namespace-preserved c =
    All-more IsOrderlyBlock c.as_slice-namespace-items.result.now c.loop-namespace.namespace-index
    c.loop-namespace-item.result c.loop-namespace-test.true c.loop-namespace.invariant
    (subst IsOrderlyBlock c.loop-namespace-item.is c.namespace_is_orderly.ensures)

pub returns : goal.returns
returns c =
    let f = c.args.fragment.now in
    let all = take_all c.loop-namespace.namespace-index c.as_slice-namespace-items.result.now
    c.loop-namespace-test.false ∙ c.as_slice-namespace-items.ensures.entries in
    record {
      names_rise = rise_as order_of_names namespace_order name_components as_namespaces f.0
          c.as_slice-namespace-items.ensures.sorted;
      each = recursion_from_All IsOrderlyBlock f.0 (subst (All IsOrderlyBlock) all c.loop-namespace.invariant);
    }
