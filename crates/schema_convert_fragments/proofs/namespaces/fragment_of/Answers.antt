use Rattle.std.proofs.lemmas.Grind.{common_steps}
use Rattle.std.proofs.Common.{refl, sym, ◌∙◌, arith}
use Rattle.std.specs.List.{filter_map}
use Rattle.std.specs.Vec.Iter.{into_iter_items}
use Rattle.schema_convert_fragments.specs.Fragments.{namespace_entry}
use Rattle.schema_convert_fragments.proofs.Definitions.{fragment_made}
use Rattle.schema_convert_fragments.proofs.Lists.{none_gathered}
use Rattle.schema_convert_fragments.proofs.namespaces.fragment_of.Goals as goal

pub returns : goal.returns
returns c =
    let all = c.args.namespaces.items in
    fragment_made all c.loop-namespace.entries.items _ c.fragment_from.ensures
    (none_gathered (filter_map namespace_entry) c.loop-namespace.entries.items
    (into_iter_items c.loop-namespace.namespace-iterator) (filter_map namespace_entry all) c.loop-namespace.invariant
    (sym c.loop-namespace.namespace-iterator.rest.ok.0 ∙ c.in-None.ensures.steps.0) refl)

pub loop-namespace-preserved : goal.loop-namespace-preserved
loop-namespace-preserved c = grind (arith, common_steps)
