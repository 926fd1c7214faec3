use Rattle.schema_build_items.specs.ActionKinds.{tests_alone}
use Rattle.schema_build_items.proofs.Targets.{all_just}
use Rattle.schema_build_items.proofs.meant.entities_meant.Goals as goal

pub returns : goal.returns
returns c =
    all_just (tests_alone c.args.names.now.fragment c.args.names.now.table) c.args.ns.now c.args.written.now
    c.in_ok-found.found.items c.each_once.result.items c.in_ok-found.ensures c.each_once.ensures.sorted
    c.each_once.ensures.kept
    c.each_once.ensures.whole
