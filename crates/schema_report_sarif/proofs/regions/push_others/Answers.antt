use Rattle.schema_report_sarif.specs.Sarif.{location_value}
use Rattle.schema_report_sarif.proofs.ListLemmas.{one_more}
use Rattle.schema_report_sarif.proofs.regions.push_others.Goals as goal

pub loop-place-preserved : goal.loop-place-preserved
loop-place-preserved c =
    one_more _ _ _ _ (location_value c.args.path.now) c.args.places.now c.loop-place.place-index c.place-item.result
    c.loop-place-test.true c.place-item.is c.loop-place.invariant c.in_ok-push.ensures c.in_ok-push_location.ensures
