use Rattle.std.proofs.Common.{◌≡◌, [], map, take}
use Rattle.cedar_data.specs.Entries.{on_value}
use Rattle.schema_json_walk.specs.Walk.{each_value}
use Rattle.schema_resolve.proofs.rename_namespaces.rename_entries.Given as goal

abbrev pub invariant-loop-id : goal.invariant-loop-id
invariant-loop-id g l = record {
  out : l.out.items
      ≡ map (on_value (g.T.Renamed.output (g.R.Renamer.becomes l.renamer) (g.R.Renamer.action_becomes l.renamer)))
      (take l.id-index l.id-items);
  defined : each_value (g.T.Renamed.undefined (g.R.Renamer.untargeted l.renamer)) (take l.id-index l.id-items) ≡ [];
}
