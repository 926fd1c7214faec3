use Rattle.std.proofs.Common.{◌≡◌, [], map, take}
use Rattle.schema_resolve_targets.specs.ReferenceParts.{by_reference}
use Rattle.schema_resolve.specs.Renamed.{renamed_uid}
use Rattle.std.specs.List.{flat_map}
use Rattle.schema_json_walk.specs.Walk.{of_uid}
use Rattle.schema_resolve.proofs.rename_items.rename_uids.Given as goal

abbrev pub invariant-loop-uid : goal.invariant-loop-uid
invariant-loop-uid g l = record {
  out : l.out.items ≡ map (renamed_uid (g.R.Renamer.becomes l.renamer) (g.R.Renamer.action_becomes l.renamer))
      (take l.uid-index l.uids);
  defined : flat_map (of_uid (by_reference (g.R.Renamer.untargeted l.renamer))) (take l.uid-index l.uids) ≡ [];
}
