use Rattle.std.proofs.Common.{◌≡◌, [], map, take}
use Rattle.schema_resolve_targets.specs.ReferenceParts.{by_reference}
use Rattle.schema_resolve.specs.Renamed.{renamed_entry}
use Rattle.std.specs.List.{flat_map}
use Rattle.schema_json_walk.specs.Walk.{of_entry}
use Rattle.schema_resolve.proofs.rename_fragments.rename_fragment.Given as goal

abbrev pub invariant-loop-ns : goal.invariant-loop-ns
invariant-loop-ns g l = record {
  out : l.out.items ≡ map (renamed_entry (g.R.FragmentRenamer.becomes_in l.renamer)
      (g.R.FragmentRenamer.action_becomes_in l.renamer)) (take l.ns-index l.ns-items);
  defined : flat_map (of_entry (λ ns. by_reference (g.R.FragmentRenamer.untargeted_in l.renamer ns)))
      (take l.ns-index l.ns-items) ≡ [];
}
