use Rattle.std.proofs.Common.{◌+◌, take}
use Rattle.std.specs.List.{AllZip}
use Rattle.schema_build_expand.proofs.Depths.{depth, variant_depth, entries_depth}
use Rattle.schema_build_expand.specs.Targets.{EntryExpandsTo}
use Rattle.schema_build_expand.proofs.expand.+expand.Given as goal

abbrev pub decreases-expand_type : goal.decreases-expand_type
decreases-expand_type g l = depth g.row.N.Denot l.ty.now

abbrev pub decreases-expand_variant : goal.decreases-expand_variant
decreases-expand_variant g l = variant_depth g.row.N.Denot l.shape.now

abbrev pub decreases-expand_entries : goal.decreases-expand_entries
decreases-expand_entries g l = entries_depth g.row.N.Denot l.entries.now + 1

abbrev pub invariant-expand_entries-loop-name : goal.invariant-expand_entries-loop-name
invariant-expand_entries-loop-name g l =
    AllZip (EntryExpandsTo (g.R.Meanings.scope l.names) (g.R.Meanings.place l.names))
    (take l.name-index l.entries) l.attrs.items
