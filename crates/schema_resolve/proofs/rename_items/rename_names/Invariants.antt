use Rattle.std.proofs.Common.{◌≡◌, [], map, take}
use Rattle.cedar_identifiers.specs.declared.reference_type.ReferenceType.TheVariants.{Entity}
use Rattle.std.specs.List.{flat_map}
use Rattle.schema_resolve.proofs.rename_items.rename_names.Given as goal

abbrev pub invariant-loop-name : goal.invariant-loop-name
invariant-loop-name g l = record {
  out : l.out.items ≡ map ((g.R.Renamer.becomes l.renamer).name Entity) (take l.name-index l.names);
  defined : flat_map ((g.R.Renamer.untargeted l.renamer).types Entity) (take l.name-index l.names) ≡ [];
}
