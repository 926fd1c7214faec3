-- How uses of entity types that are not declared are gathered, one part after another.
use Rattle.std.specs.Prelude.{◌≡◌, ◌++◌, List}
use Rattle.cedar_identifiers.specs.declared.internal_name.InternalName.{InternalName}
use Rattle.schema_build_hierarchy.specs.declared.use_finder.UseFinder.{UseFinder}

-- these are found besides, behind what was found
pub record Finds (found : List InternalName) (before after : UseFinder) : Type 0 where
  pub defs : after.defs.now ≡ before.defs.now
  pub own : after.own ≡ before.own
  pub uses : after.uses.items ≡ before.uses.items ++ found
