use Rattle.std.proofs.Common.{◌≡◌, map, take, Some}
use Rattle.cedar_identifiers.specs.Names.{components_of}
use Rattle.cedar_identifiers.specs.declared.reference_type.ReferenceType.TheVariants.{Entity}
use Rattle.schema_build_hierarchy.specs.Parents.{target_in}
use Rattle.schema_build_items.specs.ActionKinds.{tests_alone}
use Rattle.schema_build_items.proofs.meant.each_meant.Given as goal

abbrev pub invariant-loop-name : goal.invariant-loop-name
invariant-loop-name l =
    map (λ n. Some (components_of n.name)) l.found.items
    ≡ map (target_in (tests_alone l.names.fragment l.names.table) l.ns Entity) (take l.name-index l.written)
