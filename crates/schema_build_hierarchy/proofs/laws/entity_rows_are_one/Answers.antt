use Rattle.std.proofs.Common.{map}
use Rattle.schema_build_checks.proofs.Names.{names_tied}
use Rattle.schema_build_hierarchy.specs.Declarations.{entity_name}
use Rattle.schema_build_hierarchy.specs.Entries.{entity_of}
use Rattle.schema_build_hierarchy.specs.Parents.{IsAncestor}
use Rattle.schema_build_hierarchy.proofs.EnumAbove.{by_name}
use Rattle.schema_build_hierarchy.proofs.Cycles.{names_apart}
use Rattle.schema_build_hierarchy.proofs.KnownByMembers.{one_row}
use Rattle.schema_build_hierarchy.proofs.laws.entity_rows_are_one.Goals as goal

pub returns : goal.returns
returns g c =
    let entries = c.args.entries.now in
    one_row (IsAncestor g.g.0 g.g.1) (map (λ e. entity_name (entity_of e)) entries)
    (names_apart by_name entity_of entity_name (λ a b e. names_tied a.name b.name e) entries c.requires.rising)
