use Rattle.std.proofs.Common.{◌≡◌, ◌<◌, ℕ, map, Some}
use Rattle.std.specs.Prelude.{slice_get}
use Rattle.schema_build_hierarchy.specs.Declarations.{DeclaredEntity}
use Rattle.schema_build_hierarchy.specs.Entries.{entity_of}
use Rattle.schema_build_hierarchy.specs.Rows.{IsExternalUnderEnum}
use Rattle.schema_build_hierarchy.proofs.external.check_external_types.Given as goal

abbrev pub invariant-loop-rank : goal.invariant-loop-rank
invariant-loop-rank g l = (i : ℕ) (d : DeclaredEntity) → i < l.rank → slice_get (map entity_of l.entries) i ≡ Some d
    → IsExternalUnderEnum g.g.0 g.g.1 d → ⊥
