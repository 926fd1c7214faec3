use Rattle.std.proofs.Common.{◌≡◌}
use Rattle.std.specs.List.{list_any}
use Rattle.cedar_identifiers.specs.Words.{is_cedar}
use Rattle.schema_syntax_tree.specs.Paths.{ids_left}
use Rattle.schema_convert_faults.proofs.faults.is_reserved_path.Given as goal

abbrev pub invariant-loop-id : goal.invariant-loop-id
invariant-loop-id l = list_any (λ id. is_cedar id.text) (ids_left l.id-iterator)
    ≡ list_any (λ id. is_cedar id.text) l.fn.path.ids
