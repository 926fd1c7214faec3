use Rattle.std.proofs.Common.{◌≡◌, ◌≤◌, drop, length}
use Rattle.cedar_names.specs.Meaning.{SchemaMeaning}
use Rattle.schema_inclusion_values.specs.Lost.{lost_parent}
use Rattle.schema_inclusion_check.specs.Raw.{raw_names}
use Rattle.schema_inclusion_check.specs.Told.{IsTold}
use Rattle.schema_inclusion_check.proofs.entity_values.lost_parent.Given as goal

abbrev pub invariant-loop-shared : goal.invariant-loop-shared
invariant-loop-shared l = record {
  within : l.next ≤ length l.new;
  rest : (m n : SchemaMeaning) → IsTold l.ids.rows m n
      → lost_parent m n (raw_names l.old) (raw_names l.new)
      ≡ lost_parent m n (raw_names (drop l.shared-index l.old)) (raw_names l.new);
}
