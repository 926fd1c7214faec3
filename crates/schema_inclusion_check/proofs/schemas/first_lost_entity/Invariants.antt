use Rattle.std.proofs.Common.{◌≡◌, ◌≤◌, drop, length, map}
use Rattle.cedar_names.specs.Meaning.{SchemaMeaning}
use Rattle.cedar_names.specs.Orders.{names_in_order}
use Rattle.schema_inclusion_values.specs.Lost.{first_of_each, lost_entity}
use Rattle.schema_inclusion_check.specs.Below.{AreAllBelow}
use Rattle.schema_inclusion_check.specs.Raw.{raw_entity}
use Rattle.schema_inclusion_check.specs.Told.{IsTold}
use Rattle.schema_inclusion_check.proofs.schemas.first_lost_entity.Given as goal

abbrev pub invariant-loop-entry : goal.invariant-loop-entry
invariant-loop-entry l = record {
  within : l.next ≤ length l.new;
  below : AreAllBelow (λ a b. names_in_order a.name b.name) (λ e. e.0) l.new l.old l.next l.entry-index;
  rest : (m n : SchemaMeaning) → IsTold l.ids.rows m n → map raw_entity l.new ≡ n.entities
      → first_of_each (lost_entity m n) (map raw_entity l.old)
      ≡ first_of_each (lost_entity m n) (map raw_entity (drop l.entry-index l.old));
}
