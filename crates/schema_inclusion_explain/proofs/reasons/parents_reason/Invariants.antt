use Rattle.std.proofs.Common.{◌≡◌, drop}
use Rattle.schema_inclusion_values.specs.Seen.{parents_value}
use Rattle.schema_inclusion_check.specs.Raw.{raw_names, raw_meaning}
use Rattle.schema_inclusion_reasons.specs.FirstReason.{parents_reason}
use Rattle.schema_inclusion_explain.proofs.reasons.parents_reason.Given as goal

abbrev pub invariant-loop-ty : goal.invariant-loop-ty
invariant-loop-ty l = record {
  place : l.at ≡ l.ty-index;
  rest : parents_reason (raw_meaning l.schema.entities.now l.schema.actions.now) (raw_names l.ancestors) 0
      (parents_value l.parents)
      ≡ parents_reason (raw_meaning l.schema.entities.now l.schema.actions.now) (raw_names l.ancestors) l.at
      (parents_value (drop l.ty-index l.parents));
}
