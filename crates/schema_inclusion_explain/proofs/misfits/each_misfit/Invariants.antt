use Rattle.std.proofs.Common.{◌≡◌, drop}
use Rattle.schema_inclusion_values.specs.Seen.{entries_value}
use Rattle.schema_inclusion_types.specs.Kinds.{kind_type}
use Rattle.schema_inclusion_check.specs.Raw.{raw_meaning}
use Rattle.schema_inclusion_reasons.specs.FirstMisfit.{misfit, each_misfit}
use Rattle.schema_inclusion_reasons.specs.FirstReason.{has_id}
use Rattle.schema_inclusion_explain.proofs.misfits.each_misfit.Given as goal

abbrev pub invariant-loop-name : goal.invariant-loop-name
invariant-loop-name l =
    each_misfit (misfit (has_id (raw_meaning l.schema.entities.now l.schema.actions.now)) (kind_type l.kind))
    (entries_value l.tags)
    ≡ each_misfit (misfit (has_id (raw_meaning l.schema.entities.now l.schema.actions.now)) (kind_type l.kind))
    (entries_value (drop l.name-index l.tags))
