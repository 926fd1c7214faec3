use Rattle.std.proofs.Common.{◌∙◌}
use Rattle.schema_convert_faults.proofs.Sorted.{common_made}
use Rattle.schema_convert_faults.proofs.shadowing.push_common.Goals as goal

pub returns : goal.returns
returns c =
    common_made c.args.table.now _ _ _ c.args.common.now c.args.entities.now _
    (c.copied-entity.ensures ∙ c.get.ensures) c.in_ok-push_entity.ensures c.in_ok-push_builtin.ensures
