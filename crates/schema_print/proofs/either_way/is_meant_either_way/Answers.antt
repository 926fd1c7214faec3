use Rattle.std.proofs.Common.{◌∙◌}
use Rattle.schema_print.specs.PrintableTests.{agrees}
use Rattle.schema_print.proofs.either_way.is_meant_either_way.Goals as goal

pub returns : goal.returns
returns c =
    c.agrees.ensures
    ∙ (λ i. agrees c.args.kind (c.is_own_common-own_common.ensures i) (c.is_own_entity-own_entity.ensures i)
    (c.is_common-common.ensures i) (c.is_entity-entity.ensures c.args.table.now i))
