use Rattle.std.proofs.Common.{sym, ◌∙◌, arith}
use Rattle.schema_inclusion_explain.proofs.Walks.{rises_last}
use Rattle.schema_inclusion_explain.proofs.misfits.rises.Goals as goal

pub returns : goal.returns
returns c =
    sym (c.loop-at.invariant.rest ∙ rises_last c.args.entries.now c.loop-at.at (omega arith))
