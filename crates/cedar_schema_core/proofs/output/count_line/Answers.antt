use Rattle.cedar_schema_core.proofs.Lines.{count_bytes}
use Rattle.cedar_schema_core.proofs.output.count_line.Goals as goal

pub returns : goal.returns
returns c = count_bytes _ _ _ _ _ _ c.in_ok-push_text.ensures.ok c.in_ok-types.ensures.text c.in_ok-counted.ensures
    c.in_ok-actions.ensures.text c.in_ok-types.ensures.ascii c.in_ok-actions.ensures.ascii
