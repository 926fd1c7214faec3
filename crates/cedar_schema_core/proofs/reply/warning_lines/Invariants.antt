use Rattle.std.proofs.Common.{◌≡◌, take}
use Rattle.std.specs.List.{flat_map}
use Rattle.cedar_schema_core.specs.Plan.{warning_line}
use Rattle.cedar_schema_core.proofs.reply.warning_lines.Given as goal

abbrev pub invariant-loop-warning : goal.invariant-loop-warning
invariant-loop-warning l = l.lines ≡ flat_map warning_line (take l.warning-index l.warnings)
