use Rattle.std.proofs.Common.{◌≡◌, map, drop, string_bytes}
use Rattle.cedar_schema_cli_inputs.specs.Inputs.{names_standard}
use Rattle.cedar_schema_cli_inputs.proofs.inputs.names_standard.Given as goal

abbrev pub invariant-loop-name : goal.invariant-loop-name
invariant-loop-name l = names_standard (map string_bytes l.names)
    ≡ names_standard (map string_bytes (drop l.name-index l.names))
