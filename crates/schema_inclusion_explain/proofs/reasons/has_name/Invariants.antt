use Rattle.std.proofs.Common.{◌≡◌, drop}
use Rattle.std.specs.List.{list_any}
use Rattle.cedar_identifiers.specs.Names.{components_of}
use Rattle.cedar_names.specs.Definitions.{same_name}
use Rattle.schema_inclusion_check.specs.Raw.{raw_names}
use Rattle.schema_inclusion_explain.proofs.reasons.has_name.Given as goal

abbrev pub invariant-loop-other : goal.invariant-loop-other
invariant-loop-other l =
    list_any (same_name (components_of l.name.name)) (raw_names l.names)
    ≡ list_any (same_name (components_of l.name.name)) (raw_names (drop l.other-index l.names))
