use Rattle.std.proofs.Common.{map, take}
use Rattle.cedar_schema_cli_format.specs.Formatting.{replacement_of}
use Rattle.cedar_schema_cli_format.specs.Replacing.{AreReplaced}
use Rattle.cedar_schema_cli_format.proofs.changes.replace_all.Given as goal

abbrev pub invariant-loop-at : goal.invariant-loop-at
invariant-loop-at g l = AreReplaced (g.F.Files.files l.initial.files) (map replacement_of (take l.at l.changes))
    (g.F.Files.files l.files)
