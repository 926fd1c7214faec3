use Rattle.std.proofs.Common.{map, take, string_bytes}
use Rattle.cedar_files.specs.Files.{Keeps}
use Rattle.cedar_schema_cli_check.specs.Checking.{AddsAll}
use Rattle.cedar_schema_cli_check.proofs.check.check_all.Given as goal

abbrev pub invariant-loop-name : goal.invariant-loop-name
invariant-loop-name g l = record {
  same : Keeps (g.F.Files.files l.initial.files) (g.F.Files.files l.files);
  status : AddsAll l.table (g.F.Files.files l.initial.files) l.standard (map string_bytes (take l.name-index l.names))
      l.initial.sheet l.sheet l.status;
}
