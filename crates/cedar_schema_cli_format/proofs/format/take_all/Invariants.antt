use Rattle.std.proofs.Common.{map, take, string_bytes}
use Rattle.cedar_files.specs.Files.{Keeps}
use Rattle.cedar_schema_cli_format.specs.Formatting.{TakesAll}
use Rattle.cedar_schema_cli_format.proofs.format.take_all.Given as goal

abbrev pub invariant-loop-name : goal.invariant-loop-name
invariant-loop-name g l = record {
  same : Keeps (g.F.Files.files l.initial.files) (g.F.Files.files l.files);
  takes : TakesAll l.options (g.F.Files.files l.initial.files) l.standard
      (map string_bytes (take l.name-index l.names)) l.run;
}
