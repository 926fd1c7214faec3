use Rattle.std.proofs.Common.{subst, MatchOption}
use Rattle.std.specs.Prelude.{map, codes}
use Rattle.std.specs.String.{string_bytes}
use Rattle.cedar_names.specs.declared.extension_table.ExtensionTable.{ExtensionTable}
use Rattle.cedar_schema_core.specs.Commands.{AsksForTable}
use Rattle.schema_inclusion.proofs.run.IncludeProgram.of_words.Goals as goal

pub returns-in-Some : goal.returns-in-Some
returns-in-Some c =
    let asks = AsksForTable (codes "include") (codes "include-with") (map string_bytes c.args.words.now) in
    subst (λ found. MatchOption found ((t : ExtensionTable) → asks t → ⊥) asks) c.in-Some.is c.in_ok-table.ensures

pub returns-in-None : goal.returns-in-None
returns-in-None c = λ command.
    let asks = AsksForTable (codes "include") (codes "include-with") (map string_bytes c.args.words.now) in
    subst (λ found. MatchOption found ((t : ExtensionTable) → asks t → ⊥) asks) c.in-None.is c.in_ok-table.ensures
    command.table
