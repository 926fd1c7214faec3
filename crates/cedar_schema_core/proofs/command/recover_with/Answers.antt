use Rattle.std.proofs.Common.{refl, subst, MatchOption}
use Rattle.std.specs.Prelude.{map}
use Rattle.std.specs.String.{string_bytes}
use Rattle.cedar_names.specs.declared.extension_table.ExtensionTable.{ExtensionTable}
use Rattle.cedar_schema_core.specs.Commands.{IsTableInOrder}
use Rattle.cedar_schema_core.proofs.command.recover_with.Goals as goal

pub returns-in-Some : goal.returns-in-Some
returns-in-Some c =
    let names = map string_bytes c.args.names.now in (
      c.in-Some.table,
      refl,
      subst (λ found. MatchOption found ((t : ExtensionTable) → IsTableInOrder names t → ⊥) (IsTableInOrder names))
          c.in-Some.is c.in_ok-table.ensures,
    )
