use Rattle.std.proofs.Common.{◌≡◌, drop}
use Rattle.std.specs.List.{list_all}
use Rattle.schema_print.specs.PrintableTests.{passes_block}
use Rattle.schema_print.proofs.printable_items.are_printable_namespaces.Given as goal

abbrev pub invariant-loop-name : goal.invariant-loop-name
invariant-loop-name l =
    list_all (λ e. passes_block e.0 e.1) (drop l.name-index l.entries)
    ≡ list_all (λ e. passes_block e.0 e.1) l.entries
