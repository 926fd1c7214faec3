use Rattle.std.proofs.Common.{ap, sym, ◌∙◌}
use Rattle.std.proofs.lemmas.Bool.{both_ways}
use Rattle.std.specs.List.{list_all}
use Rattle.schema_print.specs.PrintableTests.{passes_block}
use Rattle.schema_print.proofs.Printables.{printable_told, blocks_pass, parts_pass}
use Rattle.schema_print.proofs.printable.is_printable.Goals as goal

pub returns-then-are_printable_namespaces : goal.returns-then-are_printable_namespaces
returns-then-are_printable_namespaces c =
    let f = c.args.fragment.now in
    let table = c.args.table.now in
    let blocks = ap (list_all (λ e. passes_block e.0 e.1)) (sym c.as_slice.ensures.entries)
    ∙ (sym c.are_printable_namespaces.ensures ∙ c.if-are_printable_namespaces.true) in (
      λ h. printable_told f table blocks (c.are_printable_parts.ensures.0 h),
      λ p. c.are_printable_parts.ensures.1 (parts_pass f table p),
    )

pub returns-else-are_printable_namespaces : goal.returns-else-are_printable_namespaces
returns-else-are_printable_namespaces c =
    let f = c.args.fragment.now in
    let table = c.args.table.now in (
      λ h. absurd (both_ways _ c.if-are_printable_namespaces.false h),
      λ p. c.are_printable_namespaces.ensures
          ∙ ap (list_all (λ e. passes_block e.0 e.1)) c.as_slice.ensures.entries ∙ blocks_pass f table p,
    )
