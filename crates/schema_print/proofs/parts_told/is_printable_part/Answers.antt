use Rattle.std.proofs.Common.{◌≡◌, ◌↔◌, true, sym, subst}
use Rattle.schema_json_walk.specs.Visits.{part_of}
use Rattle.schema_print.specs.PrintableTests.{IsPrintablePart}
use Rattle.schema_print.proofs.Printables.{reference_told}
use Rattle.schema_print.proofs.parts_told.is_printable_part.Goals as goal

pub returns-in-TypeReference : goal.returns-in-TypeReference
returns-in-TypeReference c =
    let f = c.args.fragment.now in
    let table = c.args.table.now in
    subst (λ p. (c.is_meant_either_way.result ≡ true) ↔ IsPrintablePart f table c.args.ns.now (part_of p))
    (sym c.in-TypeReference.is)
    (reference_told f table c.args.ns.now c.in-TypeReference.kind c.in-TypeReference.name.now
    c.is_meant_either_way.result c.is_meant_either_way.ensures)
