use Rattle.std.proofs.Common.{◌<◌, length, arith}
use Rattle.std.proofs.lemmas.Bool.Decides.{nat_tests}
use Rattle.schema_syntax_parser.specs.Syntax.{IsFirstItem}
use Rattle.schema_syntax_parser.proofs.First.{first_item, first_shorter, no_mismatch}
use Rattle.schema_syntax_parser.proofs.parse.next_item.Goals as goal

pub unreachable-requires : goal.unreachable-requires
unreachable-requires c =
    let some : 0 < length c.args.tokens.now = grind (arith, nat_tests) in
    no_mismatch c.args.tokens.now c.requires.sentence some
    (rw c.in-Err-Mismatch.field-0-is at c.in-Err-Mismatch.ensures)

pub returns-in-Ok : goal.returns-in-Ok
returns-in-Ok c =
    let tokens = c.args.tokens.now in
    let some : 0 < length tokens = grind (arith, nat_tests) in
    let first : IsFirstItem tokens c.in-Ok.read.0 c.in-Ok.read.1.now =
    first_item tokens c.in-Ok.read.0 c.in-Ok.read.1.now c.requires.sentence some c.in-Ok.ensures in
    record { item = first; shorter = first_shorter tokens c.in-Ok.read.0 c.in-Ok.read.1.now first }
