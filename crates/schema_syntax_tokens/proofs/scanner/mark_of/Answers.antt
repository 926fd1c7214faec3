use Rattle.std.proofs.Common.{◌≡◌, ◌<◌, length, get_or, Some, None, sym, ◌∙◌, arith}
use Rattle.std.proofs.lemmas.Bool.{iff_false}
use Rattle.std.proofs.lemmas.Bool.Decides.{nat_tests}
use Rattle.schema_syntax_tokens.specs.Forms.{single_mark}
use Rattle.schema_syntax_tokens.proofs.Longest.{mark_of_colons, mark_of_byte, mark_of_none}
use Rattle.schema_syntax_tokens.proofs.scanner.mark_of.Goals as goal

pub returns-then-starts_colons : goal.returns-then-starts_colons
returns-then-starts_colons c = mark_of_colons c.args.rest.now (c.starts_colons.ensures.0 c.if-starts_colons.true)

pub returns-in-None : goal.returns-in-None
returns-in-None c =
    let some : 0 < length c.args.rest.now = grind (arith, nat_tests) in
    let mark : single_mark (get_or c.args.rest.now 0 0) ≡ None = sym c.single_mark.ensures ∙ c.in-None.is in
    mark_of_none c.args.rest.now c.requires some mark

pub returns-in-Some : goal.returns-in-Some
returns-in-Some c =
    let some : 0 < length c.args.rest.now = grind (arith, nat_tests) in
    let mark : single_mark (get_or c.args.rest.now 0 0) ≡ Some c.in-Some.kind = sym c.single_mark.ensures
    ∙ c.in-Some.is in
    mark_of_byte c.args.rest.now c.in-Some.kind c.requires
    (iff_false c.starts_colons.ensures c.if-starts_colons.false) some mark
