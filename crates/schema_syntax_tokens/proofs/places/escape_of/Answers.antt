use Rattle.std.proofs.lemmas.Grind.{common_steps}
use Rattle.std.proofs.Common.{◌≡◌, get_or, subst, arith}
use Rattle.std.proofs.lemmas.List.{take_rest}
use Rattle.schema_syntax_tokens.specs.Steps.{NoHexPair, IsBraced}
use Rattle.schema_syntax_tokens.proofs.Lawful.{no_hex_escape, braced_escape}
use Rattle.schema_syntax_tokens.proofs.places.escape_of.Goals as goal

pub returns-in-Some : goal.returns-in-Some
returns-in-Some c =
    braced_escape c.args.rest.now c.in-Some.len c.in-Some.character (omega arith) (omega arith) (omega arith)
    (subst (λ t. IsBraced t c.in-Some.len c.in-Some.character) (take_rest c.args.rest.now 3) c.in-Some.ensures)

pub returns-in-None-hex_pair : goal.returns-in-None-hex_pair
returns-in-None-hex_pair c =
    let b : get_or c.args.rest.now 1 0 ≡ 120 = grind arith in
    no_hex_escape c.args.rest.now b (subst (λ t. NoHexPair t) (take_rest c.args.rest.now 2) c.in-None-hex_pair.ensures)

pub returns-in-None : goal.returns-in-None
returns-in-None c = grind (arith, common_steps)

pub returns-in-Some-hex_pair : goal.returns-in-Some-hex_pair
returns-in-Some-hex_pair c = grind (arith, common_steps)
