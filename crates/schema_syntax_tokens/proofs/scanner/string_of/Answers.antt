use Rattle.std.proofs.Common.{subst}
use Rattle.std.proofs.lemmas.List.{take_rest}
use Rattle.schema_syntax_tokens.specs.Forms.{NoBody, IsBodyEnd}
use Rattle.schema_syntax_tokens.proofs.Longest.{longest_string, no_string}
use Rattle.schema_syntax_tokens.proofs.scanner.string_of.Goals as goal

pub returns-in-None : goal.returns-in-None
returns-in-None c = no_string c.args.rest.now c.requires
    (subst (λ t. NoBody t) (take_rest c.args.rest.now 1) (c.in-None.ensures))

pub returns-in-Some : goal.returns-in-Some
returns-in-Some c =
    longest_string c.args.rest.now c.in-Some.len c.requires
    (subst (λ t. IsBodyEnd t c.in-Some.len) (take_rest c.args.rest.now 1) (c.in-Some.ensures))
