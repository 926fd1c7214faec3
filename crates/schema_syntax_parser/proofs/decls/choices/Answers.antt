use Rattle.std.proofs.Common.{refl}
use Rattle.schema_syntax_parser.specs.Reading.{enum_at}
use Rattle.schema_syntax_parser.proofs.decls.choices.Goals as goal

pub returns : goal.returns
unfolding enum_at
returns c =
    rw (c.in_ok-rest.ensures, c.in_ok-choices.ensures, c.in_ok-rest-2.ensures, c.place-brackets.ensures) refl
