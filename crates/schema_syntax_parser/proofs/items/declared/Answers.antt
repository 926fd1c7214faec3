use Rattle.std.proofs.Common.{refl}
use Rattle.schema_syntax_parser.specs.Reading.{declared_at}
use Rattle.schema_syntax_parser.proofs.items.declared.Goals as goal

pub returns : goal.returns
unfolding declared_at
returns c = rw (c.in_ok-annotations.ensures, c.in_ok-decl.ensures, c.place-loc.ensures) refl
