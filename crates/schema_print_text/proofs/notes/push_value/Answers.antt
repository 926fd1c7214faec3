use Rattle.std.proofs.Common.{ap, sym}
use Rattle.schema_syntax_tokens.specs.Laid.{laid}
use Rattle.laws_written.specs.Printed.{value_pieces}
use Rattle.schema_print_text.specs.Growing.{adds_nothing, so}
use Rattle.schema_print_text.proofs.notes.push_value.Goals as goal

pub returns-in-None : goal.returns-in-None
returns-in-None c = so (adds_nothing c.args.text.now) (ap (λ v. laid (value_pieces v)) (sym c.in-None.is))
