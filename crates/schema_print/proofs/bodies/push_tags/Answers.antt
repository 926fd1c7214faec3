use Rattle.std.proofs.Common.{ap, sym, true, rules}
use Rattle.std.specs.Option.{option_map}
use Rattle.schema_syntax_tokens.specs.Laid.{laid}
use Rattle.laws_written.specs.PrintedDecls.{tags_pieces}
use Rattle.schema_print_text.specs.Growing.{adds_nothing, so}
use Rattle.schema_print_text.specs.PrintedTypes.{printed_type}
use Rattle.schema_print.proofs.bodies.push_tags.Goals as goal

pub returns-in-None : goal.returns-in-None
returns-in-None g c =
    so (adds_nothing c.args.text.now)
    (ap (λ o. laid (tags_pieces true (option_map (printed_type g.N.NameText.components) o))) (sym c.in-None.is))

pub returns-in_err-push-in-Some : goal.returns-in_err-push-in-Some
returns-in_err-push-in-Some g c = search rules
