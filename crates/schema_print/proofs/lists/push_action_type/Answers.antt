use Rattle.std.proofs.Common.{ap, sym}
use Rattle.std.proofs.lemmas.Result.{on_ok_weaker}
use Rattle.schema_syntax_tokens.specs.Laid.{laid}
use Rattle.laws_written.specs.Printed.{path_pieces}
use Rattle.schema_print_text.specs.Growing.{so}
use Rattle.schema_print.specs.PrintedFragments.{parent_type}
use Rattle.schema_print.proofs.lists.push_action_type.Goals as goal

pub returns-in-Some : goal.returns-in-Some
returns-in-Some g c =
    on_ok_weaker c.push_name.result
    (λ e. so e (ap (λ o. laid (path_pieces (parent_type g.N.NameText.components o))) (sym c.in-Some.is)))
    c.push_name.ensures

pub returns-in-None : goal.returns-in-None
returns-in-None g c =
    on_ok_weaker c.push.result (λ e. so e
    (ap (λ o. laid (path_pieces (parent_type g.N.NameText.components o))) (sym c.in-None.is))) c.push.ensures
