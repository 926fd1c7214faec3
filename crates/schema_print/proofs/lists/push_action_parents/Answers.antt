use Rattle.std.proofs.Common.{ap, sym, map}
use Rattle.std.proofs.lemmas.Result.{on_ok_weaker}
use Rattle.schema_syntax_tokens.specs.Laid.{laid}
use Rattle.laws_written.specs.PrintedDecls.{parents_pieces, ref_pieces}
use Rattle.schema_print_text.specs.Growing.{adds_nothing, so}
use Rattle.schema_print.specs.PrintedFragments.{printed_parent, printed_parents}
use Rattle.schema_print.proofs.lists.push_action_parents.Goals as goal

pub returns-in-None : goal.returns-in-None
returns-in-None g c =
    so (adds_nothing c.args.text.now)
    (ap (λ o. laid (parents_pieces ref_pieces (printed_parents g.N.NameText.components o))) (sym c.in-None.is))

pub returns-in-Some : goal.returns-in-Some
returns-in-Some g c =
    on_ok_weaker c.push_actions.result
    (λ e. so (so e (ap (λ as'. laid (parents_pieces ref_pieces (map (printed_parent g.N.NameText.components) as')))
    c.as_slice.ensures))
    (ap (λ o. laid (parents_pieces ref_pieces (printed_parents g.N.NameText.components o))) (sym c.in-Some.is)))
    c.push_actions.ensures
