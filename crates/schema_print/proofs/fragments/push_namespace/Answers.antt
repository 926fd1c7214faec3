use Rattle.std.proofs.Common.{ap, sym, true, ◌∙◌}
use Rattle.std.proofs.lemmas.Result.{on_ok_weaker}
use Rattle.schema_syntax_tokens.specs.Laid.{laid}
use Rattle.schema_print_text.specs.Growing.{then, so}
use Rattle.schema_print.specs.PrintedFragments.{named_block, items_pieces}
use Rattle.schema_print_text.specs.PrintedTypes.{printed_name}
use Rattle.cedar_identifiers.specs.Names.{components_of}
use Rattle.schema_print.proofs.Spelled.{block_laid}
use Rattle.schema_print.proofs.fragments.push_namespace.Goals as goal

pub returns-in-None : goal.returns-in-None
returns-in-None g c =
    on_ok_weaker c.push_items.result
    (λ e. so e (ap (λ o. laid (named_block g.N.NameText.components true o c.args.namespace.now)) (sym c.in-None.is)))
    c.push_items.ensures

pub returns-in_ok-push_items-in-Some : goal.returns-in_ok-push_items-in-Some
returns-in_ok-push_items-in-Some g c =
    on_ok_weaker c.push-in-Some-2.result (λ e.
    let names = g.N.NameText.components in
    let n = c.args.namespace.now in
    so
    (then c.in_ok-push_notes-in-Some.ensures
    (then c.in_ok-push-in-Some.ensures
    (then c.in_ok-push_name-in-Some.ensures
    (then c.in_ok-push-in-Some-2.ensures (then c.in_ok-push_items-in-Some.ensures e)))))
    (block_laid n.annotations.0 (printed_name (components_of c.in-Some.name.name)) (items_pieces names true 2 n)
    ∙ ap (λ o. laid (named_block names true o n)) (sym c.in-Some.is))) c.push-in-Some-2.ensures
