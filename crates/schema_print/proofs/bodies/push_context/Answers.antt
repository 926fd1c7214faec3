use Rattle.std.proofs.Common.{sym, ◌∙◌}
use Rattle.std.proofs.lemmas.Result.{on_ok_weaker}
use Rattle.schema_print_text.specs.Growing.{so}
use Rattle.schema_print_text.specs.PrintedTypes.{printed_type}
use Rattle.schema_print.proofs.Spelled.{context_none, context_some}
use Rattle.schema_print.proofs.bodies.push_context.Goals as goal

pub returns-then-has_no_attributes : goal.returns-then-has_no_attributes
returns-then-has_no_attributes g c =
    on_ok_weaker c.push.result (λ e. so e
    (context_none c.args.base (printed_type g.N.NameText.components c.args.context.now)
    (sym c.has_no_attributes.ensures ∙ c.if-has_no_attributes.true))) c.push.ensures

pub returns-else-has_no_attributes : goal.returns-else-has_no_attributes
returns-else-has_no_attributes g c =
    on_ok_weaker c.push_type.result
    (λ e. so e (context_some c.args.base (printed_type g.N.NameText.components c.args.context.now)
    (sym c.has_no_attributes.ensures ∙ c.if-has_no_attributes.false))) c.push_type.ensures
