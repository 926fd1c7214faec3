use Rattle.std.proofs.Common.{sym, ◌∙◌}
use Rattle.std.proofs.lemmas.Result.{on_ok_weaker}
use Rattle.schema_print_text.specs.Growing.{adds_nothing, then, so}
use Rattle.schema_print_text.specs.PrintedTypes.{printed_type}
use Rattle.schema_print.proofs.Spelled.{shape_none, shape_some}
use Rattle.schema_print.proofs.bodies.push_shape.Goals as goal

pub returns-then-has_no_attributes : goal.returns-then-has_no_attributes
returns-then-has_no_attributes g c =
    so (adds_nothing c.args.text.now)
    (shape_none c.args.base (printed_type g.N.NameText.components c.args.shape.now)
    (sym c.has_no_attributes.ensures ∙ c.if-has_no_attributes.true))

pub returns : goal.returns
returns g c =
    on_ok_weaker c.push_type.result (λ e.
    so (then c.in_ok-push.ensures e)
    (shape_some c.args.base (printed_type g.N.NameText.components c.args.shape.now)
    (sym c.has_no_attributes.ensures ∙ c.if-has_no_attributes.false))) c.push_type.ensures
