use Rattle.std.proofs.Common.{sym, ◌∙◌}
use Rattle.std.proofs.lemmas.Result.{on_ok_weaker}
use Rattle.schema_build_text.specs.Growing.{adds_nothing, then, so}
use Rattle.schema_build_text.proofs.Declared.{no_shape, some_shape}
use Rattle.schema_build_text.proofs.entity_types.push_shape.Goals as goal

pub returns-then-is_empty : goal.returns-then-is_empty
returns-then-is_empty c = so (adds_nothing c.args.text.now)
    (no_shape c.args.base c.args.entries.now (sym c.is_empty.ensures ∙ c.if-is_empty.true))

pub returns : goal.returns
returns c =
    on_ok_weaker c.push_members.result (λ e.
    so (then c.in_ok-push.ensures e)
    (some_shape c.args.base c.args.entries.now (sym c.is_empty.ensures ∙ c.if-is_empty.false))) c.push_members.ensures
