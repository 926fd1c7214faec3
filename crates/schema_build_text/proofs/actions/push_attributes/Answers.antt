use Rattle.std.proofs.Common.{sym, ◌∙◌}
use Rattle.std.proofs.lemmas.Result.{on_ok_weaker}
use Rattle.schema_build_text.specs.Growing.{so}
use Rattle.schema_build_text.proofs.Declared.{no_context, some_context}
use Rattle.schema_build_text.proofs.actions.push_attributes.Goals as goal

pub returns-then-is_empty : goal.returns-then-is_empty
returns-then-is_empty c = on_ok_weaker c.push.result
    (λ e. so e (no_context c.args.base c.args.entries.now (sym c.is_empty.ensures ∙ c.if-is_empty.true))) c.push.ensures

pub returns-else-is_empty : goal.returns-else-is_empty
returns-else-is_empty c = on_ok_weaker c.push_record.result
    (λ e. so e (some_context c.args.base c.args.entries.now (sym c.is_empty.ensures ∙ c.if-is_empty.false)))
    c.push_record.ensures
