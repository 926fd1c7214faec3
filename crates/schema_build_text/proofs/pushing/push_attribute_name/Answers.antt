use Rattle.std.proofs.Common.{sym, ◌∙◌}
use Rattle.std.proofs.lemmas.Result.{on_ok_weaker}
use Rattle.schema_build_text.proofs.Bytes.{bare_added, quoted_added}
use Rattle.schema_build_text.proofs.pushing.push_attribute_name.Goals as goal

pub returns-then-is_bare : goal.returns-then-is_bare
returns-then-is_bare c =
    on_ok_weaker c.push.result (λ e. bare_added c.args.name.now e c.as_str.ensures.bytes
    (sym c.is_bare.ensures ∙ c.if-is_bare.true)) c.push.ensures

pub returns-else-is_bare : goal.returns-else-is_bare
returns-else-is_bare c =
    on_ok_weaker c.push_string.result
    (λ e. quoted_added c.args.name.now e (sym c.is_bare.ensures ∙ c.if-is_bare.false)) c.push_string.ensures
