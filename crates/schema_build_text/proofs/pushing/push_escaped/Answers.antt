use Rattle.std.proofs.lemmas.Result.{on_ok_weaker}
use Rattle.schema_build_text.proofs.Strings.{escaped_added}
use Rattle.schema_build_text.proofs.pushing.push_escaped.Goals as goal

pub returns : goal.returns
returns c =
    on_ok_weaker c.push.result
    (λ e. escaped_added c.args.value.now c.new-quoted.result c.push_quoted.new.text c.as_str.result.now c.utf8.value
    c.new-quoted.ensures c.in_ok-push_quoted.ensures.ok c.as_str.ensures.bytes e)
    c.push.ensures
