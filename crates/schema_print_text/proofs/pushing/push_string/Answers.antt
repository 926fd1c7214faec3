use Rattle.std.proofs.lemmas.Result.{on_ok_weaker}
use Rattle.schema_print_text.proofs.Bytes.{string_added}
use Rattle.schema_print_text.proofs.pushing.push_string.Goals as goal

pub returns : goal.returns
returns c =
    on_ok_weaker c.push_quoted.result
    (λ e. string_added c.args.text.now c.push_quoted.new.text c.args.value.now c.as_str.result.now
    c.as_str.ensures.bytes c.as_str.ensures.characters e)
    c.push_quoted.ensures.ok
