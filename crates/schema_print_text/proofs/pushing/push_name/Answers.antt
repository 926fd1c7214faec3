use Rattle.std.proofs.lemmas.Result.{on_ok_weaker}
use Rattle.schema_print_text.proofs.Bytes.{name_added}
use Rattle.schema_print_text.proofs.pushing.push_name.Goals as goal

pub returns : goal.returns
returns g c =
    on_ok_weaker c.push.result (λ e.
    name_added c.in_ok-name.name (g.N.NameText.components c.args.name.now) e c.as_str.ensures.bytes
    c.in_ok-name.ensures.text) c.push.ensures
