use Rattle.std.proofs.Common.{◌++◌, ap, ◌∙◌}
use Rattle.std.proofs.lemmas.Result.{on_ok_weaker}
use Rattle.cedar_data.proofs.Ascii.{chars-from_test}
use Rattle.schema_inclusion_shown.proofs.keys.push.Goals as goal

pub returns : goal.returns
returns c = on_ok_weaker c.push_str.result
    (λ e. record { grown = e ∙ ap (λ t. c.args.text.now ++ t) (chars-from_test c.args.more.now c.requires) })
    c.push_str.ensures.ok
