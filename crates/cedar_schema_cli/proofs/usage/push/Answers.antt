use Rattle.std.proofs.Common.{◌++◌, ap, ◌∙◌}
use Rattle.std.proofs.lemmas.Result.{on_ok_weaker}
use Rattle.cedar_data.proofs.Ascii.{chars-from_test}
use Rattle.cedar_schema_cli.proofs.usage.push.Goals as goal

pub returns : goal.returns
returns c = on_ok_weaker c.push_str.result
    (λ e. e ∙ ap (λ x. c.args.out.now ++ x) (chars-from_test c.args.words.now c.requires)) c.push_str.ensures.ok
