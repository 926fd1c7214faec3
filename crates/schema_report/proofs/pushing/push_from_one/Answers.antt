use Rattle.std.proofs.Common.{◌++◌, ap, ◌∙◌}
use Rattle.std.proofs.lemmas.Result.{on_ok_weaker}
use Rattle.std.proofs.lemmas.Str.{chars-IsAscii}
use Rattle.schema_report.proofs.pushing.push_from_one.Goals as goal

pub returns : goal.returns
returns c = on_ok_weaker c.push_str.result
    (λ e. e ∙ ap (λ x. c.args.out.now ++ x)
    (chars-IsAscii c.format.result.now c.format.ensures.ascii ∙ c.format.ensures.text)) c.push_str.ensures.ok
