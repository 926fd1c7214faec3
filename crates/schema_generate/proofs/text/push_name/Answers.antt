use Rattle.std.proofs.Common.{◌++◌, ◌∙◌, decimal, ap₂, append_assoc}
use Rattle.std.proofs.lemmas.Result.{on_ok_weaker}
use Rattle.std.proofs.lemmas.Str.{chars-IsAscii}
use Rattle.schema_generate.proofs.text.push_name.Goals as goal

pub returns : goal.returns
returns c = on_ok_weaker c.push_str.result
    (λ e.
    let digits = chars-IsAscii c.format.result.now c.format.ensures.ascii ∙ c.format.ensures.text in
    e ∙ (ap₂ (λ x y. x ++ y) c.in_ok-push_words.ensures digits
    ∙ append_assoc c.args.text.now c.args.letter.now (decimal c.args.number)))
    c.push_str.ensures.ok
