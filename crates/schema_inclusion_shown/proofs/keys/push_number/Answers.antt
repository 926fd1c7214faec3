use Rattle.std.proofs.Common.{◌≡◌, ◌++◌, ap, ◌∙◌, to_z-of_z, arith}
use Rattle.std.specs.Fmt.{signed_decimal}
use Rattle.std.proofs.lemmas.Result.{on_ok_weaker}
use Rattle.std.proofs.lemmas.Str.{chars-IsAscii}
use Rattle.schema_inclusion_shown.proofs.keys.push_number.Goals as goal

pub returns : goal.returns
returns c =
    let told : c.format.result.now ≡ signed_decimal c.args.number = grind (arith, to_z-of_z) in
    on_ok_weaker c.push_str.result
    (λ e. record {
      grown = e ∙ ap (λ t. c.args.text.now ++ t)
          (chars-IsAscii c.format.result.now c.format.ensures.ascii ∙ told);
    })
    c.push_str.ensures.ok
