use Rattle.std.proofs.Common.{Some, ap, arith, sym, ◌∙◌}
use Rattle.std.proofs.lemmas.Grind.{common_steps}
use Rattle.std.proofs.lemmas.Option.{slice_get-get_or}
use Rattle.schema_syntax.proofs.syntax_fault.unrecognized_token.Goals as goal

pub returns : goal.returns
returns c =
    let token = c.index-tokens-place.result in (
      token,
      slice_get-get_or c.args.tokens.now c.args.place token c.requires.within ∙ ap (λ t. Some t) (sym c.index-tokens-place.is),
      grind (arith, common_steps),
    )
