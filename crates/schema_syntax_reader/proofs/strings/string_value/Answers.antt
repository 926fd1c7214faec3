use Rattle.std.proofs.lemmas.Grind.{common_steps}
use Rattle.std.proofs.Common.{◌≡◌, slice_range, ◌++◌, ◌∷◌, [], sym, ◌∙◌, subst, arith}
use Rattle.schema_syntax_tokens.specs.Escapes.{BadEscape}
use Rattle.schema_syntax_reader.proofs.Bodies.{one_body}
use Rattle.schema_syntax_reader.proofs.strings.string_value.Goals as goal

pub returns-in-Ok-clause-lawful : goal.returns-in-Ok-clause-lawful
returns-in-Ok-clause-lawful c = λ at bad.
    let part : slice_range c.args.text.now c.args.token.now.loc.start c.args.token.now.loc.end
    ≡ 34 ∷ (c.unwrap-body.result.now ++ 34 ∷ []) = rw c.unwrap-body.ensures at c.string_body.ensures.value in
    let same : bad.0 ≡ c.unwrap-body.result.now = one_body bad.0 c.unwrap-body.result.now (sym bad.2 ∙ part) in
    c.one_value.ensures.value_or_bad c.unwrap-body.result.now c.in-Ok.value bad.1 c.in-Ok.ensures
    (subst (λ b. BadEscape b bad.1) same bad.3)

pub overflow_add-at-in-Err : goal.overflow_add-at-in-Err
overflow_add-at-in-Err c = grind (arith, common_steps)
