use Rattle.std.proofs.Common.{◌≡◌, length, sym, ap, ◌∙◌, subst, arith}
use Rattle.std.specs.List.{prefix_len}
use Rattle.std.proofs.lemmas.Bool.Decides.{nat_tests}
use Rattle.schema_syntax_tokens.specs.Escapes.{Unescapes}
use Rattle.schema_syntax_tokens.specs.Steps.{is_unescaped}
use Rattle.schema_syntax_tokens.proofs.Pieces.{without_backslash}
use Rattle.schema_syntax_tokens.proofs.escapes.unescape.Goals as goal

pub returns-then-plain_len-body-clause-value : goal.returns-then-plain_len-body-clause-value
returns-then-plain_len-body-clause-value c =
    let all : c.plain_len.result ≡ length c.args.body.now = grind (arith, nat_tests) in
    let plain : prefix_len is_unescaped c.args.body.now ≡ length c.args.body.now =
    sym (c.plain_len.ensures ∙ ap (prefix_len is_unescaped) c.as_bytes.ensures.value) ∙ all in
    subst (λ cs. Unescapes c.args.body.now cs) (sym c.in_ok-from_str.ensures)
    (without_backslash c.args.body.now plain c.utf8.body)
