use Rattle.std.proofs.lemmas.Grind.{common_steps}
use Rattle.std.proofs.Common.{◌≡◌, ◌≤◌, ◌-◌, length, take, get_or, ap, ◌∙◌, subst, arith}
use Rattle.schema_syntax_tokens.proofs.Quotation.{boundary_opened}
use Rattle.schema_syntax_tokens.proofs.token.between_quotes.Goals as goal

pub split_at-requires-2 : goal.split_at-requires-2
split_at-requires-2 c =
    let part = c.args.part.now in
    let same = c.as_bytes-bytes.ensures.value in
    let len : 2 ≤ length part = subst (λ t. 2 ≤ length t) same c.if-len-lt2.false in
    let first : get_or part 0 0 ≡ 34 = subst (λ t. get_or t 0 0 ≡ 34) same c.if-bytes-ne34.false in
    let last : get_or part (length part - 1) 0
    ≡ 34 = subst (λ t. get_or t (length t - 1) 0 ≡ 34) same c.if-bytes-len-ne34.false in
    let front : c.split_at.result.0.now ≡ take (length part - 1) part = c.split_at.ensures.front
    ∙ ap (λ t. take (length t - 1) part) same in
    boundary_opened part c.split_at.result.0.now (length part - 1) c.utf8.part front (omega arith)
    (omega arith) first last

pub returns : goal.returns
returns c = grind (arith, common_steps)

pub returns-then-bytes-len-ne34 : goal.returns-then-bytes-len-ne34
returns-then-bytes-len-ne34 c = grind (arith, common_steps)

pub returns-then-len-lt2 : goal.returns-then-len-lt2
returns-then-len-lt2 c = grind (arith, common_steps)
