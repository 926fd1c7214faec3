use Rattle.std.proofs.Common.{◌≡◌, ◌≤◌, length, get_or, sym, subst, arith}
use Rattle.std.proofs.lemmas.Str.{IsCharBoundary-after_ascii}
use Rattle.schema_syntax_tokens.specs.Scans.{IsPastBlank}
use Rattle.schema_syntax_tokens.specs.Steps.{IsPrinted}
use Rattle.schema_syntax_tokens.proofs.Blank.{past_space, NoBlank-printed}
use Rattle.schema_syntax_tokens.proofs.blanks.past_blank.Goals as goal

pub split_at-requires : goal.split_at-requires
split_at-requires c =
    let same = c.as_bytes.ensures.value in
    let some : 1 ≤ length c.args.rest.now = subst (λ t. 1 ≤ length t) same c.in-len1-up.len_at_least in
    let space : get_or c.args.rest.now 0 0 ≡ 32 = subst (λ t. get_or t 0 0 ≡ 32) same c.if-first-eq32.true in
    IsCharBoundary-after_ascii c.args.rest.now 0 c.utf8.rest (omega (arith, some)) (omega (arith, space))

pub returns-then-first-eq32-clause-cases : goal.returns-then-first-eq32-clause-cases
returns-then-first-eq32-clause-cases c =
    let same = c.as_bytes.ensures.value in
    let some : 1 ≤ length c.args.rest.now = subst (λ t. 1 ≤ length t) same c.in-len1-up.len_at_least in
    let space : get_or c.args.rest.now 0 0 ≡ 32 = subst (λ t. get_or t 0 0 ≡ 32) same c.if-first-eq32.true in
    subst (λ t. IsPastBlank c.args.rest.now t) (sym c.split_at.ensures.back) (past_space c.args.rest.now some space)

pub returns-then-starts_no_blank-clause-cases : goal.returns-then-starts_no_blank-clause-cases
returns-then-starts_no_blank-clause-cases c =
    let same = c.as_bytes.ensures.value in
    let some : 1 ≤ length c.args.rest.now = subst (λ t. 1 ≤ length t) same c.in-len1-up.len_at_least in
    let printed : IsPrinted (get_or c.args.rest.now 0 0) = subst (λ t. IsPrinted (get_or t 0 0)) same
    (c.starts_no_blank.ensures.0 c.if-starts_no_blank.true) in
    NoBlank-printed c.args.rest.now some printed
