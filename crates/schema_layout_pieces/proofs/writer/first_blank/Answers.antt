use Rattle.std.proofs.Common.{◌≡◌, ◌≤◌, ◌<◌, ◌++◌, ◌∷◌, ℕ, List, [], length, drop, get_or, refl, sym, ap, ◌∙◌, subst}
use Rattle.std.proofs.Common.{rules, arith}
use Rattle.std.proofs.lemmas.Str.{IsCharBoundary-after_ascii, encode_ascii}
use Rattle.std.specs.Char.{encode_utf8}
use Rattle.schema_syntax_tokens.specs.Steps.{IsPrinted}
use Rattle.schema_syntax_tokens.proofs.Blank.{NoBlank-empty, NoBlank-other, NoBlank-printed}
use Rattle.schema_layout_pieces.proofs.writer.first_blank.Goals as goal

-- a text whose first byte is a space
behind_space : (rest : List ℕ) → 1 ≤ length rest → get_or rest 0 0 ≡ 32 → rest ≡ encode_utf8 32 ++ drop 1 rest
behind_space [] some is = absurd (omega (arith, some))
behind_space (b ∷ after) some is =
    ap (λ c. c ∷ after) is ∙ ap (λ t. t ++ after) (sym (encode_ascii 32 (omega arith)))

pub split_at-requires : goal.split_at-requires
split_at-requires c =
    let same = c.as_bytes.ensures.value in
    let some : 1 ≤ length c.args.rest.now = subst (λ t. 1 ≤ length t) same c.in-len1-up.len_at_least in
    let space : get_or c.args.rest.now 0 0 ≡ 32 = subst (λ t. get_or t 0 0 ≡ 32) same c.if-first-eq32.true in
    IsCharBoundary-after_ascii c.args.rest.now 0 c.utf8.rest (omega (arith, some)) (omega (arith, space))

pub returns-then-first-eq32-clause-cases : goal.returns-then-first-eq32-clause-cases
returns-then-first-eq32-clause-cases c =
    let same = c.as_bytes.ensures.value in
    let some : 1 ≤ length c.args.rest.now = subst (λ t. 1 ≤ length t) same c.in-len1-up.len_at_least in
    let space : get_or c.args.rest.now 0 0 ≡ 32 = subst (λ t. get_or t 0 0 ≡ 32) same c.if-first-eq32.true in
    (refl, behind_space c.args.rest.now some space ∙ ap (λ t. encode_utf8 32 ++ t) (sym c.split_at.ensures.back))

pub returns-then-starts_no_blank-clause-cases : goal.returns-then-starts_no_blank-clause-cases
returns-then-starts_no_blank-clause-cases c =
    let same = c.as_bytes.ensures.value in
    let some : 1 ≤ length c.args.rest.now = subst (λ t. 1 ≤ length t) same c.in-len1-up.len_at_least in
    let printed : IsPrinted (get_or c.args.rest.now 0 0) = subst (λ t. IsPrinted (get_or t 0 0)) same
    (c.starts_no_blank.ensures.0 c.if-starts_no_blank.true) in
    λ _. NoBlank-printed c.args.rest.now some printed

pub returns-in_err-first-clause-cases : goal.returns-in_err-first-clause-cases
returns-in_err-first-clause-cases c =
    rw (c.from_residual.ensures) (λ _. NoBlank-empty c.args.rest.now
    (ap length (sym c.chars-chars.ensures.rest) ∙ c.in_err-first.ensures.steps.0.0))

pub returns-clause-cases : goal.returns-clause-cases
returns-clause-cases c none =
    NoBlank-other c.args.rest.now c.next.new.self.rest.now c.in_ok-first.first
    (sym c.chars-chars.ensures.rest ∙ c.in_ok-first.ensures.steps.0)
    (sym c.is_whitespace.ensures ∙ c.if-is_whitespace.false) none
