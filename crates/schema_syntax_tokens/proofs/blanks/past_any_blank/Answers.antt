use Rattle.std.proofs.Common.{◌≡◌, ◌≤◌, ◌++◌, length, take, drop, sym, ap, ◌∙◌, subst, rules}
use Rattle.std.specs.List.{All}
use Rattle.std.specs.Char.{encode_utf8}
use Rattle.std.proofs.lemmas.Bool.{iff_false}
use Rattle.schema_syntax_tokens.specs.Scans.{IsInLine, EndsLine, IsPastBlank}
use Rattle.schema_syntax_tokens.specs.Steps.{StartsComment}
use Rattle.schema_syntax_tokens.proofs.Blank.{NoBlank-empty, NoBlank-other, past_comment}
use Rattle.schema_syntax_tokens.proofs.blanks.past_any_blank.Goals as goal

pub returns-in_err-first-clause-cases : goal.returns-in_err-first-clause-cases
returns-in_err-first-clause-cases c =
    rw (c.from_residual.ensures) (NoBlank-empty c.args.rest.now
    (ap length (sym c.chars-chars.ensures.rest) ∙ c.in_err-first.ensures.steps.0.0))

pub returns-then-not-starts_comment-clause-cases : goal.returns-then-not-starts_comment-clause-cases
returns-then-not-starts_comment-clause-cases c =
    let begins : c.args.rest.now ≡ encode_utf8 c.in_ok-first.first
    ++ c.next.new.self.rest.now = sym c.chars-chars.ensures.rest ∙ c.in_ok-first.ensures.steps.0 in
    let none : StartsComment c.args.rest.now
    → ⊥ = λ s. iff_false c.starts_comment.ensures c.if-not-starts_comment.true
    (subst (λ t. StartsComment t) (sym c.as_bytes-bytes.ensures.value) s) in
    NoBlank-other c.args.rest.now c.next.new.self.rest.now c.in_ok-first.first begins
    (sym c.is_whitespace.ensures ∙ c.if-is_whitespace.false) none

pub returns-clause-cases : goal.returns-clause-cases
returns-clause-cases c =
    let n = c.line_len.result in
    let same = c.as_bytes-bytes.ensures.value in
    let starts : StartsComment c.args.rest.now = subst (λ t. StartsComment t) same
    (c.starts_comment.ensures.0 c.if-not-starts_comment.false) in
    let in_range : n ≤ length c.args.rest.now = subst (λ t. n ≤ length t) same c.line_len.ensures.in_range in
    let line : All IsInLine (take n c.args.rest.now) = subst (λ t. All IsInLine (take n t)) same
    c.line_len.ensures.line in
    let stop : EndsLine (drop n c.args.rest.now) = subst (λ t. EndsLine (drop n t)) same c.line_len.ensures.stop in
    subst (λ t. IsPastBlank c.args.rest.now t) (sym c.split_at.ensures.back)
    (past_comment c.args.rest.now n starts in_range line stop)

pub returns-clause-shorter : goal.returns-clause-shorter
returns-clause-shorter c = search rules

pub returns-in_err-first-clause-shorter : goal.returns-in_err-first-clause-shorter
returns-in_err-first-clause-shorter c = search rules

pub returns-then-is_whitespace-clause-cases : goal.returns-then-is_whitespace-clause-cases
returns-then-is_whitespace-clause-cases c = search rules

pub returns-then-is_whitespace-clause-shorter : goal.returns-then-is_whitespace-clause-shorter
returns-then-is_whitespace-clause-shorter c = search rules

pub returns-then-not-starts_comment-clause-shorter : goal.returns-then-not-starts_comment-clause-shorter
returns-then-not-starts_comment-clause-shorter c = search rules
