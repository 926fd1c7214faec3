use Rattle.std.proofs.Common.{◌≡◌, ◌++◌, [], take, drop, refl, sym, ap, ◌∙◌, subst}
use Rattle.std.specs.Str.{IsUtf8, chars}
use Rattle.std.proofs.lemmas.List.{append-nil}
use Rattle.std.proofs.lemmas.Result.{err_from_is_err_and, on_ok_weaker}
use Rattle.schema_syntax_tokens.specs.Quotes.{quoted_body, HasWritten}
use Rattle.schema_syntax_tokens.specs.Steps.{NoneEscaped, IsNextEscape}
use Rattle.schema_syntax_tokens.proofs.Quoting.{HasWritten-more, HasWritten-all, HasWritten-same, left_plain}
use Rattle.schema_syntax_tokens.proofs.Quoting.{left_to_escape, boundary_after_escaped, text_after_escape}
use Rattle.schema_syntax_tokens.proofs.quotes.push_body.Goals as goal
use Rattle.schema_syntax_tokens.proofs.quotes.push_body.Goals.{In_ok-push_str}

found : (c : In_ok-push_str) → IsNextEscape c.loop-at.rest.now c.in-Some.at c.in-Some.escape.now
found c = subst (λ t. IsNextEscape t c.in-Some.at c.in-Some.escape.now) c.as_bytes.ensures.value c.in-Some.ensures

-- what stands before the escape is written
written_plain : (c : In_ok-push_str)
    → HasWritten c.args.text.now c.push_str.new.self (chars (quoted_body (chars c.args.value.now)))
    (chars c.in-Some.escape.now ++ chars (quoted_body (chars (drop 1 (drop c.in-Some.at c.loop-at.rest.now)))))
written_plain c =
    HasWritten-more c.args.text.now c.loop-at.text c.push_str.new.self _
    (chars (take c.in-Some.at c.loop-at.rest.now)) (chars (quoted_body (chars c.loop-at.rest.now))) _
    c.loop-at.invariant.1
    (c.in_ok-push_str.ensures.ok ∙ ap (λ t. c.loop-at.text ++ chars t) c.split_at.ensures.front)
    (left_to_escape c.loop-at.rest.now c.in-Some.escape.now c.in-Some.at c.loop-at.invariant.0 (found c))

pub returns-in_err-push_str-2-clause-err : goal.returns-in_err-push_str-2-clause-err
returns-in_err-push_str-2-clause-err c =
    let d = (goal.at.returns-in_err-push_str-2-clause-err c).In_ok-push_str in
    let p = err_from_is_err_and c.from_residual-in_err-push_str-2.result c.from_residual-in_err-push_str-2.ensures.1 in
    rw (p.1) (
      _,
      HasWritten-same c.args.text.now c.push_str.new.self c.push_str-in-Some.new.self _ _ (written_plain d)
          c.in_err-push_str-2.ensures.err,
    )

pub split_at-requires-in-Some : goal.split_at-requires-in-Some
split_at-requires-in-Some c =
    let d = (goal.at.split_at-requires-in-Some c).In_ok-push_str in
    rw (c.split_at.ensures.back) (boundary_after_escaped c.loop-at.rest.now c.in-Some.escape.now c.in-Some.at
    c.loop-at.invariant.0 (found d))

pub loop-at-preserved : goal.loop-at-preserved
loop-at-preserved c =
    let d = (goal.at.loop-at-preserved c).In_ok-push_str in
    let rest : c.split_at-in-Some.result.1.now
    ≡ drop 1 (drop c.in-Some.at c.loop-at.rest.now) = c.split_at-in-Some.ensures.back
    ∙ ap (λ t. drop 1 t) c.split_at.ensures.back in (
      subst (λ t. IsUtf8 t) (sym rest)
          (text_after_escape c.loop-at.rest.now c.in-Some.escape.now c.in-Some.at c.loop-at.invariant.0 (found d)),
      subst (λ t. HasWritten c.args.text.now c.push_str-in-Some.new.self
          (chars (quoted_body (chars c.args.value.now))) (chars (quoted_body (chars t)))) (sym rest)
          (HasWritten-more c.args.text.now c.push_str.new.self c.push_str-in-Some.new.self _
          (chars c.in-Some.escape.now) _ _ (written_plain d) c.in_ok-push_str-2.ensures.ok refl),
    )

pub returns-clause-ok : goal.returns-clause-ok
returns-clause-ok c =
    let rest = c.loop-at.rest.now in
    let none : NoneEscaped rest = subst (λ t. NoneEscaped t) c.as_bytes.ensures.value c.in_default.ensures in
    let left : chars (quoted_body (chars rest)) ≡ chars rest ++ [] = left_plain rest c.loop-at.invariant.0 none
    ∙ sym (append-nil (chars rest)) in
    on_ok_weaker c.push_str-2.result
    (λ ok. HasWritten-all c.args.text.now c.push_str-2.new.self (chars (quoted_body (chars c.args.value.now)))
    (HasWritten-more c.args.text.now c.loop-at.text c.push_str-2.new.self
    (chars (quoted_body (chars c.args.value.now))) (chars rest) (chars (quoted_body (chars rest))) []
    c.loop-at.invariant.1 ok left))
    c.push_str-2.ensures.ok
