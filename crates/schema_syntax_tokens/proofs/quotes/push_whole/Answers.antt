use Rattle.std.proofs.Common.{◌≡◌, ◌++◌, [], ◌∷◌, refl, sym}
use Rattle.std.specs.Str.{chars}
use Rattle.std.proofs.lemmas.List.{append-nil}
use Rattle.std.proofs.lemmas.Result.{err_from_is_err_and, on_ok_weaker, on_err_weaker}
use Rattle.schema_syntax_tokens.specs.Quotes.{quoted, quoted_body, HasWritten}
use Rattle.schema_syntax_tokens.proofs.Quoting.{HasWritten-none, HasWritten-more, HasWritten-all, HasWritten-same}
use Rattle.schema_syntax_tokens.proofs.Quoting.{left_quoted, front_of_part}
use Rattle.schema_syntax_tokens.proofs.quotes.push_whole.Goals as goal
use Rattle.schema_syntax_tokens.proofs.quotes.push_whole.Goals.{In_ok-push_str, In_ok-push_body}

-- the opening quote is written
opened : (c : In_ok-push_str)
    → HasWritten c.args.text.now c.push_str.new.self (chars (quoted (chars c.args.value.now)))
    (chars (quoted_body (chars c.args.value.now)) ++ chars (34 ∷ []))
opened c =
    HasWritten-more c.args.text.now c.args.text.now c.push_str.new.self (chars (quoted (chars c.args.value.now)))
    (chars (34 ∷ [])) (chars (quoted (chars c.args.value.now)))
    (chars (quoted_body (chars c.args.value.now)) ++ chars (34 ∷ []))
    (HasWritten-none c.args.text.now (chars (quoted (chars c.args.value.now)))) c.in_ok-push_str.ensures.ok
    (left_quoted c.args.value.now c.utf8.value)

-- and the body
filled : (d : In_ok-push_str) (c : In_ok-push_body)
    → c.push_body.new.text ≡ d.push_str.new.self ++ chars (quoted_body (chars d.args.value.now))
    → HasWritten d.args.text.now c.push_body.new.text (chars (quoted (chars d.args.value.now))) (chars (34 ∷ []))
filled d c e =
    HasWritten-more d.args.text.now d.push_str.new.self c.push_body.new.text (chars (quoted (chars d.args.value.now)))
    (chars (quoted_body (chars d.args.value.now)))
    (chars (quoted_body (chars d.args.value.now)) ++ chars (34 ∷ [])) (chars (34 ∷ [])) (opened d) e refl

pub returns-in_err-push_str-clause-err : goal.returns-in_err-push_str-clause-err
returns-in_err-push_str-clause-err c =
    let p = err_from_is_err_and c.from_residual.result c.from_residual.ensures.1 in
    rw (p.1) (
      chars (quoted (chars c.args.value.now)),
      HasWritten-same c.args.text.now c.args.text.now
          c.push_str.new.self (chars (quoted (chars c.args.value.now))) (chars (quoted (chars c.args.value.now)))
          (HasWritten-none c.args.text.now (chars (quoted (chars c.args.value.now)))) c.in_err-push_str.ensures.err,
    )

pub returns-in_err-push_body-clause-err : goal.returns-in_err-push_body-clause-err
returns-in_err-push_body-clause-err c =
    let d = (goal.at.returns-in_err-push_body-clause-err c).In_ok-push_str in
    let p = err_from_is_err_and c.from_residual-in_err-push_body.result c.from_residual-in_err-push_body.ensures.1 in
    rw (p.1) (front_of_part c.args.text.now c.push_str.new.self c.push_body.new.text
    (chars (quoted (chars c.args.value.now))) (chars (quoted_body (chars c.args.value.now))) (chars (34 ∷ []))
    (opened d) c.in_err-push_body.ensures.err)

pub returns-clause-ok : goal.returns-clause-ok
returns-clause-ok c =
    let d = (goal.at.returns-clause-ok c).In_ok-push_str in
    let e = (goal.at.returns-clause-ok c).In_ok-push_body in
    let full = filled d e c.in_ok-push_body.ensures.ok in
    on_ok_weaker c.push_str-2.result
    (λ ok. HasWritten-all c.args.text.now c.push_str-2.new.self (chars (quoted (chars c.args.value.now)))
    (HasWritten-more c.args.text.now c.push_body.new.text c.push_str-2.new.self
    (chars (quoted (chars c.args.value.now))) (chars (34 ∷ [])) (chars (34 ∷ [])) [] full ok
    (sym (append-nil (chars (34 ∷ []))))))
    c.push_str-2.ensures.ok

pub returns-clause-err : goal.returns-clause-err
returns-clause-err c =
    let d = (goal.at.returns-clause-err c).In_ok-push_str in
    let e = (goal.at.returns-clause-err c).In_ok-push_body in
    let full = filled d e c.in_ok-push_body.ensures.ok in
    on_err_weaker c.push_str-2.result
    (λ same. (
      chars (34 ∷ []),
      HasWritten-same c.args.text.now c.push_body.new.text c.push_str-2.new.self
          (chars (quoted (chars c.args.value.now))) (chars (34 ∷ [])) full same,
    ))
    c.push_str-2.ensures.err
